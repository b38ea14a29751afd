-- Chains and paths: which expressions are one, and what joins them.
use Rattle.std.proofs.Common.{◌≡◌, ℕ, Bool, true, false, List, [], ◌∷◌, ◌++◌, sym, ap, refl, ◌∙◌, rules}
use Rattle.std.specs.Prelude.{if◌then◌else◌}
use Rattle.cs_lang.specs.declared.tree.Rank.{Rank}
use Rattle.cs_lang.specs.declared.tree.Rank.TheVariants as rank
use Rattle.cs_lang.specs.declared.tree.Operator.{Operator}
use Rattle.cs_lang.specs.declared.tree.Expr.{Expr, out-Expr}
use Rattle.cs_lang.specs.declared.tree.Shape.{Shape, out-Shape, roll-Shape}
use Rattle.cs_lang.specs.declared.tree.Shape.TheVariants as shape
use Rattle.cs_lang.specs.declared.tree.Shape.TheVariants.{rolls-Path, rolls-Chain}
use Rattle.cs_lang.specs.declared.tree.Link.{Link, roll-Link}
use Rattle.cs_lang.specs.declared.tree.Step.{Step, roll-Step}
use Rattle.cs_lang.specs.declared.tree.Access.{Access}
use Rattle.cs_lang.specs.declared.tree.Access.TheViews.{the_lemmas}
use Rattle.cs_lang.specs.declared.tree.Access.TheOpen.{Shape-F}
use Rattle.cs_lang.specs.Trees.{tree, first_token_of, shape_of, OpenedTree, same_rank, shape_is_chain, is_chain, chain_begun, chain_extended, with_link, shape_is_path, is_path, path_begun, path_extended, with_step}
use Rattle.cs_lang.proofs.Opened.{out_path, out_chain}

pub rolled : (s : Shape) → roll-Shape (out-Shape s) ≡ s
rolled s = search (rules, the_lemmas)

rank_is : (r s : Rank) → same_rank r s ≡ true → r ≡ s
rank_is rank.Or rank.Or e = refl
rank_is rank.And rank.And e = refl
rank_is rank.Sum rank.Sum e = refl
rank_is rank.Product rank.Product e = refl
rank_is rank.Or rank.And e = absurd cc
rank_is rank.Or rank.Sum e = absurd cc
rank_is rank.Or rank.Product e = absurd cc
rank_is rank.And rank.Or e = absurd cc
rank_is rank.And rank.Sum e = absurd cc
rank_is rank.And rank.Product e = absurd cc
rank_is rank.Sum rank.Or e = absurd cc
rank_is rank.Sum rank.And e = absurd cc
rank_is rank.Sum rank.Product e = absurd cc
rank_is rank.Product rank.Or e = absurd cc
rank_is rank.Product rank.And e = absurd cc
rank_is rank.Product rank.Sum e = absurd cc

pub same_ranks : (r s : Rank) → same_rank r s ≡ true → r ≡ s
same_ranks = rank_is

pub rank_itself : (r : Rank) → same_rank r r ≡ true
rank_itself rank.Or = refl
rank_itself rank.And = refl
rank_itself rank.Sum = refl
rank_itself rank.Product = refl

-- an expression from its parts
pub tree_is : (e : Expr) → e ≡ tree (out-Expr e).first (out-Expr e).place (shape_of e)
tree_is e = refl

-- ---- chains

chain_seen : (r : Rank) (o : OpenedTree) → shape_is_chain r o ≡ true → (s : Expr) × (ls : List Link) × (roll-Shape o ≡ shape.Chain r s ls)
chain_seen r (Shape-F.Chain old s ls) e = (s, ls, rolls-Chain old s ls ∙ ap (λ (q : Rank). shape.Chain q s ls) (same_ranks old r e))
chain_seen r o e = absurd cc

pub chain_view : (r : Rank) (e : Expr) → is_chain r e ≡ true → (s : Expr) × (ls : List Link) × (e ≡ tree (first_token_of e) (out-Expr e).place (shape.Chain r s ls))
chain_view r e is =
    let v = chain_seen r (out-Shape (shape_of e)) is in
    (v.0, v.1, ap (tree (first_token_of e) (out-Expr e).place) (sym (rolled (shape_of e)) ∙ v.2))

abbrev pub Item : Type 0
Item = (Operator × ℕ) × Expr

abbrev pub link_of : Expr → Item → Link
link_of left p = roll-Link (record { operator = p.0.0; first = first_token_of left; place = p.0.1; right = p.1 })

-- behind a chain
pub link_joins : (r : Rank) (f place : ℕ) (s : Expr) (ls : List Link) (p : Item) → with_link r (tree f place (shape.Chain r s ls)) p ≡ tree f p.0.1 (shape.Chain r s (ls ++ link_of (tree f place (shape.Chain r s ls)) p ∷ []))
link_joins r f place s ls p =
    let left = tree f place (shape.Chain r s ls) in
    let test : is_chain r (tree f place (shape.Chain r s ls)) ≡ true = ap (shape_is_chain r) (out_chain r s ls) ∙ rank_itself r in
    ap (λ (b : Bool). if b then chain_extended r left p.0.1 (link_of left p) (out-Shape (shape_of left)) else chain_begun r left p.0.1 (link_of left p)) test
    ∙ ap (chain_extended r left p.0.1 (link_of left p)) (out_chain r s ls)

-- behind anything else
pub link_begins : (r : Rank) (e : Expr) (p : Item) → is_chain r e ≡ false → with_link r e p ≡ tree (first_token_of e) p.0.1 (shape.Chain r e (link_of e p ∷ []))
link_begins r e p test = ap (λ (b : Bool). if b then chain_extended r e p.0.1 (link_of e p) (out-Shape (shape_of e)) else chain_begun r e p.0.1 (link_of e p)) test

-- ---- paths

path_seen : (o : OpenedTree) → shape_is_path o ≡ true → (s : Expr) × (ls : List Step) × (roll-Shape o ≡ shape.Path s ls)
path_seen (Shape-F.Path s ls) e = (s, ls, rolls-Path s ls)
path_seen o e = absurd cc

pub path_view : (e : Expr) → is_path e ≡ true → (s : Expr) × (ls : List Step) × (e ≡ tree (first_token_of e) (out-Expr e).place (shape.Path s ls))
path_view e is =
    let v = path_seen (out-Shape (shape_of e)) is in
    (v.0, v.1, ap (tree (first_token_of e) (out-Expr e).place) (sym (rolled (shape_of e)) ∙ v.2))

abbrev pub step_of : Expr → ℕ × Access → Step
step_of left p = roll-Step (record { first = first_token_of left; place = p.0; access = p.1 })

pub step_joins : (f place : ℕ) (s : Expr) (ls : List Step) (p : ℕ × Access) → with_step (tree f place (shape.Path s ls)) p ≡ tree f p.0 (shape.Path s (ls ++ step_of (tree f place (shape.Path s ls)) p ∷ []))
step_joins f place s ls p =
    let left = tree f place (shape.Path s ls) in
    let test : is_path (tree f place (shape.Path s ls)) ≡ true = ap shape_is_path (out_path s ls) in
    ap (λ (b : Bool). if b then path_extended left p.0 (step_of left p) (out-Shape (shape_of left)) else path_begun left p.0 (step_of left p)) test
    ∙ ap (path_extended left p.0 (step_of left p)) (out_path s ls)

pub step_begins : (e : Expr) (p : ℕ × Access) → is_path e ≡ false → with_step e p ≡ tree (first_token_of e) p.0 (shape.Path e (step_of e p ∷ []))
step_begins e p test = ap (λ (b : Bool). if b then path_extended e p.0 (step_of e p) (out-Shape (shape_of e)) else path_begun e p.0 (step_of e p)) test
