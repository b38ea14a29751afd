-- What texts spell fits: operators are of the rank of their chain, and literals within their limits.
use Rattle.std.proofs.Common.{◌≡◌, ℕ, zero, suc, ◌≤◌, Bool, true, false, List, [], ◌∷◌, ◌++◌, map, refl, sym, ap, ◌∙◌, arith, rules, inl, inr}
use Rattle.std.specs.Prelude.{◌⊎◌, ◌&&◌, nat_le, length, Option, None, Some}
use Rattle.std.proofs.lemmas.Bool.Decides.{nat_tests}
use Rattle.cs_lang_token.specs.declared.token.Text.{Text}
use Rattle.cs_lang_token.specs.declared.token.Number.{Number}
use Rattle.cs_lang_token.specs.declared.kind.Kind.{Kind}
use Rattle.cs_lang_token.specs.declared.kind.Kind.TheVariants as kind
use Rattle.cs_lang_token.specs.Grammar.{Rule, pair, mapped, either, nothing, many}
use Rattle.cs_lang_token.specs.Rules.{sign, name, bytes, number, room_of, less_one, joined_left, joined_pair}
use Rattle.cs_lang_token.proofs.Spans.{AllBytes, and_first, and_second}
use Rattle.cs_lang_token.proofs.Gives.{Gives, Every, gives_mapped, gives_pair, gives_either, gives_nothing, gives_many, gives_links, gives_sign, gives_name, gives_number, gives_bytes, gives_commas}
use Rattle.cs_lang_token.proofs.Sources.{source_fine}
use Rattle.cs_lang.specs.declared.tree.ValueKind.{ValueKind}
use Rattle.cs_lang.specs.declared.tree.Rank.{Rank}
use Rattle.cs_lang.specs.declared.tree.Rank.TheVariants as rank
use Rattle.cs_lang.specs.declared.tree.Operator.{Operator}
use Rattle.cs_lang.specs.declared.tree.Operator.TheVariants as operator
use Rattle.cs_lang.specs.declared.tree.Comparison.{Comparison}
use Rattle.cs_lang.specs.declared.tree.Expr.{Expr, out-Expr}
use Rattle.cs_lang.specs.declared.tree.Shape.{Shape}
use Rattle.cs_lang.specs.declared.tree.Shape.TheVariants as shape
use Rattle.cs_lang.specs.declared.tree.Shape.TheVariants.{rolls-Number, rolls-Bytes, rolls-Truth, rolls-Name, rolls-List, rolls-Empty, rolls-Len, rolls-Sha256, rolls-Concat, rolls-Called, rolls-DepInt, rolls-Path, rolls-Not, rolls-Negative, rolls-Compared, rolls-Chain}
use Rattle.cs_lang.specs.declared.tree.Link.{Link, out-Link}
use Rattle.cs_lang.specs.declared.tree.Step.{Step, out-Step}
use Rattle.cs_lang.specs.declared.tree.Access.{Access}
use Rattle.cs_lang.specs.declared.tree.Access.TheVariants as access
use Rattle.cs_lang.specs.declared.tree.Access.TheVariants.{rolls-Field, rolls-Index}
use Rattle.cs_lang.specs.declared.tree.Access.TheOpen.{Access-F, Shape-F}
use Rattle.cs_lang.specs.declared.tree.Access.TheFolds.{fold-roll-Access, fold-roll-Shape, fold_out-Expr, fold_out-Link, fold_out-Step}
use Rattle.cs_lang.specs.declared.tree.Block.{Block, out-Block}
use Rattle.cs_lang.specs.declared.tree.Statement.{Statement, out-Statement}
use Rattle.cs_lang.specs.declared.tree.Action.{Action}
use Rattle.cs_lang.specs.declared.tree.Action.TheVariants as action
use Rattle.cs_lang.specs.declared.tree.Action.TheVariants.{rolls-Let, rolls-Set, rolls-If, rolls-IfElse, rolls-ForIn, rolls-ForTo, rolls-Make, rolls-Call, rolls-Answer}
use Rattle.cs_lang.specs.declared.tree.Action.TheViews.{the_lemmas}
use Rattle.cs_lang.specs.declared.tree.Action.TheOpen.{Action-F}
use Rattle.cs_lang.specs.declared.tree.Action.TheFolds.{fold-roll-Action, fold_out-Block, fold_out-Statement}
use Rattle.cs_lang.specs.declared.tree.Method.{Method}
use Rattle.cs_lang.specs.declared.tree.ContractTree.{ContractTree}
use Rattle.cs_lang.specs.declared.methods.Body.{Body}
use Rattle.cs_lang.specs.Trees.{tree, first_token_of, shape_of, is_chain, with_link, is_path, with_step, field_step, index_step, number_expr, bytes_expr, name_expr, truth_expr, grouped, listed, empty_expr, len_expr, sha256_expr, concat_expr, called_expr, depint_expr, negative_expr, not_expr, operation, compared_expr, statement, let_of, set_of, if_of, else_of, Range, Items, Numbers, range_of, numbers_of, for_of, inner, make_of, CallRest, Arguments, Binds, binds_of, names_in_list, call_of, answer_of, block_of, body_of_parts, method_of, first_and_others, contract_tree_of}
use Rattle.cs_lang.specs.Rules.{keyword, kinds, group, bracket, concat, called, depint, worded, primary, access as access_rule, post, operators, chain, signed, comparisons, comparison_rule, Part, Whole, Negated, Signed, product, no, rule_of, expression, arguments, if_rule, range, for_rule, make_rule, call_rest, call_rule, statement_rule, braces, statements, typedef, head, body, method, contract}
use Rattle.cs_lang.specs.Texts.{IsContract, HasText}
use Rattle.cs_lang.specs.Fits.{every, is_of_rank, number_fits, bytes_fit, LinkFits, itself, in_rank, access_layer_fits, step_layer_fits, link_layer_fits, expr_layer_fits, shape_layer_fits, expr_fits, shape_fits, link_fits, step_fits, access_fits, action_layer_fits, statement_layer_fits, block_layer_fits, block_fits, statement_fits, action_fits, method_fits, contract_fits}
use Rattle.cs_lang.proofs.Chains.{chain_view, Item, link_of, link_joins, link_begins, path_view, step_of, step_joins, step_begins}

abbrev Fit : Expr → Type 0
Fit e = expr_fits e ≡ true

both : (a b : Bool) → a ≡ true → b ≡ true → (a && b) ≡ true
both true b p q = q
both false b p q = absurd cc

bool_cases : (b : Bool) → (b ≡ true) ⊎ (b ≡ false)
bool_cases true = inl refl
bool_cases false = inr refl

at_most : (n m : ℕ) → n ≤ m → nat_le n m ≡ true
at_most n m le = grind (arith, nat_tests)

-- ---- lists

every_of : {X : Type 0} (test : X → Bool) (xs : List X) → Every (λ (x : X). test x ≡ true) xs → every test xs ≡ true
every_of test [] h = refl
every_of test (x ∷ xs) h = both (test x) (every test xs) h.0 (every_of test xs h.1)

every_mapped : {X Y : Type 0} (test : Y → Bool) (f : X → Y) (xs : List X) → every test (map f xs) ≡ every (λ (x : X). test (f x)) xs
every_mapped test f [] = refl
every_mapped test f (x ∷ xs) = ap (λ (b : Bool). test (f x) && b) (every_mapped test f xs)

every_more : {X : Type 0} (test : X → Bool) (xs : List X) (x : X) → every test xs ≡ true → test x ≡ true → every test (xs ++ x ∷ []) ≡ true
every_more test [] x h t = both (test x) true t refl
every_more test (y ∷ xs) x h t = both (test y) (every test (xs ++ x ∷ [])) (and_first (test y) (every test xs) h) (every_more test xs x (and_second (test y) (every test xs) h) t)

-- ---- one equation for each shape

expr_is : (e : Expr) → expr_fits e ≡ shape_fits (shape_of e)
unfolding expr_fits shape_fits
expr_is e = fold_out-Expr Bool Bool Bool LinkFits Bool access_layer_fits shape_layer_fits expr_layer_fits link_layer_fits step_layer_fits e

tree_is : (first place : ℕ) (s : Shape) → expr_fits (tree first place s) ≡ shape_fits s
tree_is first place s = expr_is (tree first place s)

link_is : (l : Link) (r : Rank) → link_fits l r ≡ (is_of_rank r (out-Link l).operator && expr_fits (out-Link l).right)
unfolding link_fits expr_fits
link_is l r = ap (λ (f : LinkFits). f r) (fold_out-Link Bool Bool Bool LinkFits Bool access_layer_fits shape_layer_fits expr_layer_fits link_layer_fits step_layer_fits l)

step_is : (s : Step) → step_fits s ≡ access_fits (out-Step s).access
unfolding step_fits access_fits
step_is s = fold_out-Step Bool Bool Bool LinkFits Bool access_layer_fits shape_layer_fits expr_layer_fits link_layer_fits step_layer_fits s

field_is : (name : Text) → access_fits (access.Field name) ≡ true
unfolding access_fits
field_is name = ap access_fits (sym (rolls-Field name)) ∙ fold-roll-Access Bool Bool Bool LinkFits Bool access_layer_fits shape_layer_fits expr_layer_fits link_layer_fits step_layer_fits (Access-F.Field name)

index_is : (index : Expr) → access_fits (access.Index index) ≡ expr_fits index
unfolding access_fits expr_fits
index_is index = ap access_fits (sym (rolls-Index index)) ∙ fold-roll-Access Bool Bool Bool LinkFits Bool access_layer_fits shape_layer_fits expr_layer_fits link_layer_fits step_layer_fits (Access-F.Index index)

number_is : (n : ℕ) → shape_fits (shape.Number n) ≡ number_fits n
unfolding shape_fits
number_is n = ap shape_fits (sym (rolls-Number n)) ∙ fold-roll-Shape Bool Bool Bool LinkFits Bool access_layer_fits shape_layer_fits expr_layer_fits link_layer_fits step_layer_fits (Shape-F.Number n)

bytes_is : (b : List ℕ) → shape_fits (shape.Bytes b) ≡ bytes_fit b
unfolding shape_fits
bytes_is b = ap shape_fits (sym (rolls-Bytes b)) ∙ fold-roll-Shape Bool Bool Bool LinkFits Bool access_layer_fits shape_layer_fits expr_layer_fits link_layer_fits step_layer_fits (Shape-F.Bytes b)

truth_is : (b : Bool) → shape_fits (shape.Truth b) ≡ true
unfolding shape_fits
truth_is b = ap shape_fits (sym (rolls-Truth b)) ∙ fold-roll-Shape Bool Bool Bool LinkFits Bool access_layer_fits shape_layer_fits expr_layer_fits link_layer_fits step_layer_fits (Shape-F.Truth b)

name_is : (n : List ℕ) → shape_fits (shape.Name n) ≡ true
unfolding shape_fits
name_is n = ap shape_fits (sym (rolls-Name n)) ∙ fold-roll-Shape Bool Bool Bool LinkFits Bool access_layer_fits shape_layer_fits expr_layer_fits link_layer_fits step_layer_fits (Shape-F.Name n)

list_is : (items : List Expr) → shape_fits (shape.List items) ≡ every expr_fits items
unfolding shape_fits expr_fits
list_is items = ap shape_fits (sym (rolls-List items)) ∙ fold-roll-Shape Bool Bool Bool LinkFits Bool access_layer_fits shape_layer_fits expr_layer_fits link_layer_fits step_layer_fits (Shape-F.List items) ∙ every_mapped itself expr_fits items

empty_is : (k : ValueKind) → shape_fits (shape.Empty k) ≡ true
unfolding shape_fits
empty_is k = ap shape_fits (sym (rolls-Empty k)) ∙ fold-roll-Shape Bool Bool Bool LinkFits Bool access_layer_fits shape_layer_fits expr_layer_fits link_layer_fits step_layer_fits (Shape-F.Empty k)

len_is : (part : Expr) → shape_fits (shape.Len part) ≡ expr_fits part
unfolding shape_fits expr_fits
len_is part = ap shape_fits (sym (rolls-Len part)) ∙ fold-roll-Shape Bool Bool Bool LinkFits Bool access_layer_fits shape_layer_fits expr_layer_fits link_layer_fits step_layer_fits (Shape-F.Len part)

sha256_is : (part : Expr) → shape_fits (shape.Sha256 part) ≡ expr_fits part
unfolding shape_fits expr_fits
sha256_is part = ap shape_fits (sym (rolls-Sha256 part)) ∙ fold-roll-Shape Bool Bool Bool LinkFits Bool access_layer_fits shape_layer_fits expr_layer_fits link_layer_fits step_layer_fits (Shape-F.Sha256 part)

concat_is : (front back : Expr) → shape_fits (shape.Concat front back) ≡ (expr_fits front && expr_fits back)
unfolding shape_fits expr_fits
concat_is front back = ap shape_fits (sym (rolls-Concat front back)) ∙ fold-roll-Shape Bool Bool Bool LinkFits Bool access_layer_fits shape_layer_fits expr_layer_fits link_layer_fits step_layer_fits (Shape-F.Concat front back)

called_is : (dep : ℕ) (n : Text) → shape_fits (shape.Called dep n) ≡ number_fits dep
unfolding shape_fits
called_is dep n = ap shape_fits (sym (rolls-Called dep n)) ∙ fold-roll-Shape Bool Bool Bool LinkFits Bool access_layer_fits shape_layer_fits expr_layer_fits link_layer_fits step_layer_fits (Shape-F.Called dep n)

depint_is : (dep value : ℕ) → shape_fits (shape.DepInt dep value) ≡ (number_fits dep && number_fits value)
unfolding shape_fits
depint_is dep value = ap shape_fits (sym (rolls-DepInt dep value)) ∙ fold-roll-Shape Bool Bool Bool LinkFits Bool access_layer_fits shape_layer_fits expr_layer_fits link_layer_fits step_layer_fits (Shape-F.DepInt dep value)

path_is : (start : Expr) (steps : List Step) → shape_fits (shape.Path start steps) ≡ (expr_fits start && every step_fits steps)
unfolding shape_fits expr_fits step_fits
path_is start steps = ap shape_fits (sym (rolls-Path start steps)) ∙ fold-roll-Shape Bool Bool Bool LinkFits Bool access_layer_fits shape_layer_fits expr_layer_fits link_layer_fits step_layer_fits (Shape-F.Path start steps) ∙ ap (λ (b : Bool). expr_fits start && b) (every_mapped itself step_fits steps)

not_is : (part : Expr) → shape_fits (shape.Not part) ≡ expr_fits part
unfolding shape_fits expr_fits
not_is part = ap shape_fits (sym (rolls-Not part)) ∙ fold-roll-Shape Bool Bool Bool LinkFits Bool access_layer_fits shape_layer_fits expr_layer_fits link_layer_fits step_layer_fits (Shape-F.Not part)

negative_is : (part : Expr) → shape_fits (shape.Negative part) ≡ expr_fits part
unfolding shape_fits expr_fits
negative_is part = ap shape_fits (sym (rolls-Negative part)) ∙ fold-roll-Shape Bool Bool Bool LinkFits Bool access_layer_fits shape_layer_fits expr_layer_fits link_layer_fits step_layer_fits (Shape-F.Negative part)

compared_is : (c : Comparison) (left right : Expr) → shape_fits (shape.Compared c left right) ≡ (expr_fits left && expr_fits right)
unfolding shape_fits expr_fits
compared_is c left right = ap shape_fits (sym (rolls-Compared c left right)) ∙ fold-roll-Shape Bool Bool Bool LinkFits Bool access_layer_fits shape_layer_fits expr_layer_fits link_layer_fits step_layer_fits (Shape-F.Compared c left right)

abbrev at_rank : Rank → Link → Bool
at_rank r l = link_fits l r

chain_is : (r : Rank) (start : Expr) (links : List Link) → shape_fits (shape.Chain r start links) ≡ (expr_fits start && every (at_rank r) links)
unfolding shape_fits expr_fits link_fits
chain_is r start links = ap shape_fits (sym (rolls-Chain r start links)) ∙ fold-roll-Shape Bool Bool Bool LinkFits Bool access_layer_fits shape_layer_fits expr_layer_fits link_layer_fits step_layer_fits (Shape-F.Chain r start links) ∙ ap (λ (b : Bool). expr_fits start && b) (every_mapped (in_rank r) link_fits links)

-- ---- chains and paths

chain_fits : (r : Rank) (first place : ℕ) (start : Expr) (links : List Link) → Fit start → every (at_rank r) links ≡ true → Fit (tree first place (shape.Chain r start links))
chain_fits r first place start links s h = tree_is first place (shape.Chain r start links) ∙ chain_is r start links ∙ both (expr_fits start) (every (at_rank r) links) s h

new_link : (r : Rank) (e : Expr) (p : Item) → is_of_rank r p.0.0 ≡ true → Fit p.1 → link_fits (link_of e p) r ≡ true
new_link r e p o h = link_is (link_of e p) r ∙ both (is_of_rank r p.0.0) (expr_fits p.1) o h

joins_fits : (r : Rank) (first place : ℕ) (start : Expr) (links : List Link) (p : Item) → Fit (tree first place (shape.Chain r start links)) → is_of_rank r p.0.0 ≡ true → Fit p.1 → Fit (with_link r (tree first place (shape.Chain r start links)) p)
joins_fits r first place start links p h o q =
    let is : (expr_fits start && every (at_rank r) links) ≡ true = sym (chain_is r start links) ∙ sym (tree_is first place (shape.Chain r start links)) ∙ h in
    let left = tree first place (shape.Chain r start links) in
    ap expr_fits (link_joins r first place start links p)
    ∙ chain_fits r first p.0.1 start (links ++ link_of left p ∷ []) (and_first (expr_fits start) (every (at_rank r) links) is)
    (every_more (at_rank r) links (link_of left p) (and_second (expr_fits start) (every (at_rank r) links) is) (new_link r left p o q))

link_fit : (r : Rank) (e : Expr) (p : Item) → Fit e → is_of_rank r p.0.0 ≡ true → Fit p.1 → Fit (with_link r e p)
link_fit r e p h o q = elim (bool_cases (is_chain r e)) [
  | inl is ↦
      let v = chain_view r e is in
      ap (λ (x : Expr). expr_fits (with_link r x p)) v.2 ∙ joins_fits r (first_token_of e) (out-Expr e).place v.0 v.1 p (sym (ap expr_fits v.2) ∙ h) o q
  | inr is ↦
      ap expr_fits (link_begins r e p is)
      ∙ chain_fits r (first_token_of e) p.0.1 e (link_of e p ∷ []) h (both (link_fits (link_of e p) r) true (new_link r e p o q) refl)
]

links_fit : (r : Rank) (ps : List Item) (e : Expr) → Fit e → Every (λ (p : Item). (is_of_rank r p.0.0 ≡ true) × Fit p.1) ps → Fit (joined_left (with_link r) e ps)
links_fit r [] e h each = h
links_fit r (p ∷ ps) e h each = links_fit r ps (with_link r e p) (link_fit r e p h each.0.0 each.0.1) each.1

path_fits : (first place : ℕ) (start : Expr) (steps : List Step) → Fit start → every step_fits steps ≡ true → Fit (tree first place (shape.Path start steps))
path_fits first place start steps s h = tree_is first place (shape.Path start steps) ∙ path_is start steps ∙ both (expr_fits start) (every step_fits steps) s h

steps_on_fit : (first place : ℕ) (start : Expr) (steps : List Step) (p : ℕ × Access) → Fit (tree first place (shape.Path start steps)) → access_fits p.1 ≡ true → Fit (with_step (tree first place (shape.Path start steps)) p)
steps_on_fit first place start steps p h q =
    let is : (expr_fits start && every step_fits steps) ≡ true = sym (path_is start steps) ∙ sym (tree_is first place (shape.Path start steps)) ∙ h in
    let left = tree first place (shape.Path start steps) in
    ap expr_fits (step_joins first place start steps p)
    ∙ path_fits first p.0 start (steps ++ step_of left p ∷ []) (and_first (expr_fits start) (every step_fits steps) is)
    (every_more step_fits steps (step_of left p) (and_second (expr_fits start) (every step_fits steps) is) (step_is (step_of left p) ∙ q))

step_fit : (e : Expr) (p : ℕ × Access) → Fit e → access_fits p.1 ≡ true → Fit (with_step e p)
step_fit e p h q = elim (bool_cases (is_path e)) [
  | inl is ↦
      let v = path_view e is in
      ap (λ (x : Expr). expr_fits (with_step x p)) v.2 ∙ steps_on_fit (first_token_of e) (out-Expr e).place v.0 v.1 p (sym (ap expr_fits v.2) ∙ h) q
  | inr is ↦
      ap expr_fits (step_begins e p is)
      ∙ path_fits (first_token_of e) p.0 e (step_of e p ∷ []) h (both (step_fits (step_of e p)) true (step_is (step_of e p) ∙ q) refl)
]

steps_fit : (ps : List (ℕ × Access)) (e : Expr) → Fit e → Every (λ (p : ℕ × Access). access_fits p.1 ≡ true) ps → Fit (joined_left with_step e ps)
steps_fit [] e h each = h
steps_fit (p ∷ ps) e h each = steps_fit ps (with_step e p) (step_fit e p h each.0) each.1

-- ---- what rules give

any_of : {X : Type 0} (R : Rule X) → Gives R (λ x. Unit {0})
any_of R = record { give = λ x ms p w t. tt }

abbrev OfRank : Rank → Operator × ℕ → Type 0
OfRank r q = is_of_rank r q.0 ≡ true

operators_fit : (r : Rank) → Gives (operators r true) (OfRank r)
operators_fit rank.Or = gives_mapped (OfRank rank.Or) (operation operator.Or) (gives_sign kind.Or true) (λ place h. refl)
operators_fit rank.And = gives_mapped (OfRank rank.And) (operation operator.And) (gives_sign kind.And true) (λ place h. refl)
operators_fit rank.Sum = gives_either
    (gives_mapped (OfRank rank.Sum) (operation operator.Plus) (gives_sign kind.Plus true) (λ place h. refl))
    (gives_mapped (OfRank rank.Sum) (operation operator.Minus) (gives_sign kind.Minus true) (λ place h. refl))
operators_fit rank.Product = gives_either
    (gives_mapped (OfRank rank.Product) (operation operator.Times) (gives_sign kind.Star true) (λ place h. refl))
    (gives_either
    (gives_mapped (OfRank rank.Product) (operation operator.Divide) (gives_sign kind.Slash true) (λ place h. refl))
    (gives_mapped (OfRank rank.Product) (operation operator.Remainder) (gives_sign kind.Percent true) (λ place h. refl)))

none_past : {X : Type 0} (f : ℕ → X) (k : Kind) → Gives (mapped f (sign k false)) (λ x. ⊥)
none_past f k = gives_mapped (λ x. ⊥) f (gives_sign k false) (λ place h. absurd cc)

pub no_operator : (r : Rank) → Gives (operators r false) (λ x. ⊥)
no_operator rank.Or = none_past (operation operator.Or) kind.Or
no_operator rank.And = none_past (operation operator.And) kind.And
no_operator rank.Sum = gives_either (none_past (operation operator.Plus) kind.Plus) (none_past (operation operator.Minus) kind.Minus)
no_operator rank.Product = gives_either (none_past (operation operator.Times) kind.Star) (gives_either (none_past (operation operator.Divide) kind.Slash) (none_past (operation operator.Remainder) kind.Percent))

no_link : (r : Rank) (R : Rule Expr) → Gives R Fit → Gives (pair (operators r false) R) (λ x. ⊥)
no_link r R g = record { give = λ x ms p w t. ((gives_pair (no_operator r) g).give x ms p w t).0 }

chain_fit : (r : Rank) (R : Rule Expr) → Gives R Fit → Gives (chain r R) Fit
chain_fit r R g = gives_mapped Fit (joined_pair (with_link r)) (gives_pair g (gives_links (λ more. pair (operators r more) R) 64 (gives_pair (operators_fit r) g) (no_link r R g))) (λ z h. links_fit r z.1 z.0 h.0 h.1.0)

abbrev AccessFit : ℕ × Access → Type 0
AccessFit q = access_fits q.1 ≡ true

-- an expression in parentheses or brackets, behind any sign
grouped_fit : (p : ℕ × (Expr × ℕ)) → Fit p.1.0 → Fit (grouped p)
grouped_fit p h = tree_is p.0 (out-Expr p.1.0).place (shape_of p.1.0) ∙ sym (expr_is p.1.0) ∙ h

number_fit : (n : Number) → n.value ≤ 9223372036854775807 → Fit (number_expr n)
number_fit n le = tree_is n.place n.place (shape.Number n.value) ∙ number_is n.value ∙ at_most n.value 9223372036854775807 le

bytes_fits : (t : Text) → AllBytes t.bytes × (length t.bytes ≤ 256) → Fit (bytes_expr t)
bytes_fits t h = tree_is t.place t.place (shape.Bytes t.bytes) ∙ bytes_is t.bytes ∙ at_most (length t.bytes) 256 h.1

module _ (room : Bool) (I : Part → Rule Expr) (K : Rule ValueKind) (whole : Gives (I Whole) Fit) (negated : Gives (I Negated) Fit) (sign_of : Gives (I Signed) Fit) where
  group_fit : Gives (group (I Whole) room) Fit
  group_fit = gives_mapped Fit grouped (gives_pair (gives_sign kind.Open room) (gives_pair whole (gives_sign kind.Close true))) (λ p h. grouped_fit p h.1.0)

  bracket_fit : Gives (bracket (I Whole) room) Fit
  bracket_fit = gives_mapped Fit listed (gives_pair (gives_sign kind.OpenList room) (gives_pair (gives_commas whole) (gives_sign kind.CloseList true)))
      (λ p h. tree_is p.0 p.0 (shape.List p.1.0) ∙ list_is p.1.0 ∙ every_of expr_fits p.1.0 h.1.0)

  empty_fit : Gives (mapped empty_expr (pair (keyword kind.Empty) K)) Fit
  empty_fit = gives_mapped Fit empty_expr (gives_pair (gives_sign kind.Empty true) (any_of K)) (λ p h. tree_is p.0 p.0 (shape.Empty p.1) ∙ empty_is p.1)

  true_fit : Gives (mapped (truth_expr true) (keyword kind.True)) Fit
  true_fit = gives_mapped Fit (truth_expr true) (gives_sign kind.True true) (λ place h. tree_is place place (shape.Truth true) ∙ truth_is true)

  false_fit : Gives (mapped (truth_expr false) (keyword kind.False)) Fit
  false_fit = gives_mapped Fit (truth_expr false) (gives_sign kind.False true) (λ place h. tree_is place place (shape.Truth false) ∙ truth_is false)

  len_fit : Gives (mapped len_expr (pair (keyword kind.Len) (pair (sign kind.Open room) (pair (I Whole) (keyword kind.Close))))) Fit
  len_fit = gives_mapped Fit len_expr (gives_pair (gives_sign kind.Len true) (gives_pair (gives_sign kind.Open room) (gives_pair whole (gives_sign kind.Close true))))
      (λ p h. tree_is p.0 p.0 (shape.Len p.1.1.0) ∙ len_is p.1.1.0 ∙ h.1.1.0)

  sha256_fit : Gives (mapped sha256_expr (pair (keyword kind.Sha256) (pair (sign kind.Open room) (pair (I Whole) (keyword kind.Close))))) Fit
  sha256_fit = gives_mapped Fit sha256_expr (gives_pair (gives_sign kind.Sha256 true) (gives_pair (gives_sign kind.Open room) (gives_pair whole (gives_sign kind.Close true))))
      (λ p h. tree_is p.0 p.0 (shape.Sha256 p.1.1.0) ∙ sha256_is p.1.1.0 ∙ h.1.1.0)

  concat_fit : Gives (concat (I Whole) room) Fit
  concat_fit = gives_mapped Fit concat_expr (gives_pair (gives_sign kind.Concat true) (gives_pair (gives_sign kind.Open room) (gives_pair (gives_pair whole (gives_pair (gives_sign kind.Comma true) whole)) (gives_sign kind.Close true))))
      (λ p h. tree_is p.0 p.0 (shape.Concat p.1.1.0.0 p.1.1.0.1.1) ∙ concat_is p.1.1.0.0 p.1.1.0.1.1 ∙ both (expr_fits p.1.1.0.0) (expr_fits p.1.1.0.1.1) h.1.1.0.0 h.1.1.0.1.1)

  called_fit : Gives (called room) Fit
  called_fit = gives_mapped Fit called_expr (gives_pair (gives_sign kind.Called true) (gives_pair (gives_sign kind.Open room) (gives_pair (gives_pair gives_number (gives_pair (gives_sign kind.Comma true) gives_name)) (gives_sign kind.Close true))))
      (λ p h. tree_is p.0 p.0 (shape.Called p.1.1.0.0.value p.1.1.0.1.1) ∙ called_is p.1.1.0.0.value p.1.1.0.1.1 ∙ at_most p.1.1.0.0.value 9223372036854775807 h.1.1.0.0)

  depint_fit : Gives (depint room) Fit
  depint_fit = gives_mapped Fit depint_expr (gives_pair (gives_sign kind.DepInt true) (gives_pair (gives_sign kind.Open room) (gives_pair (gives_pair gives_number (gives_pair (gives_sign kind.Comma true) gives_number)) (gives_sign kind.Close true))))
      (λ p h. tree_is p.0 p.0 (shape.DepInt p.1.1.0.0.value p.1.1.0.1.1.value) ∙ depint_is p.1.1.0.0.value p.1.1.0.1.1.value
      ∙ both (number_fits p.1.1.0.0.value) (number_fits p.1.1.0.1.1.value) (at_most p.1.1.0.0.value 9223372036854775807 h.1.1.0.0) (at_most p.1.1.0.1.1.value 9223372036854775807 h.1.1.0.1.1))

  name_fit : Gives (mapped name_expr name) Fit
  name_fit = gives_mapped Fit name_expr gives_name (λ t h. tree_is t.place t.place (shape.Name t.bytes) ∙ name_is t.bytes)

  primary_fit : Gives (primary (I Whole) K room) Fit
  primary_fit = gives_either group_fit (gives_either bracket_fit (gives_either (gives_mapped Fit number_expr gives_number number_fit) (gives_either (gives_mapped Fit bytes_expr gives_bytes bytes_fits) (gives_either name_fit
      (gives_either true_fit (gives_either false_fit (gives_either empty_fit (gives_either len_fit (gives_either sha256_fit (gives_either concat_fit (gives_either called_fit depint_fit)))))))))))

  field_fit : Gives (mapped field_step (pair (sign kind.Dot true) name)) AccessFit
  field_fit = gives_mapped AccessFit field_step (gives_pair (gives_sign kind.Dot true) gives_name) (λ p h. field_is p.1)

  index_fit : Gives (mapped index_step (pair (sign kind.OpenList room) (pair (I Whole) (keyword kind.CloseList)))) AccessFit
  index_fit = gives_mapped AccessFit index_step (gives_pair (gives_sign kind.OpenList room) (gives_pair whole (gives_sign kind.CloseList true))) (λ p h. index_is p.1.0 ∙ h.1.0)

  no_access : Gives (access_rule (I Whole) room false) (λ x. ⊥)
  no_access = gives_either
      (gives_mapped (λ x. ⊥) field_step (gives_pair (gives_sign kind.Dot false) gives_name) (λ p h. (let e = h.0 in absurd cc)))
      (gives_mapped (λ x. ⊥) index_step (gives_pair (gives_sign kind.OpenList false) (gives_pair whole (gives_sign kind.CloseList true))) (λ p h. (let e = h.0 in absurd cc)))

  post_fit : Gives (post (I Whole) K room) Fit
  post_fit = gives_mapped Fit (joined_pair with_step) (gives_pair primary_fit (gives_links (access_rule (I Whole) room) 64 (gives_either field_fit index_fit) no_access)) (λ z h. steps_fit z.1 z.0 h.0 h.1.0)

  negative_fit : Gives (mapped negative_expr (pair (sign kind.Minus room) (I Signed))) Fit
  negative_fit = gives_mapped Fit negative_expr (gives_pair (gives_sign kind.Minus room) sign_of) (λ p h. tree_is p.0 p.0 (shape.Negative p.1) ∙ negative_is p.1 ∙ h.1)

  signed_fit : Gives (signed (I Whole) (I Signed) K room) Fit
  signed_fit = gives_either negative_fit post_fit

  abbrev Sided : Option ((Comparison × ℕ) × Expr) → Type 0
  Sided None = Unit {0}
  Sided (Some q) = Fit q.1

  compared_with : (x : Expr) (o : Option ((Comparison × ℕ) × Expr)) → Fit x → Sided o → Fit (compared_expr (x, o))
  compared_with x None g h = g
  compared_with x (Some q) g h = tree_is (first_token_of x) q.0.1 (shape.Compared q.0.0 x q.1) ∙ compared_is q.0.0 x q.1 ∙ both (expr_fits x) (expr_fits q.1) g h

  compared_fit : (R : Rule Expr) → Gives R Fit → Gives (comparison_rule R) Fit
  compared_fit R g = gives_mapped Fit compared_expr (gives_pair g (gives_either (gives_mapped Sided Some (gives_pair (any_of comparisons) g) (λ q h. h.1)) (gives_nothing None tt))) (λ z h. compared_with z.0 z.1 h.0 h.1)

  not_fit : Gives (mapped not_expr (pair (sign kind.Not room) (I Negated))) Fit
  not_fit = gives_mapped Fit not_expr (gives_pair (gives_sign kind.Not room) negated) (λ p h. tree_is p.0 p.0 (shape.Not p.1) ∙ not_is p.1 ∙ h.1)

  no_fit : Gives (no I K room) Fit
  no_fit = gives_either not_fit (compared_fit (chain rank.Sum (product I K room)) (chain_fit rank.Sum (product I K room) (chain_fit rank.Product (signed (I Whole) (I Signed) K room) signed_fit)))

  whole_fit : Gives (rule_of Whole I K room) Fit
  whole_fit = chain_fit rank.Or (chain rank.And (no I K room)) (chain_fit rank.And (no I K room) no_fit)

expressions_fit : (n left : ℕ) (part : Part) → Gives (expression n left part) Fit
expressions_fit zero left part = record { give = λ x ms p w t. absurd p }
expressions_fit (suc n) left Whole = whole_fit (room_of left) (expression n (less_one left)) (kinds n left) (expressions_fit n (less_one left) Whole) (expressions_fit n (less_one left) Negated) (expressions_fit n (less_one left) Signed)
expressions_fit (suc n) left Negated = no_fit (room_of left) (expression n (less_one left)) (kinds n left) (expressions_fit n (less_one left) Whole) (expressions_fit n (less_one left) Negated) (expressions_fit n (less_one left) Signed)
expressions_fit (suc n) left Signed = signed_fit (room_of left) (expression n (less_one left)) (kinds n left) (expressions_fit n (less_one left) Whole) (expressions_fit n (less_one left) Negated) (expressions_fit n (less_one left) Signed)

-- ---- statements

abbrev StatementFit : Statement → Type 0
StatementFit s = statement_fits s ≡ true

abbrev BlockFit : Block → Type 0
BlockFit b = block_fits b ≡ true

statement_is : (place : ℕ) (a : Action) → statement_fits (statement place a) ≡ action_fits a
unfolding statement_fits action_fits
statement_is place a = fold_out-Statement Bool Bool Bool action_layer_fits block_layer_fits statement_layer_fits (statement place a)

block_is : (b : Block) → block_fits b ≡ every statement_fits (out-Block b).statements
unfolding block_fits statement_fits
block_is b = fold_out-Block Bool Bool Bool action_layer_fits block_layer_fits statement_layer_fits b ∙ every_mapped itself statement_fits (out-Block b).statements

out_statements : (p : ℕ × (List Statement × ℕ)) → (out-Block (block_of p)).statements ≡ p.1.0
out_statements p = search (rules, the_lemmas)

let_is : (n : Text) (value : Expr) → action_fits (action.Let n value) ≡ expr_fits value
unfolding action_fits block_fits
let_is n value = ap action_fits (sym (rolls-Let n value)) ∙ fold-roll-Action Bool Bool Bool action_layer_fits block_layer_fits statement_layer_fits (Action-F.Let n value)

set_is : (n : Text) (value : Expr) → action_fits (action.Set n value) ≡ expr_fits value
unfolding action_fits block_fits
set_is n value = ap action_fits (sym (rolls-Set n value)) ∙ fold-roll-Action Bool Bool Bool action_layer_fits block_layer_fits statement_layer_fits (Action-F.Set n value)

if_is : (condition : Expr) (b : Block) → action_fits (action.If condition b) ≡ (expr_fits condition && block_fits b)
unfolding action_fits block_fits
if_is condition b = ap action_fits (sym (rolls-If condition b)) ∙ fold-roll-Action Bool Bool Bool action_layer_fits block_layer_fits statement_layer_fits (Action-F.If condition b)

if_else_is : (condition : Expr) (b other : Block) → action_fits (action.IfElse condition b other) ≡ (expr_fits condition && block_fits b && block_fits other)
unfolding action_fits block_fits
if_else_is condition b other = ap action_fits (sym (rolls-IfElse condition b other)) ∙ fold-roll-Action Bool Bool Bool action_layer_fits block_layer_fits statement_layer_fits (Action-F.IfElse condition b other)

for_in_is : (n : Text) (list : Expr) (b : Block) → action_fits (action.ForIn n list b) ≡ (expr_fits list && block_fits b)
unfolding action_fits block_fits
for_in_is n list b = ap action_fits (sym (rolls-ForIn n list b)) ∙ fold-roll-Action Bool Bool Bool action_layer_fits block_layer_fits statement_layer_fits (Action-F.ForIn n list b)

for_to_is : (n : Text) (count : ℕ) (b : Block) → action_fits (action.ForTo n count b) ≡ (number_fits count && block_fits b)
unfolding action_fits block_fits
for_to_is n count b = ap action_fits (sym (rolls-ForTo n count b)) ∙ fold-roll-Action Bool Bool Bool action_layer_fits block_layer_fits statement_layer_fits (Action-F.ForTo n count b)

make_is : (slot object : Text) (values : List Expr) → action_fits (action.Make slot object values) ≡ every expr_fits values
unfolding action_fits block_fits
make_is slot object values = ap action_fits (sym (rolls-Make slot object values)) ∙ fold-roll-Action Bool Bool Bool action_layer_fits block_layer_fits statement_layer_fits (Action-F.Make slot object values)

call_is : (names : List Text) (m : Text) (es : List Expr) → action_fits (action.Call names m es) ≡ every expr_fits es
unfolding action_fits block_fits
call_is names m es = ap action_fits (sym (rolls-Call names m es)) ∙ fold-roll-Action Bool Bool Bool action_layer_fits block_layer_fits statement_layer_fits (Action-F.Call names m es)

answer_is : (value : Expr) → action_fits (action.Answer value) ≡ expr_fits value
unfolding action_fits block_fits
answer_is value = ap action_fits (sym (rolls-Answer value)) ∙ fold-roll-Action Bool Bool Bool action_layer_fits block_layer_fits statement_layer_fits (Action-F.Answer value)

three : (a b c : Bool) → a ≡ true → b ≡ true → c ≡ true → (a && b && c) ≡ true
three true true c p q r = r
three true false c p q r = absurd cc
three false b c p q r = absurd cc

-- statements, by what the parts of a text make of them

module _ (room : Bool) (E F : Rule Expr) (B : Rule Block) (whole : Gives E Fit) (inside : Gives F Fit) (block : Gives B BlockFit) where
  arguments_fit : Gives (arguments F room) (Every Fit)
  arguments_fit = gives_mapped (Every Fit) inner (gives_pair (gives_sign kind.Open room) (gives_pair (gives_either (gives_commas inside) (gives_nothing [] tt)) (gives_sign kind.Close true))) (λ p h. h.1.0)

  let_fit : Gives (mapped let_of (pair (keyword kind.Let) (pair name (pair (keyword kind.Becomes) (pair E (keyword kind.Semicolon)))))) StatementFit
  let_fit = gives_mapped StatementFit let_of (gives_pair (gives_sign kind.Let true) (gives_pair gives_name (gives_pair (gives_sign kind.Becomes true) (gives_pair whole (gives_sign kind.Semicolon true)))))
      (λ p h. statement_is p.0 (action.Let p.1.0 p.1.1.1.0) ∙ let_is p.1.0 p.1.1.1.0 ∙ h.1.1.1.0)

  set_fit : Gives (mapped set_of (pair (keyword kind.Set) (pair name (pair (keyword kind.Becomes) (pair E (keyword kind.Semicolon)))))) StatementFit
  set_fit = gives_mapped StatementFit set_of (gives_pair (gives_sign kind.Set true) (gives_pair gives_name (gives_pair (gives_sign kind.Becomes true) (gives_pair whole (gives_sign kind.Semicolon true)))))
      (λ p h. statement_is p.0 (action.Set p.1.0 p.1.1.1.0) ∙ set_is p.1.0 p.1.1.1.0 ∙ h.1.1.1.0)

  abbrev ElseFit : Option Block → Type 0
  ElseFit None = Unit {0}
  ElseFit (Some b) = BlockFit b

  if_fits : (place : ℕ) (e : Expr) (b : Block) (other : Option Block) → Fit e → BlockFit b → ElseFit other → StatementFit (if_of (place, (e, (b, other))))
  if_fits place e b None g h o = statement_is place (action.If e b) ∙ if_is e b ∙ both (expr_fits e) (block_fits b) g h
  if_fits place e b (Some other) g h o = statement_is place (action.IfElse e b other) ∙ if_else_is e b other ∙ three (expr_fits e) (block_fits b) (block_fits other) g h o

  if_fit : Gives (if_rule E B) StatementFit
  if_fit = gives_mapped StatementFit if_of (gives_pair (gives_sign kind.If true) (gives_pair whole (gives_pair block (gives_either (gives_mapped ElseFit else_of (gives_pair (gives_sign kind.Else true) block) (λ p h. h.1)) (gives_nothing None tt)))))
      (λ p h. if_fits p.0 p.1.0 p.1.1.0 p.1.1.1 h.1.0 h.1.1.0 h.1.1.1)

  abbrev RangeFit : Range → Type 0
  RangeFit (Items e) = Fit e
  RangeFit (Numbers n) = n ≤ 9223372036854775807

  for_fits : (place : ℕ) (n : Text) (r : Range) (b : Block) → RangeFit r → BlockFit b → StatementFit (for_of (place, (n, (r, b))))
  for_fits place n (Items e) b g h = statement_is place (action.ForIn n e b) ∙ for_in_is n e b ∙ both (expr_fits e) (block_fits b) g h
  for_fits place n (Numbers count) b g h = statement_is place (action.ForTo n count b) ∙ for_to_is n count b ∙ both (number_fits count) (block_fits b) (at_most count 9223372036854775807 g) h

  for_fit : Gives (for_rule E B) StatementFit
  for_fit = gives_mapped StatementFit for_of (gives_pair (gives_sign kind.For true) (gives_pair gives_name (gives_pair (gives_either (gives_mapped RangeFit range_of (gives_pair (gives_sign kind.In true) whole) (λ p h. h.1)) (gives_mapped RangeFit numbers_of (gives_pair (gives_sign kind.To true) gives_number) (λ p h. h.1))) block)))
      (λ p h. for_fits p.0 p.1.0 p.1.1.0 p.1.1.1 h.1.1.0 h.1.1.1)

  make_fit : Gives (make_rule F room) StatementFit
  make_fit = gives_mapped StatementFit make_of (gives_pair (gives_sign kind.Make true) (gives_pair gives_name (gives_pair (gives_sign kind.Becomes true) (gives_pair gives_name (gives_pair arguments_fit (gives_sign kind.Semicolon true))))))
      (λ p h. statement_is p.0 (action.Make p.1.0 p.1.1.1.0 p.1.1.1.1.0) ∙ make_is p.1.0 p.1.1.1.0 p.1.1.1.1.0 ∙ every_of expr_fits p.1.1.1.1.0 h.1.1.1.1.0)

  abbrev RestFit : CallRest → Type 0
  RestFit (Arguments es) = Every Fit es
  RestFit (Binds names m es) = Every Fit es

  call_fits : (place : ℕ) (n : Text) (r : CallRest) (end : ℕ) → RestFit r → StatementFit (call_of (place, (n, (r, end))))
  call_fits place n (Arguments es) end g = statement_is place (action.Call [] n es) ∙ call_is [] n es ∙ every_of expr_fits es g
  call_fits place n (Binds names m es) end g = statement_is place (action.Call (n ∷ names) m es) ∙ call_is (n ∷ names) m es ∙ every_of expr_fits es g

  rest_fit : Gives (call_rest F room) RestFit
  rest_fit = gives_either (gives_mapped RestFit Arguments arguments_fit (λ es h. h))
      (gives_mapped RestFit binds_of (gives_pair (any_of (mapped names_in_list (many (pair (keyword kind.Comma) name)))) (gives_pair (gives_sign kind.Becomes true) (gives_pair gives_name arguments_fit))) (λ p h. h.1.1.1))

  call_fit : Gives (call_rule F room) StatementFit
  call_fit = gives_mapped StatementFit call_of (gives_pair (gives_sign kind.Call true) (gives_pair gives_name (gives_pair rest_fit (gives_sign kind.Semicolon true)))) (λ p h. call_fits p.0 p.1.0 p.1.1.0 p.1.1.1 h.1.1.0)

  answer_fit : Gives (mapped answer_of (pair (keyword kind.Answer) (pair E (keyword kind.Semicolon)))) StatementFit
  answer_fit = gives_mapped StatementFit answer_of (gives_pair (gives_sign kind.Answer true) (gives_pair whole (gives_sign kind.Semicolon true))) (λ p h. statement_is p.0 (action.Answer p.1.0) ∙ answer_is p.1.0 ∙ h.1.0)

  statement_fit : Gives (statement_rule B E F room) StatementFit
  statement_fit = gives_either let_fit (gives_either set_fit (gives_either if_fit (gives_either for_fit (gives_either make_fit (gives_either call_fit answer_fit)))))

braces_fit : (room : Bool) (S : Rule (List Statement)) → Gives S (Every StatementFit) → Gives (braces S room) BlockFit
braces_fit room S g = gives_mapped BlockFit block_of (gives_pair (gives_sign kind.OpenBlock room) (gives_pair g (gives_sign kind.CloseBlock true)))
    (λ p h. block_is (block_of p) ∙ ap (every statement_fits) (out_statements p) ∙ every_of statement_fits p.1.0 h.1.0)

statements_fit : (n left : ℕ) → Gives (statements n left) (Every StatementFit)
statements_fit zero left = record { give = λ x ms p w t. absurd p }
statements_fit (suc n) left =
    gives_many (statement_fit (room_of left) (expression n left Whole) (expression n (less_one left) Whole) (braces (statements n (less_one left)) (room_of left)) (expressions_fit n left Whole) (expressions_fit n (less_one left) Whole) (braces_fit (room_of left) (statements n (less_one left)) (statements_fit n (less_one left))))

-- ---- whole texts

abbrev BodyFit : Body → Type 0
BodyFit b = BlockFit b.procedure × BlockFit b.check

abbrev MethodFit : Method → Type 0
MethodFit m = method_fits m ≡ true

body_fit : (n : ℕ) → Gives (body (braces (statements n 62) true)) BodyFit
body_fit n =
    let block = braces_fit true (statements n 62) (statements_fit n 62) in
    gives_mapped BodyFit body_of_parts (gives_pair (gives_sign kind.OpenBlock true) (gives_pair (gives_sign kind.Procedure true) (gives_pair block (gives_pair (gives_sign kind.Check true) (gives_pair block (gives_sign kind.CloseBlock true)))))) (λ p h. (h.1.1.0, h.1.1.1.1.0))

method_fit : (n : ℕ) → Gives (method (kinds n 64) (braces (statements n 62) true)) MethodFit
method_fit n = gives_mapped MethodFit method_of (gives_pair (gives_sign kind.Method true) (gives_pair gives_name (gives_pair (any_of (head (kinds n 64))) (body_fit n))))
    (λ p h. both (block_fits p.1.1.1.procedure) (block_fits p.1.1.1.check) h.1.1.1.0 h.1.1.1.1)

abbrev ContractFit : ContractTree → Type 0
ContractFit c = contract_fits c ≡ true

contract_fit : (n : ℕ) → Gives (contract n) ContractFit
contract_fit n = gives_mapped ContractFit contract_tree_of (gives_pair (gives_many (any_of (typedef (kinds n 63)))) (gives_mapped (Every MethodFit) first_and_others (gives_pair (method_fit n) (gives_many (method_fit n))) (λ p h. h)))
    (λ p h. every_of method_fits p.1 h.1)

-- what a text spells fits
pub text_fits : (text : List ℕ) (c : ContractTree) → IsContract text c → contract_fits c ≡ true
text_fits text c is =
    let s = is.spells in
    (contract_fit s.depth).give c s.marks s.spells s.within (source_fine text is.tokens s.marks is.read s.tokens)

pub has_text : (text : List ℕ) (c : ContractTree) → IsContract text c → HasText c
has_text text c is = record { text = text; is = is }

pub texts_fit : (c : ContractTree) → HasText c → contract_fits c ≡ true
texts_fit c h = text_fits h.text c h.is
