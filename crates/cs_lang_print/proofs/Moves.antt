-- What makes trees makes the same trees but for places, from the same parts but for places.
use Rattle.std.proofs.Common.{◌≡◌, ℕ, Bool, true, false, List, [], ◌∷◌, ◌++◌, map, sym, ap, refl, ◌∙◌}
use Rattle.std.specs.Prelude.{Option, None, Some, if◌then◌else◌, ◌⊎◌}
use Rattle.std.proofs.Common.{inl, inr}
use Rattle.cs_lang_token.specs.declared.token.Text.{Text}
use Rattle.cs_lang_token.specs.declared.token.Number.{Number}
use Rattle.cs_lang_token.specs.Rules.{joined_left, item_behind, first_and_rest}
use Rattle.cs_lang.specs.declared.tree.ValueKind.{ValueKind}
use Rattle.cs_lang.specs.declared.tree.Rank.{Rank}
use Rattle.cs_lang.specs.declared.tree.Operator.{Operator}
use Rattle.cs_lang.specs.declared.tree.Comparison.{Comparison}
use Rattle.cs_lang.specs.declared.tree.Expr.{Expr, out-Expr}
use Rattle.cs_lang.specs.declared.tree.Shape.{Shape, out-Shape, roll-Shape}
use Rattle.cs_lang.specs.declared.tree.Shape.TheVariants as shape
use Rattle.cs_lang.specs.declared.tree.Shape.TheVariants.{rolls-Path, rolls-Chain}
use Rattle.cs_lang.specs.declared.tree.Link.{Link, roll-Link}
use Rattle.cs_lang.specs.declared.tree.Step.{Step, roll-Step}
use Rattle.cs_lang.specs.declared.tree.Access.{Access}
use Rattle.cs_lang.specs.declared.tree.Access.TheOpen.{Shape-F}
use Rattle.cs_lang.specs.Trees.{tree, first_token_of, shape_of, OpenedTree, shape_is_chain, is_chain, chain_begun, chain_extended, with_link, shape_is_path, is_path, path_begun, path_extended, with_step, field_step, index_step, number_expr, bytes_expr, name_expr, truth_expr, grouped, listed, empty_expr, len_expr, sha256_expr, concat_expr, called_expr, depint_expr, negative_expr, not_expr, compared_expr}
use Rattle.cs_lang_print.specs.Places.{bare_text, bare_expr, bare_shape, bare_link, bare_step, bare_access}
use Rattle.cs_lang_print.proofs.Says.{both, no_place, unplaced}
use Rattle.cs_lang.proofs.Opened.{out_path, out_chain}
use Rattle.cs_lang_print.proofs.Bare.{bare_is, link_bare, step_bare, field_bare, index_bare, bare_number, bare_bytes, bare_truth, bare_name, bare_list, bare_empty, bare_len, bare_sha256, bare_concat, bare_called, bare_depint, bare_path, bare_not, bare_negative, bare_compared, bare_chain, chain_bare, path_bare}
use Rattle.cs_lang.proofs.Chains.{chain_view, Item, link_of, link_joins, link_begins, path_view, step_of, step_joins, step_begins}

abbrev pub same_as : {X : Type 0} → X → X
same_as x = x

abbrev pub if_some : {X : Type 0} → (X → X) → Option X → Option X
if_some f None = None
if_some f (Some x) = Some (f x)

pub tree_bare : (first place : ℕ) (s : Shape) → bare_expr (tree first place s) ≡ tree 0 0 (bare_shape s)
tree_bare first place s = bare_is (tree first place s)

pub first_bare : (e : Expr) → first_token_of (bare_expr e) ≡ 0
first_bare e = ap first_token_of (bare_is e)

-- a tree and its shape without places
made : (first place : ℕ) (s t : Shape) → bare_shape s ≡ t → bare_expr (tree first place s) ≡ tree 0 0 t
made first place s t is = tree_bare first place s ∙ ap (tree 0 0) is

pub move_number : (n : Number) → bare_expr (number_expr n) ≡ number_expr (unplaced n)
move_number n = made n.place n.place (shape.Number n.value) (shape.Number n.value) (bare_number n.value)

pub move_bytes : (t : Text) → bare_expr (bytes_expr t) ≡ bytes_expr (bare_text t)
move_bytes t = made t.place t.place (shape.Bytes t.bytes) (shape.Bytes t.bytes) (bare_bytes t.bytes)

pub move_name : (t : Text) → bare_expr (name_expr t) ≡ name_expr (bare_text t)
move_name t = made t.place t.place (shape.Name t.bytes) (shape.Name t.bytes) (bare_name t.bytes)

pub move_truth : (b : Bool) (place : ℕ) → bare_expr (truth_expr b place) ≡ truth_expr b (no_place place)
move_truth b place = made place place (shape.Truth b) (shape.Truth b) (bare_truth b)

pub grouped_bare : (p : ℕ × (Expr × ℕ)) → bare_expr (grouped p) ≡ bare_expr p.1.0
grouped_bare p = tree_bare p.0 (out-Expr p.1.0).place (shape_of p.1.0) ∙ sym (bare_is p.1.0)

pub move_grouped : (p : ℕ × (Expr × ℕ)) → bare_expr (grouped p) ≡ grouped (both no_place (both bare_expr no_place) p)
move_grouped p = tree_bare p.0 (out-Expr p.1.0).place (shape_of p.1.0) ∙ sym (ap (λ (x : Expr). tree 0 (out-Expr x).place (out-Expr x).shape) (bare_is p.1.0))

pub move_listed : (p : ℕ × (List Expr × ℕ)) → bare_expr (listed p) ≡ listed (both no_place (both (map bare_expr) no_place) p)
move_listed p = made p.0 p.0 (shape.List p.1.0) (shape.List (map bare_expr p.1.0)) (bare_list p.1.0)

pub move_empty : (p : ℕ × ValueKind) → bare_expr (empty_expr p) ≡ empty_expr (both no_place same_as p)
move_empty p = made p.0 p.0 (shape.Empty p.1) (shape.Empty p.1) (bare_empty p.1)

pub move_len : (p : ℕ × (ℕ × (Expr × ℕ))) → bare_expr (len_expr p) ≡ len_expr (both no_place (both no_place (both bare_expr no_place)) p)
move_len p = made p.0 p.0 (shape.Len p.1.1.0) (shape.Len (bare_expr p.1.1.0)) (bare_len p.1.1.0)

pub move_sha256 : (p : ℕ × (ℕ × (Expr × ℕ))) → bare_expr (sha256_expr p) ≡ sha256_expr (both no_place (both no_place (both bare_expr no_place)) p)
move_sha256 p = made p.0 p.0 (shape.Sha256 p.1.1.0) (shape.Sha256 (bare_expr p.1.1.0)) (bare_sha256 p.1.1.0)

pub move_concat : (p : ℕ × (ℕ × ((Expr × (ℕ × Expr)) × ℕ))) → bare_expr (concat_expr p) ≡ concat_expr (both no_place (both no_place (both (both bare_expr (both no_place bare_expr)) no_place)) p)
move_concat p = made p.0 p.0 (shape.Concat p.1.1.0.0 p.1.1.0.1.1) (shape.Concat (bare_expr p.1.1.0.0) (bare_expr p.1.1.0.1.1)) (bare_concat p.1.1.0.0 p.1.1.0.1.1)

pub move_called : (p : ℕ × (ℕ × ((Number × (ℕ × Text)) × ℕ))) → bare_expr (called_expr p) ≡ called_expr (both no_place (both no_place (both (both unplaced (both no_place bare_text)) no_place)) p)
move_called p = made p.0 p.0 (shape.Called p.1.1.0.0.value p.1.1.0.1.1) (shape.Called p.1.1.0.0.value (bare_text p.1.1.0.1.1)) (bare_called p.1.1.0.0.value p.1.1.0.1.1)

pub move_depint : (p : ℕ × (ℕ × ((Number × (ℕ × Number)) × ℕ))) → bare_expr (depint_expr p) ≡ depint_expr (both no_place (both no_place (both (both unplaced (both no_place unplaced)) no_place)) p)
move_depint p = made p.0 p.0 (shape.DepInt p.1.1.0.0.value p.1.1.0.1.1.value) (shape.DepInt p.1.1.0.0.value p.1.1.0.1.1.value) (bare_depint p.1.1.0.0.value p.1.1.0.1.1.value)

pub move_negative : (p : ℕ × Expr) → bare_expr (negative_expr p) ≡ negative_expr (both no_place bare_expr p)
move_negative p = made p.0 p.0 (shape.Negative p.1) (shape.Negative (bare_expr p.1)) (bare_negative p.1)

pub move_not : (p : ℕ × Expr) → bare_expr (not_expr p) ≡ not_expr (both no_place bare_expr p)
move_not p = made p.0 p.0 (shape.Not p.1) (shape.Not (bare_expr p.1)) (bare_not p.1)

pub move_compared : (p : Expr × Option ((Comparison × ℕ) × Expr)) → bare_expr (compared_expr p) ≡ compared_expr (both bare_expr (if_some (both (both same_as no_place) bare_expr)) p)
move_compared (left, None) = refl
move_compared (left, Some q) =
    made (first_token_of left) q.0.1 (shape.Compared q.0.0 left q.1) (shape.Compared q.0.0 (bare_expr left) (bare_expr q.1)) (bare_compared q.0.0 left q.1)
    ∙ ap (λ (n : ℕ). tree n 0 (shape.Compared q.0.0 (bare_expr left) (bare_expr q.1))) (sym (first_bare left))

pub move_field : (p : ℕ × Text) → both no_place bare_access (field_step p) ≡ field_step (both no_place bare_text p)
move_field p = ap (λ (a : Access). at a) (field_bare p.1)
  where
    at : Access → ℕ × Access
    at a = (0, a)

pub move_index : (p : ℕ × (Expr × ℕ)) → both no_place bare_access (index_step p) ≡ index_step (both no_place (both bare_expr no_place) p)
move_index p = ap (λ (a : Access). at a) (index_bare p.1.0)
  where
    at : Access → ℕ × Access
    at a = (0, a)

map_append : {X Y : Type 0} (f : X → Y) (xs ys : List X) → map f (xs ++ ys) ≡ map f xs ++ map f ys
map_append f [] ys = refl
map_append f (x ∷ xs) ys = ap (λ l. f x ∷ l) (map_append f xs ys)

-- ---- rows

pub move_items : {X : Type 0} (B : X → X) (ps : List (ℕ × X)) (acc : List X) → map B (joined_left item_behind acc ps) ≡ joined_left item_behind (map B acc) (map (both no_place B) ps)
move_items B [] acc = refl
move_items B (p ∷ ps) acc = move_items B ps (acc ++ p.1 ∷ []) ∙ ap (λ l. joined_left item_behind l (map (both no_place B) ps)) (map_append B acc (p.1 ∷ []))

pub move_all : {X : Type 0} (B : X → X) (p : X × List (ℕ × X)) → map B (first_and_rest p) ≡ first_and_rest (both B (map (both no_place B)) p)
move_all B p = move_items B p.1 (p.0 ∷ [])

-- ---- chains and paths

abbrev pub bare_item : Item → Item
bare_item = both (both same_as no_place) bare_expr

bare_link_of : (e : Expr) (p : Item) → bare_link (link_of e p) ≡ link_of (bare_expr e) (bare_item p)
bare_link_of e p = link_bare (link_of e p) ∙ ap (λ (n : ℕ). roll-Link (record { operator = p.0.0; first = n; place = 0; right = bare_expr p.1 })) (sym (first_bare e))

chain_bared : (r : Rank) (f place : ℕ) (s : Expr) (ls : List Link) → bare_expr (tree f place (shape.Chain r s ls)) ≡ tree 0 0 (shape.Chain r (bare_expr s) (map bare_link ls))
chain_bared r f place s ls = made f place (shape.Chain r s ls) (shape.Chain r (bare_expr s) (map bare_link ls)) (bare_chain r s ls)

move_joins : (r : Rank) (f place : ℕ) (s : Expr) (ls : List Link) (p : Item) → bare_expr (with_link r (tree f place (shape.Chain r s ls)) p) ≡ with_link r (bare_expr (tree f place (shape.Chain r s ls))) (bare_item p)
move_joins r f place s ls p =
    let left = tree f place (shape.Chain r s ls) in
    let plain = tree 0 0 (shape.Chain r (bare_expr s) (map bare_link ls)) in
    ap bare_expr (link_joins r f place s ls p)
    ∙ chain_bared r f p.0.1 s (ls ++ link_of left p ∷ [])
    ∙ ap (λ (l : List Link). tree 0 0 (shape.Chain r (bare_expr s) l)) (map_append bare_link ls (link_of left p ∷ []))
    ∙ ap (λ (l : Link). tree 0 0 (shape.Chain r (bare_expr s) (map bare_link ls ++ l ∷ []))) (bare_link_of left p ∙ ap (λ (x : Expr). link_of x (bare_item p)) (chain_bared r f place s ls))
    ∙ sym (link_joins r 0 0 (bare_expr s) (map bare_link ls) (bare_item p))
    ∙ sym (ap (λ (x : Expr). with_link r x (bare_item p)) (chain_bared r f place s ls))

bool_cases : (b : Bool) → (b ≡ true) ⊎ (b ≡ false)
bool_cases true = inl refl
bool_cases false = inr refl

pub move_link : (r : Rank) (e : Expr) (p : Item) → bare_expr (with_link r e p) ≡ with_link r (bare_expr e) (bare_item p)
move_link r e p = elim (bool_cases (is_chain r e)) [
  | inl is ↦
      let v = chain_view r e is in
      ap (λ (x : Expr). bare_expr (with_link r x p)) v.2 ∙ move_joins r (first_token_of e) (out-Expr e).place v.0 v.1 p ∙ sym (ap (λ (x : Expr). with_link r (bare_expr x) (bare_item p)) v.2)
  | inr is ↦
      ap bare_expr (link_begins r e p is)
      ∙ chain_bared r (first_token_of e) p.0.1 e (link_of e p ∷ [])
      ∙ ap (λ (l : Link). tree 0 0 (shape.Chain r (bare_expr e) (l ∷ []))) (bare_link_of e p)
      ∙ ap (λ (n : ℕ). tree n 0 (shape.Chain r (bare_expr e) (link_of (bare_expr e) (bare_item p) ∷ []))) (sym (first_bare e))
      ∙ sym (link_begins r (bare_expr e) (bare_item p) (chain_bare r e ∙ is))
]

-- ---- steps

abbrev pub bare_way : ℕ × Access → ℕ × Access
bare_way = both no_place bare_access

bare_step_of : (e : Expr) (p : ℕ × Access) → bare_step (step_of e p) ≡ step_of (bare_expr e) (bare_way p)
bare_step_of e p = step_bare (step_of e p) ∙ ap (λ (n : ℕ). roll-Step (record { first = n; place = 0; access = bare_access p.1 })) (sym (first_bare e))

path_bared : (f place : ℕ) (s : Expr) (ls : List Step) → bare_expr (tree f place (shape.Path s ls)) ≡ tree 0 0 (shape.Path (bare_expr s) (map bare_step ls))
path_bared f place s ls = made f place (shape.Path s ls) (shape.Path (bare_expr s) (map bare_step ls)) (bare_path s ls)

move_steps_on : (f place : ℕ) (s : Expr) (ls : List Step) (p : ℕ × Access) → bare_expr (with_step (tree f place (shape.Path s ls)) p) ≡ with_step (bare_expr (tree f place (shape.Path s ls))) (bare_way p)
move_steps_on f place s ls p =
    let left = tree f place (shape.Path s ls) in
    ap bare_expr (step_joins f place s ls p)
    ∙ path_bared f p.0 s (ls ++ step_of left p ∷ [])
    ∙ ap (λ (l : List Step). tree 0 0 (shape.Path (bare_expr s) l)) (map_append bare_step ls (step_of left p ∷ []))
    ∙ ap (λ (l : Step). tree 0 0 (shape.Path (bare_expr s) (map bare_step ls ++ l ∷ []))) (bare_step_of left p ∙ ap (λ (x : Expr). step_of x (bare_way p)) (path_bared f place s ls))
    ∙ sym (step_joins 0 0 (bare_expr s) (map bare_step ls) (bare_way p))
    ∙ sym (ap (λ (x : Expr). with_step x (bare_way p)) (path_bared f place s ls))

pub move_step : (e : Expr) (p : ℕ × Access) → bare_expr (with_step e p) ≡ with_step (bare_expr e) (bare_way p)
move_step e p = elim (bool_cases (is_path e)) [
  | inl is ↦
      let v = path_view e is in
      ap (λ (x : Expr). bare_expr (with_step x p)) v.2 ∙ move_steps_on (first_token_of e) (out-Expr e).place v.0 v.1 p ∙ sym (ap (λ (x : Expr). with_step (bare_expr x) (bare_way p)) v.2)
  | inr is ↦
      ap bare_expr (step_begins e p is)
      ∙ path_bared (first_token_of e) p.0 e (step_of e p ∷ [])
      ∙ ap (λ (l : Step). tree 0 0 (shape.Path (bare_expr e) (l ∷ []))) (bare_step_of e p)
      ∙ ap (λ (n : ℕ). tree n 0 (shape.Path (bare_expr e) (step_of (bare_expr e) (bare_way p) ∷ []))) (sym (first_bare e))
      ∙ sym (step_begins (bare_expr e) (bare_way p) (path_bare e ∙ is))
]

-- one after the other
pub move_joined : {X : Type 0} (f : Expr → X → Expr) (B : X → X) → ((e : Expr) (x : X) → bare_expr (f e x) ≡ f (bare_expr e) (B x)) → (xs : List X) (e : Expr) → bare_expr (joined_left f e xs) ≡ joined_left f (bare_expr e) (map B xs)
move_joined f B moves [] e = refl
move_joined f B moves (x ∷ xs) e = move_joined f B moves xs (f e x) ∙ ap (λ (z : Expr). joined_left f z (map B xs)) (moves e x)
