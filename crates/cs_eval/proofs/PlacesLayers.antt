-- Places of expressions, one equation for each shape.
use Rattle.std.proofs.Common.{◌≡◌, ℕ, ◌+◌, ◌≤◌, max, Bool, List, [], ◌∷◌, map, length, refl, sym, ap, ◌∙◌, arith}
use Rattle.cs_lang_token.specs.declared.token.Text.{Text}
use Rattle.cs_lang.specs.declared.tree.ValueKind.{ValueKind}
use Rattle.cs_lang.specs.declared.tree.Rank.{Rank}
use Rattle.cs_lang.specs.declared.tree.Comparison.{Comparison}
use Rattle.cs_lang.specs.declared.tree.Expr.{Expr, out-Expr}
use Rattle.cs_lang.specs.declared.tree.Shape.{Shape, roll-Shape, map-Shape}
use Rattle.cs_lang.specs.declared.tree.Shape.TheVariants as shape
use Rattle.cs_lang.specs.declared.tree.Shape.TheVariants.{rolls-Number, rolls-Bytes, rolls-Truth, rolls-Name, rolls-List, rolls-Empty, rolls-Len, rolls-Sha256, rolls-Concat, rolls-Called, rolls-DepInt, rolls-Path, rolls-Not, rolls-Negative, rolls-Compared, rolls-Chain}
use Rattle.cs_lang.specs.declared.tree.Link.{Link, out-Link}
use Rattle.cs_lang.specs.declared.tree.Step.{Step, out-Step}
use Rattle.cs_lang.specs.declared.tree.Access.{Access, roll-Access, map-Access}
use Rattle.cs_lang.specs.declared.tree.Access.TheVariants as access
use Rattle.cs_lang.specs.declared.tree.Access.TheVariants.{rolls-Field, rolls-Index}
use Rattle.cs_lang.specs.declared.tree.Access.TheOpen.{Access-F, Shape-F}
use Rattle.cs_lang.specs.declared.tree.Access.TheFolds.{fold-roll-Access, fold-roll-Shape, fold_out-Expr, fold_out-Link, fold_out-Step}
use Rattle.cs_eval.specs.Places.{in_turn, in_front, access_places, shape_places, expr_places, link_places, step_places, places, places_of_shape, places_of_link, places_of_step, places_of_access}

expr_is : (e : Expr) → places e ≡ places_of_shape (out-Expr e).shape
unfolding places places_of_shape
expr_is e = fold_out-Expr ℕ ℕ ℕ ℕ ℕ access_places shape_places expr_places link_places step_places e

pub link_is : (l : Link) → places_of_link l ≡ places (out-Link l).right + 1
unfolding places places_of_link
link_is l = fold_out-Link ℕ ℕ ℕ ℕ ℕ access_places shape_places expr_places link_places step_places l

step_is : (s : Step) → places_of_step s ≡ places_of_access (out-Step s).access
unfolding places_of_step places_of_access
step_is s = fold_out-Step ℕ ℕ ℕ ℕ ℕ access_places shape_places expr_places link_places step_places s

access_is : (x : Access-F Access Shape Expr Link Step) → places_of_access (roll-Access x) ≡ access_places (map-Access Access Shape Expr Link Step ℕ ℕ ℕ ℕ ℕ places_of_access places_of_shape places places_of_link places_of_step x)
unfolding places places_of_shape places_of_link places_of_step places_of_access
access_is x = fold-roll-Access ℕ ℕ ℕ ℕ ℕ access_places shape_places expr_places link_places step_places x

pub step_index : (s : Step) (index : Expr) → (out-Step s).access ≡ access.Index index → places_of_step s ≡ places index + 1
step_index s index is = step_is s ∙ ap places_of_access (is ∙ sym (rolls-Index index)) ∙ access_is (Access-F.Index index)

pub step_field : (s : Step) (name : Text) → (out-Step s).access ≡ access.Field name → places_of_step s ≡ 0
step_field s name is = step_is s ∙ ap places_of_access (is ∙ sym (rolls-Field name)) ∙ access_is (Access-F.Field name)

pub ruleset steps = (step_index, step_field)

shape_is : (x : Shape-F Access Shape Expr Link Step) → places_of_shape (roll-Shape x) ≡ shape_places (map-Shape Access Shape Expr Link Step ℕ ℕ ℕ ℕ ℕ places_of_access places_of_shape places places_of_link places_of_step x)
unfolding places places_of_shape places_of_link places_of_step places_of_access
shape_is x = fold-roll-Shape ℕ ℕ ℕ ℕ ℕ access_places shape_places expr_places link_places step_places x

shape_at : (e : Expr) (x : Shape-F Access Shape Expr Link Step) → (out-Expr e).shape ≡ roll-Shape x → places e ≡ shape_places (map-Shape Access Shape Expr Link Step ℕ ℕ ℕ ℕ ℕ places_of_access places_of_shape places places_of_link places_of_step x)
shape_at e x is = expr_is e ∙ ap places_of_shape is ∙ shape_is x

pub places_number : (e : Expr) (n : ℕ) → (out-Expr e).shape ≡ shape.Number n → places e ≡ shape_places (Shape-F.Number n)
places_number e n is = shape_at e (Shape-F.Number n) (is ∙ sym (rolls-Number n))

pub places_bytes : (e : Expr) (text : List ℕ) → (out-Expr e).shape ≡ shape.Bytes text → places e ≡ shape_places (Shape-F.Bytes text)
places_bytes e text is = shape_at e (Shape-F.Bytes text) (is ∙ sym (rolls-Bytes text))

pub places_truth : (e : Expr) (b : Bool) → (out-Expr e).shape ≡ shape.Truth b → places e ≡ shape_places (Shape-F.Truth b)
places_truth e b is = shape_at e (Shape-F.Truth b) (is ∙ sym (rolls-Truth b))

pub places_name : (e : Expr) (name : List ℕ) → (out-Expr e).shape ≡ shape.Name name → places e ≡ shape_places (Shape-F.Name name)
places_name e name is = shape_at e (Shape-F.Name name) (is ∙ sym (rolls-Name name))

pub places_list : (e : Expr) (items : List Expr) → (out-Expr e).shape ≡ shape.List items → places e ≡ shape_places (Shape-F.List (map places items))
places_list e items is = shape_at e (Shape-F.List items) (is ∙ sym (rolls-List items))

pub places_empty : (e : Expr) (k : ValueKind) → (out-Expr e).shape ≡ shape.Empty k → places e ≡ shape_places (Shape-F.Empty k)
places_empty e k is = shape_at e (Shape-F.Empty k) (is ∙ sym (rolls-Empty k))

pub places_len : (e : Expr) (inner : Expr) → (out-Expr e).shape ≡ shape.Len inner → places e ≡ shape_places (Shape-F.Len (places inner))
places_len e inner is = shape_at e (Shape-F.Len inner) (is ∙ sym (rolls-Len inner))

pub places_sha256 : (e : Expr) (inner : Expr) → (out-Expr e).shape ≡ shape.Sha256 inner → places e ≡ shape_places (Shape-F.Sha256 (places inner))
places_sha256 e inner is = shape_at e (Shape-F.Sha256 inner) (is ∙ sym (rolls-Sha256 inner))

pub places_concat : (e : Expr) (front back : Expr) → (out-Expr e).shape ≡ shape.Concat front back → places e ≡ shape_places (Shape-F.Concat (places front) (places back))
places_concat e front back is = shape_at e (Shape-F.Concat front back) (is ∙ sym (rolls-Concat front back))

pub places_called : (e : Expr) (dep : ℕ) (name : Text) → (out-Expr e).shape ≡ shape.Called dep name → places e ≡ shape_places (Shape-F.Called dep name)
places_called e dep name is = shape_at e (Shape-F.Called dep name) (is ∙ sym (rolls-Called dep name))

pub places_depint : (e : Expr) (dep value : ℕ) → (out-Expr e).shape ≡ shape.DepInt dep value → places e ≡ shape_places (Shape-F.DepInt dep value)
places_depint e dep value is = shape_at e (Shape-F.DepInt dep value) (is ∙ sym (rolls-DepInt dep value))

pub places_path : (e : Expr) (start : Expr) (steps : List Step) → (out-Expr e).shape ≡ shape.Path start steps → places e ≡ shape_places (Shape-F.Path (places start) (map places_of_step steps))
places_path e start steps is = shape_at e (Shape-F.Path start steps) (is ∙ sym (rolls-Path start steps))

pub places_not : (e : Expr) (inner : Expr) → (out-Expr e).shape ≡ shape.Not inner → places e ≡ shape_places (Shape-F.Not (places inner))
places_not e inner is = shape_at e (Shape-F.Not inner) (is ∙ sym (rolls-Not inner))

pub places_negative : (e : Expr) (inner : Expr) → (out-Expr e).shape ≡ shape.Negative inner → places e ≡ shape_places (Shape-F.Negative (places inner))
places_negative e inner is = shape_at e (Shape-F.Negative inner) (is ∙ sym (rolls-Negative inner))

pub places_compared : (e : Expr) (c : Comparison) (left right : Expr) → (out-Expr e).shape ≡ shape.Compared c left right → places e ≡ shape_places (Shape-F.Compared c (places left) (places right))
places_compared e c left right is = shape_at e (Shape-F.Compared c left right) (is ∙ sym (rolls-Compared c left right))

pub places_chain : (e : Expr) (r : Rank) (start : Expr) (links : List Link) → (out-Expr e).shape ≡ shape.Chain r start links → places e ≡ shape_places (Shape-F.Chain r (places start) (map places_of_link links))
places_chain e r start links is = shape_at e (Shape-F.Chain r start links) (is ∙ sym (rolls-Chain r start links))

pub ruleset shapes = (places_number, places_bytes, places_truth, places_name, places_list, places_empty, places_len, places_sha256, places_concat, places_called, places_depint, places_path, places_not, places_negative, places_compared, places_chain)

-- ---- a part in front of others

pub chain_front : (start : ℕ) (links : List Link) → 1 ≤ length links → in_front start (map places_of_link links) ≡ max (start + 1) (in_turn (map places_of_link links))
chain_front start [] some = absurd (omega arith)
chain_front start (l ∷ ls) some = refl

pub path_front : (start : ℕ) (steps : List Step) → 1 ≤ length steps → in_front start (map places_of_step steps) ≡ max (start + 1) (in_turn (map places_of_step steps))
path_front start [] some = absurd (omega arith)
path_front start (s ∷ ss) some = refl
