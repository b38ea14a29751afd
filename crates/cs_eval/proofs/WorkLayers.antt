-- How much is left to do of expressions, one equation for each shape.
use Rattle.std.proofs.Common.{◌≡◌, ℕ, ◌+◌, Bool, List, map, sym, ap, ◌∙◌}
use Rattle.cs_lang_token.specs.declared.token.Text.{Text}
use Rattle.cs_lang.specs.declared.tree.ValueKind.{ValueKind}
use Rattle.cs_lang.specs.declared.tree.Rank.{Rank}
use Rattle.cs_lang.specs.declared.tree.Comparison.{Comparison}
use Rattle.cs_lang.specs.declared.tree.Expr.{Expr, out-Expr}
use Rattle.cs_lang.specs.declared.tree.Shape.{Shape, roll-Shape, map-Shape}
use Rattle.cs_lang.specs.declared.tree.Shape.TheVariants as shape
use Rattle.cs_lang.specs.declared.tree.Shape.TheVariants.{rolls-Number, rolls-Bytes, rolls-Truth, rolls-Name, rolls-List, rolls-Empty, rolls-Len, rolls-Sha256, rolls-Concat, rolls-Called, rolls-DepInt, rolls-Path, rolls-Not, rolls-Negative, rolls-Compared, rolls-Chain}
use Rattle.cs_lang.specs.declared.tree.Link.{Link, out-Link}
use Rattle.cs_lang.specs.declared.tree.Step.{Step, out-Step}
use Rattle.cs_lang.specs.declared.tree.Access.{Access, roll-Access, map-Access}
use Rattle.cs_lang.specs.declared.tree.Access.TheVariants as access
use Rattle.cs_lang.specs.declared.tree.Access.TheVariants.{rolls-Field, rolls-Index}
use Rattle.cs_lang.specs.declared.tree.Access.TheOpen.{Access-F, Shape-F}
use Rattle.cs_lang.specs.declared.tree.Access.TheFolds.{fold-roll-Access, fold-roll-Shape, fold_out-Expr, fold_out-Link, fold_out-Step}
use Rattle.cs_eval.specs.Work.{access_work, shape_work, expr_work, link_work, step_work, all_work, work, work_of_shape, work_of_link, work_of_step, work_of_access}

expr_is : (e : Expr) → work e ≡ work_of_shape (out-Expr e).shape
unfolding work work_of_shape
expr_is e = fold_out-Expr ℕ ℕ ℕ ℕ ℕ access_work shape_work expr_work link_work step_work e

pub link_left : (l : Link) → work_of_link l ≡ work (out-Link l).right + 1
unfolding work work_of_link
link_left l = fold_out-Link ℕ ℕ ℕ ℕ ℕ access_work shape_work expr_work link_work step_work l

step_is : (s : Step) → work_of_step s ≡ work_of_access (out-Step s).access
unfolding work_of_step work_of_access
step_is s = fold_out-Step ℕ ℕ ℕ ℕ ℕ access_work shape_work expr_work link_work step_work s

access_is : (x : Access-F Access Shape Expr Link Step) → work_of_access (roll-Access x) ≡ access_work (map-Access Access Shape Expr Link Step ℕ ℕ ℕ ℕ ℕ work_of_access work_of_shape work work_of_link work_of_step x)
unfolding work work_of_shape work_of_link work_of_step work_of_access
access_is x = fold-roll-Access ℕ ℕ ℕ ℕ ℕ access_work shape_work expr_work link_work step_work x

pub step_left : (s : Step) (index : Expr) → (out-Step s).access ≡ access.Index index → work_of_step s ≡ work index + 1
step_left s index is = step_is s ∙ ap work_of_access (is ∙ sym (rolls-Index index)) ∙ access_is (Access-F.Index index)

shape_is : (x : Shape-F Access Shape Expr Link Step) → work_of_shape (roll-Shape x) ≡ shape_work (map-Shape Access Shape Expr Link Step ℕ ℕ ℕ ℕ ℕ work_of_access work_of_shape work work_of_link work_of_step x)
unfolding work work_of_shape work_of_link work_of_step work_of_access
shape_is x = fold-roll-Shape ℕ ℕ ℕ ℕ ℕ access_work shape_work expr_work link_work step_work x

work_is : (e : Expr) (x : Shape-F Access Shape Expr Link Step) → (out-Expr e).shape ≡ roll-Shape x → work e ≡ shape_work (map-Shape Access Shape Expr Link Step ℕ ℕ ℕ ℕ ℕ work_of_access work_of_shape work work_of_link work_of_step x)
work_is e x is = expr_is e ∙ ap work_of_shape is ∙ shape_is x

pub work_number : (e : Expr) (n : ℕ) → (out-Expr e).shape ≡ shape.Number n → work e ≡ shape_work (Shape-F.Number n)
work_number e n is = work_is e (Shape-F.Number n) (is ∙ sym (rolls-Number n))

pub work_bytes : (e : Expr) (text : List ℕ) → (out-Expr e).shape ≡ shape.Bytes text → work e ≡ shape_work (Shape-F.Bytes text)
work_bytes e text is = work_is e (Shape-F.Bytes text) (is ∙ sym (rolls-Bytes text))

pub work_truth : (e : Expr) (b : Bool) → (out-Expr e).shape ≡ shape.Truth b → work e ≡ shape_work (Shape-F.Truth b)
work_truth e b is = work_is e (Shape-F.Truth b) (is ∙ sym (rolls-Truth b))

pub work_name : (e : Expr) (name : List ℕ) → (out-Expr e).shape ≡ shape.Name name → work e ≡ shape_work (Shape-F.Name name)
work_name e name is = work_is e (Shape-F.Name name) (is ∙ sym (rolls-Name name))

pub work_list : (e : Expr) (items : List Expr) → (out-Expr e).shape ≡ shape.List items → work e ≡ shape_work (Shape-F.List (map work items))
work_list e items is = work_is e (Shape-F.List items) (is ∙ sym (rolls-List items))

pub work_empty : (e : Expr) (k : ValueKind) → (out-Expr e).shape ≡ shape.Empty k → work e ≡ shape_work (Shape-F.Empty k)
work_empty e k is = work_is e (Shape-F.Empty k) (is ∙ sym (rolls-Empty k))

pub work_len : (e : Expr) (inner : Expr) → (out-Expr e).shape ≡ shape.Len inner → work e ≡ shape_work (Shape-F.Len (work inner))
work_len e inner is = work_is e (Shape-F.Len inner) (is ∙ sym (rolls-Len inner))

pub work_sha256 : (e : Expr) (inner : Expr) → (out-Expr e).shape ≡ shape.Sha256 inner → work e ≡ shape_work (Shape-F.Sha256 (work inner))
work_sha256 e inner is = work_is e (Shape-F.Sha256 inner) (is ∙ sym (rolls-Sha256 inner))

pub work_concat : (e : Expr) (front back : Expr) → (out-Expr e).shape ≡ shape.Concat front back → work e ≡ shape_work (Shape-F.Concat (work front) (work back))
work_concat e front back is = work_is e (Shape-F.Concat front back) (is ∙ sym (rolls-Concat front back))

pub work_called : (e : Expr) (dep : ℕ) (name : Text) → (out-Expr e).shape ≡ shape.Called dep name → work e ≡ shape_work (Shape-F.Called dep name)
work_called e dep name is = work_is e (Shape-F.Called dep name) (is ∙ sym (rolls-Called dep name))

pub work_depint : (e : Expr) (dep value : ℕ) → (out-Expr e).shape ≡ shape.DepInt dep value → work e ≡ shape_work (Shape-F.DepInt dep value)
work_depint e dep value is = work_is e (Shape-F.DepInt dep value) (is ∙ sym (rolls-DepInt dep value))

pub work_path : (e : Expr) (start : Expr) (steps : List Step) → (out-Expr e).shape ≡ shape.Path start steps → work e ≡ shape_work (Shape-F.Path (work start) (map work_of_step steps))
work_path e start steps is = work_is e (Shape-F.Path start steps) (is ∙ sym (rolls-Path start steps))

pub work_not : (e : Expr) (inner : Expr) → (out-Expr e).shape ≡ shape.Not inner → work e ≡ shape_work (Shape-F.Not (work inner))
work_not e inner is = work_is e (Shape-F.Not inner) (is ∙ sym (rolls-Not inner))

pub work_negative : (e : Expr) (inner : Expr) → (out-Expr e).shape ≡ shape.Negative inner → work e ≡ shape_work (Shape-F.Negative (work inner))
work_negative e inner is = work_is e (Shape-F.Negative inner) (is ∙ sym (rolls-Negative inner))

pub work_compared : (e : Expr) (c : Comparison) (left right : Expr) → (out-Expr e).shape ≡ shape.Compared c left right → work e ≡ shape_work (Shape-F.Compared c (work left) (work right))
work_compared e c left right is = work_is e (Shape-F.Compared c left right) (is ∙ sym (rolls-Compared c left right))

pub work_chain : (e : Expr) (r : Rank) (start : Expr) (links : List Link) → (out-Expr e).shape ≡ shape.Chain r start links → work e ≡ shape_work (Shape-F.Chain r (work start) (map work_of_link links))
work_chain e r start links is = work_is e (Shape-F.Chain r start links) (is ∙ sym (rolls-Chain r start links))

pub ruleset works = (work_number, work_bytes, work_truth, work_name, work_list, work_empty, work_len, work_sha256, work_concat, work_called, work_depint, work_path, work_not, work_negative, work_compared, work_chain)
