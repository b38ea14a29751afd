-- What expressions mean, one equation for each shape.
use Rattle.std.proofs.Common.{◌≡◌, ℕ, Bool, List, [], ◌∷◌, map, length, get_or, ◌≤◌, ◌<◌, Option, None, refl, sym, ap, ◌∙◌, arith}
use Rattle.std.specs.Prelude.{option_and_then}
use Rattle.std.proofs.lemmas.List.{length-map}
use Rattle.cs_types_kinds.specs.Kinds.{list_kind_of}
use Rattle.cs_eval_values.specs.Namings.{Named, kind_named}
use Rattle.cs_eval_values.specs.Operators.{truth}
use Rattle.cs_eval_values.specs.Views.{is_called, returned_int}
use Rattle.cs_eval.specs.declared.scene.Scene.{Scene}
use Rattle.cs_eval.specs.Kinds.{list_kind}
use Rattle.cs_eval.specs.Machine.{seen_from}
use Rattle.cs_types_kinds.specs.declared.kind.Kind.{Kind}
use Rattle.cs_eval_values.specs.Datums.{Datum}
use Rattle.cs_eval_values.specs.Runs.{Run, gives}
use Rattle.cs_lang_token.specs.declared.token.Text.{Text}
use Rattle.cs_lang.specs.declared.tree.ValueKind.{ValueKind}
use Rattle.cs_lang.specs.declared.tree.Rank.{Rank}
use Rattle.cs_lang.specs.declared.tree.Comparison.{Comparison}
use Rattle.cs_lang.specs.declared.tree.Expr.{Expr, out-Expr}
use Rattle.cs_lang.specs.declared.tree.Shape.{Shape, roll-Shape, map-Shape}
use Rattle.cs_lang.specs.declared.tree.Shape.TheVariants as shape
use Rattle.cs_lang.specs.declared.tree.Shape.TheVariants.{rolls-Number, rolls-Bytes, rolls-Truth, rolls-Name, rolls-List, rolls-Empty, rolls-Len, rolls-Sha256, rolls-Concat, rolls-Called, rolls-DepInt, rolls-Path, rolls-Not, rolls-Negative, rolls-Compared, rolls-Chain}
use Rattle.cs_lang.specs.declared.tree.Link.{Link, out-Link}
use Rattle.cs_lang.specs.declared.tree.Step.{Step, out-Step}
use Rattle.cs_lang.specs.declared.tree.Access.{Access, roll-Access, map-Access}
use Rattle.cs_lang.specs.declared.tree.Access.TheVariants as access
use Rattle.cs_lang.specs.declared.tree.Access.TheVariants.{rolls-Field, rolls-Index}
use Rattle.cs_lang.specs.declared.tree.Access.TheOpen.{Access-F, Shape-F}
use Rattle.cs_lang.specs.declared.tree.Access.TheFolds.{fold-roll-Access, fold-roll-Shape, fold_out-Expr, fold_out-Link, fold_out-Step}
use Rattle.cs_eval.specs.Meaning.{Environment, run_of, meaning, items_run, named_run, kind_of_meant, Meant, Linking, Stepping, access_means, shape_means, expr_means, link_means, step_means, expr_meant, shape_meant, link_meant, step_meant, access_meant}

module _ (sight : Environment) where
  pub expr_is : (e : Expr) → expr_meant sight e ≡ shape_meant sight (out-Expr e).shape (out-Expr e).place
  unfolding expr_meant shape_meant
  expr_is e = fold_out-Expr (ℕ → Stepping) (ℕ → Meant) Meant Linking Stepping (access_means sight) (shape_means sight) (expr_means sight) (link_means sight) (step_means sight) e

  pub link_is : (l : Link) → link_meant sight l ≡ record { operator = (out-Link l).operator; place = (out-Link l).place; right = expr_meant sight (out-Link l).right }
  unfolding expr_meant link_meant
  link_is l = fold_out-Link (ℕ → Stepping) (ℕ → Meant) Meant Linking Stepping (access_means sight) (shape_means sight) (expr_means sight) (link_means sight) (step_means sight) l

  step_is : (s : Step) → step_meant sight s ≡ access_meant sight (out-Step s).access (out-Step s).place
  unfolding step_meant access_meant
  step_is s = fold_out-Step (ℕ → Stepping) (ℕ → Meant) Meant Linking Stepping (access_means sight) (shape_means sight) (expr_means sight) (link_means sight) (step_means sight) s

  -- what a shape means, from what its parts mean
  abbrev meant_from : Shape-F Access Shape Expr Link Step → ℕ → Meant
  meant_from x = shape_means sight (map-Shape Access Shape Expr Link Step (ℕ → Stepping) (ℕ → Meant) Meant Linking Stepping (access_meant sight) (shape_meant sight) (expr_meant sight) (link_meant sight) (step_meant sight) x)

  shape_is : (x : Shape-F Access Shape Expr Link Step) → shape_meant sight (roll-Shape x) ≡ meant_from x
  unfolding expr_meant shape_meant link_meant step_meant access_meant
  shape_is x = fold-roll-Shape (ℕ → Stepping) (ℕ → Meant) Meant Linking Stepping (access_means sight) (shape_means sight) (expr_means sight) (link_means sight) (step_means sight) x

  meant_is : (e : Expr) (x : Shape-F Access Shape Expr Link Step) → (out-Expr e).shape ≡ roll-Shape x → expr_meant sight e ≡ meant_from x (out-Expr e).place
  meant_is e x is = expr_is e ∙ ap (λ (s : Shape). shape_meant sight s (out-Expr e).place) is ∙ ap (λ (f : ℕ → Meant). f (out-Expr e).place) (shape_is x)

  access_is : (x : Access-F Access Shape Expr Link Step)
      → access_meant sight (roll-Access x) ≡ access_means sight (map-Access Access Shape Expr Link Step (ℕ → Stepping) (ℕ → Meant) Meant Linking Stepping (access_meant sight) (shape_meant sight) (expr_meant sight) (link_meant sight) (step_meant sight) x)
  unfolding expr_meant shape_meant link_meant step_meant access_meant
  access_is x = fold-roll-Access (ℕ → Stepping) (ℕ → Meant) Meant Linking Stepping (access_means sight) (shape_means sight) (expr_means sight) (link_means sight) (step_means sight) x

  pub step_field : (s : Step) (name : Text) → (out-Step s).access ≡ access.Field name → step_meant sight s ≡ access_means sight (Access-F.Field name) (out-Step s).place
  step_field s name is =
      step_is s ∙ ap (λ (a : Access). access_meant sight a (out-Step s).place) (is ∙ sym (rolls-Field name)) ∙ ap (λ (f : ℕ → Stepping). f (out-Step s).place) (access_is (Access-F.Field name))

  pub step_index : (s : Step) (index : Expr) → (out-Step s).access ≡ access.Index index → step_meant sight s ≡ access_means sight (Access-F.Index (expr_meant sight index)) (out-Step s).place
  step_index s index is =
      step_is s ∙ ap (λ (a : Access). access_meant sight a (out-Step s).place) (is ∙ sym (rolls-Index index)) ∙ ap (λ (f : ℕ → Stepping). f (out-Step s).place) (access_is (Access-F.Index index))

  -- ---- their parts

  pub body_number : (e : Expr) (n : ℕ) → (out-Expr e).shape ≡ shape.Number n → (expr_meant sight e).body ≡ (shape_means sight (Shape-F.Number n) (out-Expr e).place).body
  body_number e n is = ap (λ (m : Meant). m.body) (meant_is e (Shape-F.Number n) (is ∙ sym (rolls-Number n)))

  pub units_number : (e : Expr) (n : ℕ) → (out-Expr e).shape ≡ shape.Number n → (expr_meant sight e).units ≡ (shape_means sight (Shape-F.Number n) (out-Expr e).place).units
  units_number e n is = ap (λ (m : Meant). m.units) (meant_is e (Shape-F.Number n) (is ∙ sym (rolls-Number n)))

  pub kind_number : (e : Expr) (n : ℕ) → (out-Expr e).shape ≡ shape.Number n → (expr_meant sight e).kind ≡ (shape_means sight (Shape-F.Number n) (out-Expr e).place).kind
  kind_number e n is = ap (λ (m : Meant). m.kind) (meant_is e (Shape-F.Number n) (is ∙ sym (rolls-Number n)))

  pub body_bytes : (e : Expr) (text : List ℕ) → (out-Expr e).shape ≡ shape.Bytes text → (expr_meant sight e).body ≡ (shape_means sight (Shape-F.Bytes text) (out-Expr e).place).body
  body_bytes e text is = ap (λ (m : Meant). m.body) (meant_is e (Shape-F.Bytes text) (is ∙ sym (rolls-Bytes text)))

  pub units_bytes : (e : Expr) (text : List ℕ) → (out-Expr e).shape ≡ shape.Bytes text → (expr_meant sight e).units ≡ (shape_means sight (Shape-F.Bytes text) (out-Expr e).place).units
  units_bytes e text is = ap (λ (m : Meant). m.units) (meant_is e (Shape-F.Bytes text) (is ∙ sym (rolls-Bytes text)))

  pub kind_bytes : (e : Expr) (text : List ℕ) → (out-Expr e).shape ≡ shape.Bytes text → (expr_meant sight e).kind ≡ (shape_means sight (Shape-F.Bytes text) (out-Expr e).place).kind
  kind_bytes e text is = ap (λ (m : Meant). m.kind) (meant_is e (Shape-F.Bytes text) (is ∙ sym (rolls-Bytes text)))

  pub body_truth : (e : Expr) (b : Bool) → (out-Expr e).shape ≡ shape.Truth b → (expr_meant sight e).body ≡ (shape_means sight (Shape-F.Truth b) (out-Expr e).place).body
  body_truth e b is = ap (λ (m : Meant). m.body) (meant_is e (Shape-F.Truth b) (is ∙ sym (rolls-Truth b)))

  pub units_truth : (e : Expr) (b : Bool) → (out-Expr e).shape ≡ shape.Truth b → (expr_meant sight e).units ≡ (shape_means sight (Shape-F.Truth b) (out-Expr e).place).units
  units_truth e b is = ap (λ (m : Meant). m.units) (meant_is e (Shape-F.Truth b) (is ∙ sym (rolls-Truth b)))

  pub kind_truth : (e : Expr) (b : Bool) → (out-Expr e).shape ≡ shape.Truth b → (expr_meant sight e).kind ≡ (shape_means sight (Shape-F.Truth b) (out-Expr e).place).kind
  kind_truth e b is = ap (λ (m : Meant). m.kind) (meant_is e (Shape-F.Truth b) (is ∙ sym (rolls-Truth b)))

  pub body_name : (e : Expr) (name : List ℕ) → (out-Expr e).shape ≡ shape.Name name → (expr_meant sight e).body ≡ (shape_means sight (Shape-F.Name name) (out-Expr e).place).body
  body_name e name is = ap (λ (m : Meant). m.body) (meant_is e (Shape-F.Name name) (is ∙ sym (rolls-Name name)))

  pub units_name : (e : Expr) (name : List ℕ) → (out-Expr e).shape ≡ shape.Name name → (expr_meant sight e).units ≡ (shape_means sight (Shape-F.Name name) (out-Expr e).place).units
  units_name e name is = ap (λ (m : Meant). m.units) (meant_is e (Shape-F.Name name) (is ∙ sym (rolls-Name name)))

  pub kind_name : (e : Expr) (name : List ℕ) → (out-Expr e).shape ≡ shape.Name name → (expr_meant sight e).kind ≡ (shape_means sight (Shape-F.Name name) (out-Expr e).place).kind
  kind_name e name is = ap (λ (m : Meant). m.kind) (meant_is e (Shape-F.Name name) (is ∙ sym (rolls-Name name)))

  pub body_list : (e : Expr) (items : List Expr) → (out-Expr e).shape ≡ shape.List items → (expr_meant sight e).body ≡ (shape_means sight (Shape-F.List (map (expr_meant sight) items)) (out-Expr e).place).body
  body_list e items is = ap (λ (m : Meant). m.body) (meant_is e (Shape-F.List items) (is ∙ sym (rolls-List items)))

  pub units_list : (e : Expr) (items : List Expr) → (out-Expr e).shape ≡ shape.List items → (expr_meant sight e).units ≡ (shape_means sight (Shape-F.List (map (expr_meant sight) items)) (out-Expr e).place).units
  units_list e items is = ap (λ (m : Meant). m.units) (meant_is e (Shape-F.List items) (is ∙ sym (rolls-List items)))

  pub kind_list : (e : Expr) (items : List Expr) → (out-Expr e).shape ≡ shape.List items → (expr_meant sight e).kind ≡ (shape_means sight (Shape-F.List (map (expr_meant sight) items)) (out-Expr e).place).kind
  kind_list e items is = ap (λ (m : Meant). m.kind) (meant_is e (Shape-F.List items) (is ∙ sym (rolls-List items)))

  pub body_empty : (e : Expr) (k : ValueKind) → (out-Expr e).shape ≡ shape.Empty k → (expr_meant sight e).body ≡ (shape_means sight (Shape-F.Empty k) (out-Expr e).place).body
  body_empty e k is = ap (λ (m : Meant). m.body) (meant_is e (Shape-F.Empty k) (is ∙ sym (rolls-Empty k)))

  pub units_empty : (e : Expr) (k : ValueKind) → (out-Expr e).shape ≡ shape.Empty k → (expr_meant sight e).units ≡ (shape_means sight (Shape-F.Empty k) (out-Expr e).place).units
  units_empty e k is = ap (λ (m : Meant). m.units) (meant_is e (Shape-F.Empty k) (is ∙ sym (rolls-Empty k)))

  pub kind_empty : (e : Expr) (k : ValueKind) → (out-Expr e).shape ≡ shape.Empty k → (expr_meant sight e).kind ≡ (shape_means sight (Shape-F.Empty k) (out-Expr e).place).kind
  kind_empty e k is = ap (λ (m : Meant). m.kind) (meant_is e (Shape-F.Empty k) (is ∙ sym (rolls-Empty k)))

  pub body_len : (e : Expr) (inner : Expr) → (out-Expr e).shape ≡ shape.Len inner → (expr_meant sight e).body ≡ (shape_means sight (Shape-F.Len (expr_meant sight inner)) (out-Expr e).place).body
  body_len e inner is = ap (λ (m : Meant). m.body) (meant_is e (Shape-F.Len inner) (is ∙ sym (rolls-Len inner)))

  pub units_len : (e : Expr) (inner : Expr) → (out-Expr e).shape ≡ shape.Len inner → (expr_meant sight e).units ≡ (shape_means sight (Shape-F.Len (expr_meant sight inner)) (out-Expr e).place).units
  units_len e inner is = ap (λ (m : Meant). m.units) (meant_is e (Shape-F.Len inner) (is ∙ sym (rolls-Len inner)))

  pub kind_len : (e : Expr) (inner : Expr) → (out-Expr e).shape ≡ shape.Len inner → (expr_meant sight e).kind ≡ (shape_means sight (Shape-F.Len (expr_meant sight inner)) (out-Expr e).place).kind
  kind_len e inner is = ap (λ (m : Meant). m.kind) (meant_is e (Shape-F.Len inner) (is ∙ sym (rolls-Len inner)))

  pub body_sha256 : (e : Expr) (inner : Expr) → (out-Expr e).shape ≡ shape.Sha256 inner → (expr_meant sight e).body ≡ (shape_means sight (Shape-F.Sha256 (expr_meant sight inner)) (out-Expr e).place).body
  body_sha256 e inner is = ap (λ (m : Meant). m.body) (meant_is e (Shape-F.Sha256 inner) (is ∙ sym (rolls-Sha256 inner)))

  pub units_sha256 : (e : Expr) (inner : Expr) → (out-Expr e).shape ≡ shape.Sha256 inner → (expr_meant sight e).units ≡ (shape_means sight (Shape-F.Sha256 (expr_meant sight inner)) (out-Expr e).place).units
  units_sha256 e inner is = ap (λ (m : Meant). m.units) (meant_is e (Shape-F.Sha256 inner) (is ∙ sym (rolls-Sha256 inner)))

  pub kind_sha256 : (e : Expr) (inner : Expr) → (out-Expr e).shape ≡ shape.Sha256 inner → (expr_meant sight e).kind ≡ (shape_means sight (Shape-F.Sha256 (expr_meant sight inner)) (out-Expr e).place).kind
  kind_sha256 e inner is = ap (λ (m : Meant). m.kind) (meant_is e (Shape-F.Sha256 inner) (is ∙ sym (rolls-Sha256 inner)))

  pub body_concat : (e : Expr) (front back : Expr) → (out-Expr e).shape ≡ shape.Concat front back → (expr_meant sight e).body ≡ (shape_means sight (Shape-F.Concat (expr_meant sight front) (expr_meant sight back)) (out-Expr e).place).body
  body_concat e front back is = ap (λ (m : Meant). m.body) (meant_is e (Shape-F.Concat front back) (is ∙ sym (rolls-Concat front back)))

  pub units_concat : (e : Expr) (front back : Expr) → (out-Expr e).shape ≡ shape.Concat front back → (expr_meant sight e).units ≡ (shape_means sight (Shape-F.Concat (expr_meant sight front) (expr_meant sight back)) (out-Expr e).place).units
  units_concat e front back is = ap (λ (m : Meant). m.units) (meant_is e (Shape-F.Concat front back) (is ∙ sym (rolls-Concat front back)))

  pub kind_concat : (e : Expr) (front back : Expr) → (out-Expr e).shape ≡ shape.Concat front back → (expr_meant sight e).kind ≡ (shape_means sight (Shape-F.Concat (expr_meant sight front) (expr_meant sight back)) (out-Expr e).place).kind
  kind_concat e front back is = ap (λ (m : Meant). m.kind) (meant_is e (Shape-F.Concat front back) (is ∙ sym (rolls-Concat front back)))

  pub body_called : (e : Expr) (dep : ℕ) (name : Text) → (out-Expr e).shape ≡ shape.Called dep name → (expr_meant sight e).body ≡ (shape_means sight (Shape-F.Called dep name) (out-Expr e).place).body
  body_called e dep name is = ap (λ (m : Meant). m.body) (meant_is e (Shape-F.Called dep name) (is ∙ sym (rolls-Called dep name)))

  pub units_called : (e : Expr) (dep : ℕ) (name : Text) → (out-Expr e).shape ≡ shape.Called dep name → (expr_meant sight e).units ≡ (shape_means sight (Shape-F.Called dep name) (out-Expr e).place).units
  units_called e dep name is = ap (λ (m : Meant). m.units) (meant_is e (Shape-F.Called dep name) (is ∙ sym (rolls-Called dep name)))

  pub kind_called : (e : Expr) (dep : ℕ) (name : Text) → (out-Expr e).shape ≡ shape.Called dep name → (expr_meant sight e).kind ≡ (shape_means sight (Shape-F.Called dep name) (out-Expr e).place).kind
  kind_called e dep name is = ap (λ (m : Meant). m.kind) (meant_is e (Shape-F.Called dep name) (is ∙ sym (rolls-Called dep name)))

  pub body_depint : (e : Expr) (dep value : ℕ) → (out-Expr e).shape ≡ shape.DepInt dep value → (expr_meant sight e).body ≡ (shape_means sight (Shape-F.DepInt dep value) (out-Expr e).place).body
  body_depint e dep value is = ap (λ (m : Meant). m.body) (meant_is e (Shape-F.DepInt dep value) (is ∙ sym (rolls-DepInt dep value)))

  pub units_depint : (e : Expr) (dep value : ℕ) → (out-Expr e).shape ≡ shape.DepInt dep value → (expr_meant sight e).units ≡ (shape_means sight (Shape-F.DepInt dep value) (out-Expr e).place).units
  units_depint e dep value is = ap (λ (m : Meant). m.units) (meant_is e (Shape-F.DepInt dep value) (is ∙ sym (rolls-DepInt dep value)))

  pub kind_depint : (e : Expr) (dep value : ℕ) → (out-Expr e).shape ≡ shape.DepInt dep value → (expr_meant sight e).kind ≡ (shape_means sight (Shape-F.DepInt dep value) (out-Expr e).place).kind
  kind_depint e dep value is = ap (λ (m : Meant). m.kind) (meant_is e (Shape-F.DepInt dep value) (is ∙ sym (rolls-DepInt dep value)))

  pub body_path : (e : Expr) (start : Expr) (steps : List Step) → (out-Expr e).shape ≡ shape.Path start steps → (expr_meant sight e).body ≡ (shape_means sight (Shape-F.Path (expr_meant sight start) (map (step_meant sight) steps)) (out-Expr e).place).body
  body_path e start steps is = ap (λ (m : Meant). m.body) (meant_is e (Shape-F.Path start steps) (is ∙ sym (rolls-Path start steps)))

  pub units_path : (e : Expr) (start : Expr) (steps : List Step) → (out-Expr e).shape ≡ shape.Path start steps → (expr_meant sight e).units ≡ (shape_means sight (Shape-F.Path (expr_meant sight start) (map (step_meant sight) steps)) (out-Expr e).place).units
  units_path e start steps is = ap (λ (m : Meant). m.units) (meant_is e (Shape-F.Path start steps) (is ∙ sym (rolls-Path start steps)))

  pub kind_path : (e : Expr) (start : Expr) (steps : List Step) → (out-Expr e).shape ≡ shape.Path start steps → (expr_meant sight e).kind ≡ (shape_means sight (Shape-F.Path (expr_meant sight start) (map (step_meant sight) steps)) (out-Expr e).place).kind
  kind_path e start steps is = ap (λ (m : Meant). m.kind) (meant_is e (Shape-F.Path start steps) (is ∙ sym (rolls-Path start steps)))

  pub body_not : (e : Expr) (inner : Expr) → (out-Expr e).shape ≡ shape.Not inner → (expr_meant sight e).body ≡ (shape_means sight (Shape-F.Not (expr_meant sight inner)) (out-Expr e).place).body
  body_not e inner is = ap (λ (m : Meant). m.body) (meant_is e (Shape-F.Not inner) (is ∙ sym (rolls-Not inner)))

  pub units_not : (e : Expr) (inner : Expr) → (out-Expr e).shape ≡ shape.Not inner → (expr_meant sight e).units ≡ (shape_means sight (Shape-F.Not (expr_meant sight inner)) (out-Expr e).place).units
  units_not e inner is = ap (λ (m : Meant). m.units) (meant_is e (Shape-F.Not inner) (is ∙ sym (rolls-Not inner)))

  pub kind_not : (e : Expr) (inner : Expr) → (out-Expr e).shape ≡ shape.Not inner → (expr_meant sight e).kind ≡ (shape_means sight (Shape-F.Not (expr_meant sight inner)) (out-Expr e).place).kind
  kind_not e inner is = ap (λ (m : Meant). m.kind) (meant_is e (Shape-F.Not inner) (is ∙ sym (rolls-Not inner)))

  pub body_negative : (e : Expr) (inner : Expr) → (out-Expr e).shape ≡ shape.Negative inner → (expr_meant sight e).body ≡ (shape_means sight (Shape-F.Negative (expr_meant sight inner)) (out-Expr e).place).body
  body_negative e inner is = ap (λ (m : Meant). m.body) (meant_is e (Shape-F.Negative inner) (is ∙ sym (rolls-Negative inner)))

  pub units_negative : (e : Expr) (inner : Expr) → (out-Expr e).shape ≡ shape.Negative inner → (expr_meant sight e).units ≡ (shape_means sight (Shape-F.Negative (expr_meant sight inner)) (out-Expr e).place).units
  units_negative e inner is = ap (λ (m : Meant). m.units) (meant_is e (Shape-F.Negative inner) (is ∙ sym (rolls-Negative inner)))

  pub kind_negative : (e : Expr) (inner : Expr) → (out-Expr e).shape ≡ shape.Negative inner → (expr_meant sight e).kind ≡ (shape_means sight (Shape-F.Negative (expr_meant sight inner)) (out-Expr e).place).kind
  kind_negative e inner is = ap (λ (m : Meant). m.kind) (meant_is e (Shape-F.Negative inner) (is ∙ sym (rolls-Negative inner)))

  pub body_compared : (e : Expr) (c : Comparison) (left right : Expr) → (out-Expr e).shape ≡ shape.Compared c left right → (expr_meant sight e).body ≡ (shape_means sight (Shape-F.Compared c (expr_meant sight left) (expr_meant sight right)) (out-Expr e).place).body
  body_compared e c left right is = ap (λ (m : Meant). m.body) (meant_is e (Shape-F.Compared c left right) (is ∙ sym (rolls-Compared c left right)))

  pub units_compared : (e : Expr) (c : Comparison) (left right : Expr) → (out-Expr e).shape ≡ shape.Compared c left right → (expr_meant sight e).units ≡ (shape_means sight (Shape-F.Compared c (expr_meant sight left) (expr_meant sight right)) (out-Expr e).place).units
  units_compared e c left right is = ap (λ (m : Meant). m.units) (meant_is e (Shape-F.Compared c left right) (is ∙ sym (rolls-Compared c left right)))

  pub kind_compared : (e : Expr) (c : Comparison) (left right : Expr) → (out-Expr e).shape ≡ shape.Compared c left right → (expr_meant sight e).kind ≡ (shape_means sight (Shape-F.Compared c (expr_meant sight left) (expr_meant sight right)) (out-Expr e).place).kind
  kind_compared e c left right is = ap (λ (m : Meant). m.kind) (meant_is e (Shape-F.Compared c left right) (is ∙ sym (rolls-Compared c left right)))

  pub body_chain : (e : Expr) (r : Rank) (start : Expr) (links : List Link) → (out-Expr e).shape ≡ shape.Chain r start links → (expr_meant sight e).body ≡ (shape_means sight (Shape-F.Chain r (expr_meant sight start) (map (link_meant sight) links)) (out-Expr e).place).body
  body_chain e r start links is = ap (λ (m : Meant). m.body) (meant_is e (Shape-F.Chain r start links) (is ∙ sym (rolls-Chain r start links)))

  pub units_chain : (e : Expr) (r : Rank) (start : Expr) (links : List Link) → (out-Expr e).shape ≡ shape.Chain r start links → (expr_meant sight e).units ≡ (shape_means sight (Shape-F.Chain r (expr_meant sight start) (map (link_meant sight) links)) (out-Expr e).place).units
  units_chain e r start links is = ap (λ (m : Meant). m.units) (meant_is e (Shape-F.Chain r start links) (is ∙ sym (rolls-Chain r start links)))

  pub kind_chain : (e : Expr) (r : Rank) (start : Expr) (links : List Link) → (out-Expr e).shape ≡ shape.Chain r start links → (expr_meant sight e).kind ≡ (shape_means sight (Shape-F.Chain r (expr_meant sight start) (map (link_meant sight) links)) (out-Expr e).place).kind
  kind_chain e r start links is = ap (λ (m : Meant). m.kind) (meant_is e (Shape-F.Chain r start links) (is ∙ sym (rolls-Chain r start links)))

-- ---- where they stand

map_map : {A B C : Type 0} (f : A → B) (h : B → C) (xs : List A) → map h (map f xs) ≡ map (λ x. h (f x)) xs
map_map f h [] = refl
map_map f h (x ∷ xs) = ap (λ (ys : List _). h (f x) ∷ ys) (map_map f h xs)

pub body_items : (sight : Environment) (e : Expr) (items : List Expr) → (out-Expr e).shape ≡ shape.List items
    → (expr_meant sight e).body ≡ items_run (out-Expr e).place [] (map (meaning sight) items)
body_items sight e items is =
    body_list sight e items is ∙ ap (λ (rs : List (Run Datum)). items_run (out-Expr e).place [] rs) (map_map (expr_meant sight) run_of items)

pub body_named : (scene : Scene) (names : List Named) (e : Expr) (name : List ℕ) → (out-Expr e).shape ≡ shape.Name name
    → (expr_meant (seen_from scene names) e).body ≡ named_run names name (out-Expr e).place
body_named scene names e name is = body_name (seen_from scene names) e name is

pub body_call : (scene : Scene) (names : List Named) (e : Expr) (dep : ℕ) (name : Text) → (out-Expr e).shape ≡ shape.Called dep name
    → (expr_meant (seen_from scene names) e).body ≡ gives (truth (is_called scene.view.now dep name.bytes))
body_call scene names e dep name is = body_called (seen_from scene names) e dep name is

pub body_returned : (scene : Scene) (names : List Named) (e : Expr) (dep value : ℕ) → (out-Expr e).shape ≡ shape.DepInt dep value
    → (expr_meant (seen_from scene names) e).body ≡ returned_int scene.view.now dep value (out-Expr e).place
body_returned scene names e dep value is = body_depint (seen_from scene names) e dep value is

pub kind_of_name : (scene : Scene) (names : List Named) (e : Expr) (name : List ℕ) → (out-Expr e).shape ≡ shape.Name name
    → (expr_meant (seen_from scene names) e).kind ≡ kind_named name names
kind_of_name scene names e name is = kind_name (seen_from scene names) e name is

kinds_first : (sight : Environment) (items : List Expr) (first : Expr) → 1 ≤ length items → first ≡ get_or items 0 first
    → list_kind (map kind_of_meant (map (expr_meant sight) items)) ≡ option_and_then list_kind_of (expr_meant sight first).kind
kinds_first sight [] first some is = absurd (omega arith)
kinds_first sight (x ∷ xs) first some is = ap (λ (y : Expr). option_and_then list_kind_of (expr_meant sight y).kind) (sym is)

pub kind_of_list : (sight : Environment) (e : Expr) (items : List Expr) (first : Expr) → (out-Expr e).shape ≡ shape.List items
    → 1 ≤ length items → first ≡ get_or items 0 first → (expr_meant sight e).kind ≡ option_and_then list_kind_of (expr_meant sight first).kind
kind_of_list sight e items first is some at = kind_list sight e items is ∙ kinds_first sight items first some at

kinds_none : (sight : Environment) (items : List Expr) → length items < 1 → list_kind (map kind_of_meant (map (expr_meant sight) items)) ≡ None
kinds_none sight [] none = refl
kinds_none sight (x ∷ xs) none = absurd (omega arith)

pub kind_of_none : (sight : Environment) (e : Expr) (items : List Expr) → (out-Expr e).shape ≡ shape.List items → length items < 1 → None ≡ (expr_meant sight e).kind
kind_of_none sight e items is none = sym (kind_list sight e items is ∙ kinds_none sight items none)

pub units_steps : (sight : Environment) (e : Expr) (start : Expr) (steps : List Step) → (out-Expr e).shape ≡ shape.Path start steps → (expr_meant sight e).units ≡ length steps
units_steps sight e start steps is = units_path sight e start steps is ∙ length-map steps (step_meant sight)

pub units_links : (sight : Environment) (e : Expr) (r : Rank) (start : Expr) (links : List Link) → (out-Expr e).shape ≡ shape.Chain r start links → (expr_meant sight e).units ≡ length links
units_links sight e r start links is = units_chain sight e r start links is ∙ length-map links (link_meant sight)

pub ruleset bodies = (body_items, body_named, body_call, body_returned, body_number, body_bytes, body_truth, body_name, body_list, body_empty, body_len, body_sha256, body_concat, body_called, body_depint, body_path, body_not, body_negative, body_compared, body_chain)

pub ruleset own_units = (units_steps, units_links, units_number, units_bytes, units_truth, units_name, units_list, units_empty, units_len, units_sha256, units_concat, units_called, units_depint, units_not, units_negative, units_compared)

pub ruleset own_kinds = (kind_of_name, kind_number, kind_bytes, kind_truth, kind_name, kind_list, kind_empty, kind_len, kind_sha256, kind_concat, kind_called, kind_depint, kind_path, kind_not, kind_negative, kind_compared, kind_chain)

pub ruleset stepping = (step_field, step_index)
