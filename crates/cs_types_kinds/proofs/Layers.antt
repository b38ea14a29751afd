-- What is told of expressions, one equation for each shape.
use Rattle.std.proofs.Common.{◌≡◌, ℕ, Bool, List, map, sym, ap, ◌∙◌}
use Rattle.cs_lang_token.specs.declared.token.Text.{Text}
use Rattle.cs_lang.specs.declared.tree.ValueKind.{ValueKind}
use Rattle.cs_lang.specs.declared.tree.Rank.{Rank}
use Rattle.cs_lang.specs.declared.tree.Comparison.{Comparison}
use Rattle.cs_lang.specs.declared.tree.Expr.{Expr, out-Expr}
use Rattle.cs_lang.specs.declared.tree.Shape.{Shape}
use Rattle.cs_lang.specs.declared.tree.Shape.TheVariants as shape
use Rattle.cs_lang.specs.declared.tree.Shape.TheVariants.{rolls-Number, rolls-Bytes, rolls-Truth, rolls-Name, rolls-List, rolls-Empty, rolls-Len, rolls-Sha256, rolls-Concat, rolls-Called, rolls-DepInt, rolls-Path, rolls-Not, rolls-Negative, rolls-Compared, rolls-Chain}
use Rattle.cs_lang.specs.declared.tree.Link.{Link, out-Link}
use Rattle.cs_lang.specs.declared.tree.Step.{Step, out-Step}
use Rattle.cs_lang.specs.declared.tree.Access.{Access}
use Rattle.cs_lang.specs.declared.tree.Access.TheVariants as access
use Rattle.cs_lang.specs.declared.tree.Access.TheVariants.{rolls-Field, rolls-Index}
use Rattle.cs_lang.specs.declared.tree.Access.TheOpen.{Access-F, Shape-F}
use Rattle.cs_lang.specs.declared.tree.Access.TheFolds.{fold-Access, fold-roll-Access, fold-roll-Shape, fold_out-Expr, fold_out-Link, fold_out-Step}
use Rattle.cs_types_kinds.specs.declared.expressions.Judged.{Judged}
use Rattle.cs_types_kinds.specs.Told.{Told}
use Rattle.cs_types_kinds.specs.Kinds.{int_kind, bool, bytes_kind}
use Rattle.cs_types_kinds.specs.Scopes.{InSight}
use Rattle.cs_types_kinds.specs.Judging.{JudgedPart, judged, Stepped, name_judged, list_judged, empty_judged, len_judged, sha256_judged, concat_judged, called_judged, depint_judged, path_judged, not_judged, negative_judged, compared_judged, concat_of, compared_of, chain_judged, field_judged, index_judged}
use Rattle.cs_types_kinds.specs.Parts.{Shaped, access_from_parts, shape_from_parts, expr_from_parts, link_from_parts, step_from_parts, part_of, shape_part, link_part, step_part}

module _ (sight : InSight) where
  part_is : (e : Expr) → part_of sight e ≡ record { first = (out-Expr e).first; found = shape_part sight (out-Expr e).shape (out-Expr e).place }
  unfolding part_of shape_part
  part_is e = fold_out-Expr Stepped Shaped JudgedPart JudgedPart (Judged → Told Judged) (access_from_parts sight) (shape_from_parts sight) (expr_from_parts sight) (link_from_parts sight) (step_from_parts sight) e

  pub part_first : (e : Expr) → (part_of sight e).first ≡ (out-Expr e).first
  part_first e = ap (λ (p : JudgedPart). p.first) (part_is e)

  pub part_found : (e : Expr) → (part_of sight e).found ≡ shape_part sight (out-Expr e).shape (out-Expr e).place
  part_found e = ap (λ (p : JudgedPart). p.found) (part_is e)

  pub link_is : (l : Link) → link_part sight l ≡ part_of sight (out-Link l).right
  unfolding part_of link_part
  link_is l = fold_out-Link Stepped Shaped JudgedPart JudgedPart (Judged → Told Judged) (access_from_parts sight) (shape_from_parts sight) (expr_from_parts sight) (link_from_parts sight) (step_from_parts sight) l

  shape_number : (n : ℕ) → (place : ℕ) → shape_part sight (shape.Number n) place ≡ judged int_kind 1
  unfolding part_of shape_part link_part step_part
  shape_number n place = ap (λ (s : Shape). shape_part sight s place) (sym (rolls-Number n)) ∙ ap (λ (f : Shaped). f place) (fold-roll-Shape Stepped Shaped JudgedPart JudgedPart (Judged → Told Judged) (access_from_parts sight) (shape_from_parts sight) (expr_from_parts sight) (link_from_parts sight) (step_from_parts sight) (Shape-F.Number n))

  pub found_number : (e : Expr) (n : ℕ) → (out-Expr e).shape ≡ shape.Number n → (part_of sight e).found ≡ judged int_kind 1
  found_number e n is = part_found e ∙ ap (λ (s : Shape). shape_part sight s (out-Expr e).place) is ∙ shape_number n (out-Expr e).place

  shape_bytes : (text : List ℕ) → (place : ℕ) → shape_part sight (shape.Bytes text) place ≡ judged bytes_kind 1
  unfolding part_of shape_part link_part step_part
  shape_bytes text place = ap (λ (s : Shape). shape_part sight s place) (sym (rolls-Bytes text)) ∙ ap (λ (f : Shaped). f place) (fold-roll-Shape Stepped Shaped JudgedPart JudgedPart (Judged → Told Judged) (access_from_parts sight) (shape_from_parts sight) (expr_from_parts sight) (link_from_parts sight) (step_from_parts sight) (Shape-F.Bytes text))

  pub found_bytes : (e : Expr) (text : List ℕ) → (out-Expr e).shape ≡ shape.Bytes text → (part_of sight e).found ≡ judged bytes_kind 1
  found_bytes e text is = part_found e ∙ ap (λ (s : Shape). shape_part sight s (out-Expr e).place) is ∙ shape_bytes text (out-Expr e).place

  shape_truth : (b : Bool) → (place : ℕ) → shape_part sight (shape.Truth b) place ≡ judged bool 1
  unfolding part_of shape_part link_part step_part
  shape_truth b place = ap (λ (s : Shape). shape_part sight s place) (sym (rolls-Truth b)) ∙ ap (λ (f : Shaped). f place) (fold-roll-Shape Stepped Shaped JudgedPart JudgedPart (Judged → Told Judged) (access_from_parts sight) (shape_from_parts sight) (expr_from_parts sight) (link_from_parts sight) (step_from_parts sight) (Shape-F.Truth b))

  pub found_truth : (e : Expr) (b : Bool) → (out-Expr e).shape ≡ shape.Truth b → (part_of sight e).found ≡ judged bool 1
  found_truth e b is = part_found e ∙ ap (λ (s : Shape). shape_part sight s (out-Expr e).place) is ∙ shape_truth b (out-Expr e).place

  shape_name : (name : List ℕ) → (place : ℕ) → shape_part sight (shape.Name name) place ≡ name_judged sight name place
  unfolding part_of shape_part link_part step_part
  shape_name name place = ap (λ (s : Shape). shape_part sight s place) (sym (rolls-Name name)) ∙ ap (λ (f : Shaped). f place) (fold-roll-Shape Stepped Shaped JudgedPart JudgedPart (Judged → Told Judged) (access_from_parts sight) (shape_from_parts sight) (expr_from_parts sight) (link_from_parts sight) (step_from_parts sight) (Shape-F.Name name))

  pub found_name : (e : Expr) (name : List ℕ) → (out-Expr e).shape ≡ shape.Name name → (part_of sight e).found ≡ name_judged sight name (out-Expr e).place
  found_name e name is = part_found e ∙ ap (λ (s : Shape). shape_part sight s (out-Expr e).place) is ∙ shape_name name (out-Expr e).place

  shape_list : (items : List Expr) → (place : ℕ) → shape_part sight (shape.List items) place ≡ list_judged (map (part_of sight) items) place
  unfolding part_of shape_part link_part step_part
  shape_list items place = ap (λ (s : Shape). shape_part sight s place) (sym (rolls-List items)) ∙ ap (λ (f : Shaped). f place) (fold-roll-Shape Stepped Shaped JudgedPart JudgedPart (Judged → Told Judged) (access_from_parts sight) (shape_from_parts sight) (expr_from_parts sight) (link_from_parts sight) (step_from_parts sight) (Shape-F.List items))

  pub found_list : (e : Expr) (items : List Expr) → (out-Expr e).shape ≡ shape.List items → (part_of sight e).found ≡ list_judged (map (part_of sight) items) (out-Expr e).place
  found_list e items is = part_found e ∙ ap (λ (s : Shape). shape_part sight s (out-Expr e).place) is ∙ shape_list items (out-Expr e).place

  shape_empty : (k : ValueKind) → (place : ℕ) → shape_part sight (shape.Empty k) place ≡ empty_judged k place
  unfolding part_of shape_part link_part step_part
  shape_empty k place = ap (λ (s : Shape). shape_part sight s place) (sym (rolls-Empty k)) ∙ ap (λ (f : Shaped). f place) (fold-roll-Shape Stepped Shaped JudgedPart JudgedPart (Judged → Told Judged) (access_from_parts sight) (shape_from_parts sight) (expr_from_parts sight) (link_from_parts sight) (step_from_parts sight) (Shape-F.Empty k))

  pub found_empty : (e : Expr) (k : ValueKind) → (out-Expr e).shape ≡ shape.Empty k → (part_of sight e).found ≡ empty_judged k (out-Expr e).place
  found_empty e k is = part_found e ∙ ap (λ (s : Shape). shape_part sight s (out-Expr e).place) is ∙ shape_empty k (out-Expr e).place

  shape_len : (inner : Expr) → (place : ℕ) → shape_part sight (shape.Len inner) place ≡ len_judged (part_of sight inner)
  unfolding part_of shape_part link_part step_part
  shape_len inner place = ap (λ (s : Shape). shape_part sight s place) (sym (rolls-Len inner)) ∙ ap (λ (f : Shaped). f place) (fold-roll-Shape Stepped Shaped JudgedPart JudgedPart (Judged → Told Judged) (access_from_parts sight) (shape_from_parts sight) (expr_from_parts sight) (link_from_parts sight) (step_from_parts sight) (Shape-F.Len inner))

  pub found_len : (e : Expr) (inner : Expr) → (out-Expr e).shape ≡ shape.Len inner → (part_of sight e).found ≡ len_judged (part_of sight inner)
  found_len e inner is = part_found e ∙ ap (λ (s : Shape). shape_part sight s (out-Expr e).place) is ∙ shape_len inner (out-Expr e).place

  shape_sha256 : (inner : Expr) → (place : ℕ) → shape_part sight (shape.Sha256 inner) place ≡ sha256_judged (part_of sight inner)
  unfolding part_of shape_part link_part step_part
  shape_sha256 inner place = ap (λ (s : Shape). shape_part sight s place) (sym (rolls-Sha256 inner)) ∙ ap (λ (f : Shaped). f place) (fold-roll-Shape Stepped Shaped JudgedPart JudgedPart (Judged → Told Judged) (access_from_parts sight) (shape_from_parts sight) (expr_from_parts sight) (link_from_parts sight) (step_from_parts sight) (Shape-F.Sha256 inner))

  pub found_sha256 : (e : Expr) (inner : Expr) → (out-Expr e).shape ≡ shape.Sha256 inner → (part_of sight e).found ≡ sha256_judged (part_of sight inner)
  found_sha256 e inner is = part_found e ∙ ap (λ (s : Shape). shape_part sight s (out-Expr e).place) is ∙ shape_sha256 inner (out-Expr e).place

  shape_concat : (front back : Expr) → (place : ℕ) → shape_part sight (shape.Concat front back) place ≡ concat_judged (part_of sight front) (part_of sight back)
  unfolding part_of shape_part link_part step_part
  shape_concat front back place = ap (λ (s : Shape). shape_part sight s place) (sym (rolls-Concat front back)) ∙ ap (λ (f : Shaped). f place) (fold-roll-Shape Stepped Shaped JudgedPart JudgedPart (Judged → Told Judged) (access_from_parts sight) (shape_from_parts sight) (expr_from_parts sight) (link_from_parts sight) (step_from_parts sight) (Shape-F.Concat front back))

  pub found_concat : (e : Expr) (front back : Expr) → (out-Expr e).shape ≡ shape.Concat front back → (part_of sight e).found ≡ concat_of (part_of sight front).found (out-Expr front).first (part_of sight back)
  found_concat e front back is = part_found e ∙ ap (λ (s : Shape). shape_part sight s (out-Expr e).place) is ∙ shape_concat front back (out-Expr e).place
      ∙ ap (λ (f : ℕ). concat_of (part_of sight front).found f (part_of sight back)) (part_first front)

  shape_called : (dep : ℕ) (name : Text) → (place : ℕ) → shape_part sight (shape.Called dep name) place ≡ called_judged sight name place
  unfolding part_of shape_part link_part step_part
  shape_called dep name place = ap (λ (s : Shape). shape_part sight s place) (sym (rolls-Called dep name)) ∙ ap (λ (f : Shaped). f place) (fold-roll-Shape Stepped Shaped JudgedPart JudgedPart (Judged → Told Judged) (access_from_parts sight) (shape_from_parts sight) (expr_from_parts sight) (link_from_parts sight) (step_from_parts sight) (Shape-F.Called dep name))

  pub found_called : (e : Expr) (dep : ℕ) (name : Text) → (out-Expr e).shape ≡ shape.Called dep name → (part_of sight e).found ≡ called_judged sight name (out-Expr e).place
  found_called e dep name is = part_found e ∙ ap (λ (s : Shape). shape_part sight s (out-Expr e).place) is ∙ shape_called dep name (out-Expr e).place

  shape_depint : (dep value : ℕ) → (place : ℕ) → shape_part sight (shape.DepInt dep value) place ≡ depint_judged sight place
  unfolding part_of shape_part link_part step_part
  shape_depint dep value place = ap (λ (s : Shape). shape_part sight s place) (sym (rolls-DepInt dep value)) ∙ ap (λ (f : Shaped). f place) (fold-roll-Shape Stepped Shaped JudgedPart JudgedPart (Judged → Told Judged) (access_from_parts sight) (shape_from_parts sight) (expr_from_parts sight) (link_from_parts sight) (step_from_parts sight) (Shape-F.DepInt dep value))

  pub found_depint : (e : Expr) (dep value : ℕ) → (out-Expr e).shape ≡ shape.DepInt dep value → (part_of sight e).found ≡ depint_judged sight (out-Expr e).place
  found_depint e dep value is = part_found e ∙ ap (λ (s : Shape). shape_part sight s (out-Expr e).place) is ∙ shape_depint dep value (out-Expr e).place

  shape_path : (start : Expr) (steps : List Step) → (place : ℕ) → shape_part sight (shape.Path start steps) place ≡ path_judged (part_of sight start) (map (step_part sight) steps)
  unfolding part_of shape_part link_part step_part
  shape_path start steps place = ap (λ (s : Shape). shape_part sight s place) (sym (rolls-Path start steps)) ∙ ap (λ (f : Shaped). f place) (fold-roll-Shape Stepped Shaped JudgedPart JudgedPart (Judged → Told Judged) (access_from_parts sight) (shape_from_parts sight) (expr_from_parts sight) (link_from_parts sight) (step_from_parts sight) (Shape-F.Path start steps))

  pub found_path : (e : Expr) (start : Expr) (steps : List Step) → (out-Expr e).shape ≡ shape.Path start steps → (part_of sight e).found ≡ path_judged (part_of sight start) (map (step_part sight) steps)
  found_path e start steps is = part_found e ∙ ap (λ (s : Shape). shape_part sight s (out-Expr e).place) is ∙ shape_path start steps (out-Expr e).place

  shape_not : (inner : Expr) → (place : ℕ) → shape_part sight (shape.Not inner) place ≡ not_judged (part_of sight inner)
  unfolding part_of shape_part link_part step_part
  shape_not inner place = ap (λ (s : Shape). shape_part sight s place) (sym (rolls-Not inner)) ∙ ap (λ (f : Shaped). f place) (fold-roll-Shape Stepped Shaped JudgedPart JudgedPart (Judged → Told Judged) (access_from_parts sight) (shape_from_parts sight) (expr_from_parts sight) (link_from_parts sight) (step_from_parts sight) (Shape-F.Not inner))

  pub found_not : (e : Expr) (inner : Expr) → (out-Expr e).shape ≡ shape.Not inner → (part_of sight e).found ≡ not_judged (part_of sight inner)
  found_not e inner is = part_found e ∙ ap (λ (s : Shape). shape_part sight s (out-Expr e).place) is ∙ shape_not inner (out-Expr e).place

  shape_negative : (inner : Expr) → (place : ℕ) → shape_part sight (shape.Negative inner) place ≡ negative_judged (part_of sight inner)
  unfolding part_of shape_part link_part step_part
  shape_negative inner place = ap (λ (s : Shape). shape_part sight s place) (sym (rolls-Negative inner)) ∙ ap (λ (f : Shaped). f place) (fold-roll-Shape Stepped Shaped JudgedPart JudgedPart (Judged → Told Judged) (access_from_parts sight) (shape_from_parts sight) (expr_from_parts sight) (link_from_parts sight) (step_from_parts sight) (Shape-F.Negative inner))

  pub found_negative : (e : Expr) (inner : Expr) → (out-Expr e).shape ≡ shape.Negative inner → (part_of sight e).found ≡ negative_judged (part_of sight inner)
  found_negative e inner is = part_found e ∙ ap (λ (s : Shape). shape_part sight s (out-Expr e).place) is ∙ shape_negative inner (out-Expr e).place

  shape_compared : (c : Comparison) (left right : Expr) → (place : ℕ) → shape_part sight (shape.Compared c left right) place ≡ compared_judged c (part_of sight left) (part_of sight right)
  unfolding part_of shape_part link_part step_part
  shape_compared c left right place = ap (λ (s : Shape). shape_part sight s place) (sym (rolls-Compared c left right)) ∙ ap (λ (f : Shaped). f place) (fold-roll-Shape Stepped Shaped JudgedPart JudgedPart (Judged → Told Judged) (access_from_parts sight) (shape_from_parts sight) (expr_from_parts sight) (link_from_parts sight) (step_from_parts sight) (Shape-F.Compared c left right))

  pub found_compared : (e : Expr) (c : Comparison) (left right : Expr) → (out-Expr e).shape ≡ shape.Compared c left right → (part_of sight e).found ≡ compared_of c (part_of sight left).found (out-Expr left).first (part_of sight right)
  found_compared e c left right is = part_found e ∙ ap (λ (s : Shape). shape_part sight s (out-Expr e).place) is ∙ shape_compared c left right (out-Expr e).place
      ∙ ap (λ (f : ℕ). compared_of c (part_of sight left).found f (part_of sight right)) (part_first left)

  shape_chain : (r : Rank) (start : Expr) (links : List Link) → (place : ℕ) → shape_part sight (shape.Chain r start links) place ≡ chain_judged r (part_of sight start) (map (link_part sight) links)
  unfolding part_of shape_part link_part step_part
  shape_chain r start links place = ap (λ (s : Shape). shape_part sight s place) (sym (rolls-Chain r start links)) ∙ ap (λ (f : Shaped). f place) (fold-roll-Shape Stepped Shaped JudgedPart JudgedPart (Judged → Told Judged) (access_from_parts sight) (shape_from_parts sight) (expr_from_parts sight) (link_from_parts sight) (step_from_parts sight) (Shape-F.Chain r start links))

  pub found_chain : (e : Expr) (r : Rank) (start : Expr) (links : List Link) → (out-Expr e).shape ≡ shape.Chain r start links → (part_of sight e).found ≡ chain_judged r (part_of sight start) (map (link_part sight) links)
  found_chain e r start links is = part_found e ∙ ap (λ (s : Shape). shape_part sight s (out-Expr e).place) is ∙ shape_chain r start links (out-Expr e).place

  access_part : Access → Stepped
  access_part = fold-Access Stepped Shaped JudgedPart JudgedPart (Judged → Told Judged) (access_from_parts sight) (shape_from_parts sight) (expr_from_parts sight) (link_from_parts sight) (step_from_parts sight)

  step_is : (s : Step) (j : Judged) → step_part sight s j ≡ access_part (out-Step s).access (out-Step s).first j
  unfolding step_part access_part
  step_is s j = ap (λ (f : Judged → Told Judged). f j) (fold_out-Step Stepped Shaped JudgedPart JudgedPart (Judged → Told Judged) (access_from_parts sight) (shape_from_parts sight) (expr_from_parts sight) (link_from_parts sight) (step_from_parts sight) s)

  access_field : (name : Text) (first : ℕ) (j : Judged) → access_part (access.Field name) first j ≡ field_judged sight name first j
  unfolding access_part
  access_field name first j = ap (λ (a : Access). access_part a first j) (sym (rolls-Field name)) ∙ ap (λ (f : Stepped). f first j) (fold-roll-Access Stepped Shaped JudgedPart JudgedPart (Judged → Told Judged) (access_from_parts sight) (shape_from_parts sight) (expr_from_parts sight) (link_from_parts sight) (step_from_parts sight) (Access-F.Field name))

  access_index : (index : Expr) (first : ℕ) (j : Judged) → access_part (access.Index index) first j ≡ index_judged (part_of sight index) first j
  unfolding access_part part_of
  access_index index first j = ap (λ (a : Access). access_part a first j) (sym (rolls-Index index)) ∙ ap (λ (f : Stepped). f first j) (fold-roll-Access Stepped Shaped JudgedPart JudgedPart (Judged → Told Judged) (access_from_parts sight) (shape_from_parts sight) (expr_from_parts sight) (link_from_parts sight) (step_from_parts sight) (Access-F.Index index))

  pub step_field : (s : Step) (name : Text) (j : Judged) → (out-Step s).access ≡ access.Field name → step_part sight s j ≡ field_judged sight name (out-Step s).first j
  step_field s name j is = step_is s j ∙ ap (λ (a : Access). access_part a (out-Step s).first j) is ∙ access_field name (out-Step s).first j

  pub step_index : (s : Step) (index : Expr) (j : Judged) → (out-Step s).access ≡ access.Index index → step_part sight s j ≡ index_judged (part_of sight index) (out-Step s).first j
  step_index s index j is = step_is s j ∙ ap (λ (a : Access). access_part a (out-Step s).first j) is ∙ access_index index (out-Step s).first j

pub ruleset parts = (found_number, found_bytes, found_truth, found_name, found_list, found_empty, found_len, found_sha256, found_concat, found_called, found_depint, found_path, found_not, found_negative, found_compared, found_chain)

pub ruleset steps = (step_field, step_index)
