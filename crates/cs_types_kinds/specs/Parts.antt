-- What is told of whole expressions.
use Rattle.std.specs.Prelude.{ℕ}
use Rattle.cs_lang.specs.declared.tree.Expr.{Expr}
use Rattle.cs_lang.specs.declared.tree.Shape.{Shape}
use Rattle.cs_lang.specs.declared.tree.Link.{Link}
use Rattle.cs_lang.specs.declared.tree.Step.{Step}
use Rattle.cs_lang.specs.declared.tree.Access.TheOpen.{Access-F, Shape-F, Expr-F, Link-F, Step-F}
use Rattle.cs_lang.specs.declared.tree.Access.TheFolds.{fold-Shape, fold-Expr, fold-Link, fold-Step}
use Rattle.cs_types_kinds.specs.declared.expressions.Judged.{Judged}
use Rattle.cs_types_kinds.specs.Told.{Told}
use Rattle.cs_types_kinds.specs.Kinds.{int_kind, bool, bytes_kind}
use Rattle.cs_types_kinds.specs.Scopes.{InSight}
use Rattle.cs_types_kinds.specs.Judging.{JudgedPart, judged, Stepped, name_judged, list_judged, empty_judged, len_judged, sha256_judged, concat_judged, called_judged, depint_judged, path_judged, not_judged, negative_judged, compared_judged, chain_judged, field_judged, index_judged}

-- what is told of an expression with its own token there
abbrev pub Shaped : Type 0
Shaped = ℕ → Told Judged

abbrev pub access_from_parts : InSight → Access-F Stepped Shaped JudgedPart JudgedPart (Judged → Told Judged) → Stepped
access_from_parts sight (Access-F.Field name) = field_judged sight name
access_from_parts sight (Access-F.Index index) = index_judged index

abbrev pub step_from_parts : InSight → Step-F Stepped Shaped JudgedPart JudgedPart (Judged → Told Judged) → Judged → Told Judged
step_from_parts sight step = step.access step.first

abbrev pub link_from_parts : InSight → Link-F Stepped Shaped JudgedPart JudgedPart (Judged → Told Judged) → JudgedPart
link_from_parts sight link = link.right

abbrev pub expr_from_parts : InSight → Expr-F Stepped Shaped JudgedPart JudgedPart (Judged → Told Judged) → JudgedPart
expr_from_parts sight e = record { first = e.first; found = e.shape e.place }

abbrev pub shape_from_parts : InSight → Shape-F Stepped Shaped JudgedPart JudgedPart (Judged → Told Judged) → Shaped
shape_from_parts sight (Shape-F.Number n) place = judged int_kind 1
shape_from_parts sight (Shape-F.Bytes b) place = judged bytes_kind 1
shape_from_parts sight (Shape-F.Truth b) place = judged bool 1
shape_from_parts sight (Shape-F.Name name) place = name_judged sight name place
shape_from_parts sight (Shape-F.List items) place = list_judged items place
shape_from_parts sight (Shape-F.Empty k) place = empty_judged k place
shape_from_parts sight (Shape-F.Len part) place = len_judged part
shape_from_parts sight (Shape-F.Sha256 part) place = sha256_judged part
shape_from_parts sight (Shape-F.Concat front back) place = concat_judged front back
shape_from_parts sight (Shape-F.Called dep name) place = called_judged sight name place
shape_from_parts sight (Shape-F.DepInt dep value) place = depint_judged sight place
shape_from_parts sight (Shape-F.Path start steps) place = path_judged start steps
shape_from_parts sight (Shape-F.Not part) place = not_judged part
shape_from_parts sight (Shape-F.Negative part) place = negative_judged part
shape_from_parts sight (Shape-F.Compared c left right) place = compared_judged c left right
shape_from_parts sight (Shape-F.Chain r start rights) place = chain_judged r start rights

-- what is told of an expression, where it stands
unfoldable pub part_of : InSight → Expr → JudgedPart
part_of sight =
    fold-Expr Stepped Shaped JudgedPart JudgedPart (Judged → Told Judged) (access_from_parts sight) (shape_from_parts sight)
    (expr_from_parts sight) (link_from_parts sight) (step_from_parts sight)

-- what is told of an expression of this shape
unfoldable pub shape_part : InSight → Shape → Shaped
shape_part sight =
    fold-Shape Stepped Shaped JudgedPart JudgedPart (Judged → Told Judged) (access_from_parts sight) (shape_from_parts sight)
    (expr_from_parts sight) (link_from_parts sight) (step_from_parts sight)

-- what is told of an operator's right operand
unfoldable pub link_part : InSight → Link → JudgedPart
link_part sight =
    fold-Link Stepped Shaped JudgedPart JudgedPart (Judged → Told Judged) (access_from_parts sight) (shape_from_parts sight)
    (expr_from_parts sight) (link_from_parts sight) (step_from_parts sight)

-- what a step makes of what stands before it
unfoldable pub step_part : InSight → Step → Judged → Told Judged
step_part sight =
    fold-Step Stepped Shaped JudgedPart JudgedPart (Judged → Told Judged) (access_from_parts sight) (shape_from_parts sight)
    (expr_from_parts sight) (link_from_parts sight) (step_from_parts sight)
