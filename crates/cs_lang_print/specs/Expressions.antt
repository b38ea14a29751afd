-- Printed kinds and expressions.
use Rattle.std.specs.Prelude.{ℕ, Bool, List, ◌++◌, map, codes, if◌then◌else◌}
use Rattle.std.specs.Fmt.{decimal}
use Rattle.cs_lang_token.specs.declared.token.Text.{Text}
use Rattle.cs_lang.specs.declared.tree.ValueKind.{ValueKind}
use Rattle.cs_lang.specs.declared.tree.ValueKind.TheOpen.{ValueKind-F}
use Rattle.cs_lang.specs.declared.tree.ValueKind.TheFolds.{fold-ValueKind}
use Rattle.cs_lang.specs.declared.tree.Expr.{Expr}
use Rattle.cs_lang.specs.declared.tree.Shape.{Shape}
use Rattle.cs_lang.specs.declared.tree.Link.{Link}
use Rattle.cs_lang.specs.declared.tree.Step.{Step}
use Rattle.cs_lang.specs.declared.tree.Access.{Access}
use Rattle.cs_lang.specs.declared.tree.Access.TheOpen.{Access-F, Shape-F, Expr-F, Link-F, Step-F}
use Rattle.cs_lang.specs.declared.tree.Access.TheFolds.{fold-Access, fold-Shape, fold-Expr, fold-Link, fold-Step}
use Rattle.cs_lang_print.specs.Words.{word, quoted, operator_text, comparison_text, with_commas}
use Rattle.cs_lang_print.specs.Spelling.{Spelled, tightness_of, operand_tightness, primary_text, parenthesized, in_brackets, held_together, run_text}

abbrev pub layer_kind : ValueKind-F (List ℕ) → List ℕ
layer_kind ValueKind-F.Int = word (codes "int")
layer_kind ValueKind-F.Bool = word (codes "bool")
layer_kind ValueKind-F.Bytes = word (codes "bytes")
layer_kind (ValueKind-F.List items) = in_brackets items

unfoldable pub kind_text : ValueKind → List ℕ
kind_text = fold-ValueKind (List ℕ) layer_kind

-- an operator with its right operand, which has to hold together so tightly
abbrev pub Linked : Type 0
Linked = ℕ → List ℕ

-- words that stand before what is in parentheses
abbrev pub applied : List ℕ → List ℕ → List ℕ
applied name inner = word name ++ parenthesized inner

-- whether the dep of this number called a method
abbrev pub called_text : ℕ → Text → List ℕ
called_text dep method = applied (codes "called") (word (decimal dep) ++ (word (codes ",") ++ word method.bytes))

-- what the dep of this number returned, at a place
abbrev pub depint_text : ℕ → ℕ → List ℕ
depint_text dep value = applied (codes "depint") (word (decimal dep) ++ (word (codes ",") ++ word (decimal value)))

abbrev pub spelled_text : Spelled → List ℕ
spelled_text e = e.text

abbrev pub truth_text : Bool → List ℕ
truth_text b = if b then codes "true" else codes "false"

abbrev pub layer_access : Access-F (List ℕ) Spelled Spelled Linked (List ℕ) → List ℕ
layer_access (Access-F.Field name) = word (codes ".") ++ word name.bytes
layer_access (Access-F.Index index) = in_brackets index.text

abbrev pub layer_step : Step-F (List ℕ) Spelled Spelled Linked (List ℕ) → List ℕ
layer_step step = step.access

abbrev pub layer_link : Link-F (List ℕ) Spelled Spelled Linked (List ℕ) → Linked
layer_link link tight = word (operator_text link.operator) ++ held_together tight link.right

abbrev pub layer_expr : Expr-F (List ℕ) Spelled Spelled Linked (List ℕ) → Spelled
layer_expr e = e.shape

abbrev pub layer_shape : Shape-F (List ℕ) Spelled Spelled Linked (List ℕ) → Spelled
layer_shape (Shape-F.Number n) = primary_text (word (decimal n))
layer_shape (Shape-F.Bytes bytes) = primary_text (quoted bytes)
layer_shape (Shape-F.Truth b) = primary_text (word (truth_text b))
layer_shape (Shape-F.Name name) = primary_text (word name)
layer_shape (Shape-F.List items) = primary_text (in_brackets (with_commas spelled_text items))
layer_shape (Shape-F.Empty k) = primary_text (word (codes "empty") ++ kind_text k)
layer_shape (Shape-F.Len e) = primary_text (applied (codes "len") e.text)
layer_shape (Shape-F.Sha256 e) = primary_text (applied (codes "sha256") e.text)
layer_shape (Shape-F.Concat front back) =
    primary_text (applied (codes "concat") (front.text ++ (word (codes ",") ++ back.text)))
layer_shape (Shape-F.Called dep method) = primary_text (called_text dep method)
layer_shape (Shape-F.DepInt dep value) = primary_text (depint_text dep value)
layer_shape (Shape-F.Path start steps) = record { tightness = 7; text = run_text (held_together 8 start) steps }
layer_shape (Shape-F.Not e) = record { tightness = 2; text = word (codes "not") ++ held_together 2 e }
layer_shape (Shape-F.Negative e) = record { tightness = 6; text = word (codes "-") ++ held_together 6 e }
layer_shape (Shape-F.Compared c left right) =
    record { tightness = 3; text = held_together 4 left ++ (word (comparison_text c) ++ held_together 4 right) }
layer_shape (Shape-F.Chain r start links) =
    let inner = operand_tightness r in
    record { tightness = tightness_of r; text = run_text (held_together inner start) (map (λ link. link inner) links) }

unfoldable pub spelled : Expr → Spelled
spelled = fold-Expr (List ℕ) Spelled Spelled Linked (List ℕ) layer_access layer_shape layer_expr layer_link layer_step

unfoldable pub spelled_shape : Shape → Spelled
spelled_shape =
    fold-Shape (List ℕ) Spelled Spelled Linked (List ℕ) layer_access layer_shape layer_expr layer_link layer_step

unfoldable pub spelled_link : Link → Linked
spelled_link =
    fold-Link (List ℕ) Spelled Spelled Linked (List ℕ) layer_access layer_shape layer_expr layer_link layer_step

unfoldable pub step_text : Step → List ℕ
step_text = fold-Step (List ℕ) Spelled Spelled Linked (List ℕ) layer_access layer_shape layer_expr layer_link layer_step

unfoldable pub access_text : Access → List ℕ
access_text =
    fold-Access (List ℕ) Spelled Spelled Linked (List ℕ) layer_access layer_shape layer_expr layer_link layer_step

abbrev pub expr_text : Expr → List ℕ
expr_text e = (spelled e).text
