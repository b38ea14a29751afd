-- What an expression means: its value or trap, and what its evaluation spends.
use Rattle.std.specs.Prelude.{ℕ, ℤ, pos, List, [], ◌∷◌, map, length, Option, Some, None, if◌then◌else◌, option_and_then}
use Rattle.cs_lang_token.specs.declared.token.Text.{Text}
use Rattle.cs_lang.specs.declared.tree.Operator.{Operator}
use Rattle.cs_lang.specs.declared.tree.ContractTree.{ContractTree}
use Rattle.cs_lang.specs.declared.tree.Expr.{Expr}
use Rattle.cs_lang.specs.declared.tree.Shape.{Shape}
use Rattle.cs_lang.specs.declared.tree.Link.{Link}
use Rattle.cs_lang.specs.declared.tree.Step.{Step}
use Rattle.cs_lang.specs.declared.tree.Access.{Access}
use Rattle.cs_lang.specs.declared.tree.Access.TheOpen.{Access-F, Shape-F, Expr-F, Link-F, Step-F}
use Rattle.cs_lang.specs.declared.tree.Access.TheFolds.{fold-Access, fold-Shape, fold-Expr, fold-Link, fold-Step}
use Rattle.cs_tx_value.specs.declared.value.Value.{Value}
use Rattle.cs_tx_value.specs.declared.value.Value.TheVariants as value
use Rattle.cs_types_kinds.specs.declared.expressions.TheConstants.{HASH_COST}
use Rattle.cs_types_kinds.specs.declared.kind.Kind.{Kind}
use Rattle.cs_types_kinds.specs.Kinds.{int_kind as int_kind, bool as bool_kind, bytes_kind as bytes_kind, item_kind as item_kind, spelled_kind}
use Rattle.cs_types_kinds.specs.Judging.{kind_of_rank}
use Rattle.cs_eval_values.specs.declared.stop.Cause.TheVariants as cause
use Rattle.cs_eval_values.specs.declared.operators.Unary.{Unary}
use Rattle.cs_eval_values.specs.declared.operators.Unary.TheVariants as one
use Rattle.cs_eval_values.specs.declared.operators.Binary.{Binary}
use Rattle.cs_eval_values.specs.declared.operators.Binary.TheVariants as two
use Rattle.cs_eval_values.specs.declared.view.View.{View}
use Rattle.cs_eval_values.specs.Runs.{Run, gives, spend, ◌>>=◌, through, or_trap}
use Rattle.cs_eval_values.specs.Datums.{Datum, Plain}
use Rattle.cs_eval_values.specs.Operators.{int, truth, text, unary, binary, left_decides, list_of, with_item, int_number}
use Rattle.cs_eval_values.specs.Views.{field_of, is_called, returned_int}
use Rattle.cs_eval_values.specs.Namings.{Named, datum_named, kind_named}
use Rattle.cs_eval.specs.Kinds.{kind_of_field, list_kind, cost_of_comparing}

-- where an expression stands: the contract, what is looked at, and the names in sight
pub record Environment : Type 0 where
  pub contract : ContractTree
  pub view : View
  pub names : List Named

-- an expression: its kind, what it counts by itself when its evaluation begins, and what that
-- then comes to
pub record Meant : Type 0 where
  pub kind : Option Kind
  pub units : ℕ
  pub body : Run Datum

-- what the evaluation of an expression comes to
abbrev pub run_of : Meant → Run Datum
run_of m = spend m.units m.body

-- an operator with its right operand
pub record Linking : Type 0 where
  pub operator : Operator
  pub place : ℕ
  pub right : Meant

-- a step: what it makes of a kind, and of what has that kind
pub record Stepping : Type 0 where
  pub kind : Kind → Option Kind
  pub run : Datum → Run Datum

abbrev pub meant : Option Kind → ℕ → Run Datum → Meant
meant kind units body = record { kind = kind; units = units; body = body }

-- ---- leaves

abbrev pub named_run : List Named → List ℕ → ℕ → Run Datum
named_run names name place = or_trap cause.Misfit place (datum_named name names)

-- ---- parts one after the other

-- something is made of one part
abbrev pub of_one : Unary → ℕ → Run Datum → Run Datum
of_one op place part = part >>= unary op place

-- the left part is there
abbrev pub of_right : Binary → ℕ → Datum → Run Datum → Run Datum
of_right op place left right = right >>= binary op place left

-- the left part is evaluated first
abbrev pub of_two : Binary → ℕ → Run Datum → Run Datum → Run Datum
of_two op place left right = left >>= λ a. of_right op place a right

abbrev pub item_run : ℕ → List Value → Run Datum → Run (List Value)
item_run place items part = part >>= with_item place items

-- the items from the left, and then the list
abbrev pub items_run : ℕ → List Value → List (Run Datum) → Run Datum
items_run place items parts = through (item_run place) items parts >>= λ all. list_of all place

-- an operator behind what stands left of it
abbrev pub link_run : Datum → Linking → Run Datum
link_run left l =
    if left_decides l.operator left then gives left else of_right (two.Linked l.operator) l.place left (run_of l.right)

abbrev pub links_run : List Linking → Datum → Run Datum
links_run links left = through link_run left links

-- what stands left of operators, and then those
abbrev pub chain_run : Run Datum → List Linking → Run Datum
chain_run start links = start >>= links_run links

abbrev pub step_run : Datum → Stepping → Run Datum
step_run d s = s.run d

abbrev pub steps_run : List Stepping → Datum → Run Datum
steps_run steps d = through step_run d steps

-- what steps lead into, and then those
abbrev pub path_run : Run Datum → List Stepping → Run Datum
path_run start steps = start >>= steps_run steps

abbrev pub step_kind : Option Kind → Stepping → Option Kind
step_kind k s = option_and_then s.kind k

abbrev pub steps_kind : Option Kind → List Stepping → Option Kind
steps_kind k [] = k
steps_kind k (s ∷ ss) = steps_kind (step_kind k s) ss

-- ---- whole expressions

abbrev pub kind_of_meant : Meant → Option Kind
kind_of_meant m = m.kind

abbrev pub access_means : Environment → Access-F (ℕ → Stepping) (ℕ → Meant) Meant Linking Stepping → ℕ → Stepping
access_means sight (Access-F.Field name) place =
    record { kind = kind_of_field sight.contract name; run = field_of sight.contract.types name.bytes place }
access_means sight (Access-F.Index index) place =
    record { kind = item_kind; run = λ d. of_right two.Index place d (run_of index) }

abbrev pub step_means : Environment → Step-F (ℕ → Stepping) (ℕ → Meant) Meant Linking Stepping → Stepping
step_means sight s = s.access s.place

abbrev pub link_means : Environment → Link-F (ℕ → Stepping) (ℕ → Meant) Meant Linking Stepping → Linking
link_means sight l = record { operator = l.operator; place = l.place; right = l.right }

abbrev pub expr_means : Environment → Expr-F (ℕ → Stepping) (ℕ → Meant) Meant Linking Stepping → Meant
expr_means sight e = e.shape e.place

-- hashing, joining and comparing bytes count 16 more; the operators of a chain and the steps of a
-- path are nodes of their own
abbrev pub shape_means : Environment → Shape-F (ℕ → Stepping) (ℕ → Meant) Meant Linking Stepping → ℕ → Meant
shape_means sight (Shape-F.Number n) place = meant (Some int_kind) 1 (int_number n place)
shape_means sight (Shape-F.Bytes bytes) place = meant (Some bytes_kind) 1 (gives (text bytes))
shape_means sight (Shape-F.Truth b) place = meant (Some bool_kind) 1 (gives (truth b))
shape_means sight (Shape-F.Name name) place = meant (kind_named name sight.names) 1 (named_run sight.names name place)
shape_means sight (Shape-F.List items) place =
    meant (list_kind (map kind_of_meant items)) 1 (items_run place [] (map run_of items))
shape_means sight (Shape-F.Empty k) place = meant (spelled_kind k) 1 (gives (Plain (value.List [])))
shape_means sight (Shape-F.Len part) place = meant (Some int_kind) 1 (of_one one.Len place (run_of part))
shape_means sight (Shape-F.Sha256 part) place = meant (Some bytes_kind) HASH_COST (of_one one.Sha256 place (run_of part))
shape_means sight (Shape-F.Concat front back) place =
    meant front.kind HASH_COST (of_two two.Concat place (run_of front) (run_of back))
shape_means sight (Shape-F.Called dep method) place =
    meant (Some bool_kind) 1 (gives (truth (is_called sight.view dep method.bytes)))
shape_means sight (Shape-F.DepInt dep value) place = meant (Some int_kind) 1 (returned_int sight.view dep value place)
shape_means sight (Shape-F.Path start steps) place =
    meant (steps_kind start.kind steps) (length steps) (path_run (run_of start) steps)
shape_means sight (Shape-F.Not part) place = meant (Some bool_kind) 1 (of_one one.Not place (run_of part))
shape_means sight (Shape-F.Negative part) place = meant (Some int_kind) 1 (of_one one.Negative place (run_of part))
shape_means sight (Shape-F.Compared c left right) place =
    meant (Some bool_kind) (cost_of_comparing left.kind) (of_two (two.Compared c) place (run_of left) (run_of right))
shape_means sight (Shape-F.Chain rank start links) place =
    meant (Some (kind_of_rank rank)) (length links) (chain_run (run_of start) links)

module _ (sight : Environment) where
  unfoldable pub expr_meant : Expr → Meant
  expr_meant =
      fold-Expr (ℕ → Stepping) (ℕ → Meant) Meant Linking Stepping (access_means sight) (shape_means sight)
      (expr_means sight) (link_means sight) (step_means sight)

  unfoldable pub shape_meant : Shape → ℕ → Meant
  shape_meant =
      fold-Shape (ℕ → Stepping) (ℕ → Meant) Meant Linking Stepping (access_means sight) (shape_means sight)
      (expr_means sight) (link_means sight) (step_means sight)

  unfoldable pub link_meant : Link → Linking
  link_meant =
      fold-Link (ℕ → Stepping) (ℕ → Meant) Meant Linking Stepping (access_means sight) (shape_means sight)
      (expr_means sight) (link_means sight) (step_means sight)

  unfoldable pub step_meant : Step → Stepping
  step_meant =
      fold-Step (ℕ → Stepping) (ℕ → Meant) Meant Linking Stepping (access_means sight) (shape_means sight)
      (expr_means sight) (link_means sight) (step_means sight)

  unfoldable pub access_meant : Access → ℕ → Stepping
  access_meant =
      fold-Access (ℕ → Stepping) (ℕ → Meant) Meant Linking Stepping (access_means sight) (shape_means sight)
      (expr_means sight) (link_means sight) (step_means sight)

  -- the value of an expression or its trap, and what its evaluation spends
  abbrev pub meaning : Expr → Run Datum
  meaning e = run_of (expr_meant e)

  -- the kind of an expression
  abbrev pub kind_given : Expr → Option Kind
  kind_given e = (expr_meant e).kind
