-- What the parts of a text make of the trees that they are given.
use Rattle.std.specs.Prelude.{ℕ, Bool, true, false, List, [], ◌∷◌, ◌++◌, if◌then◌else◌, Option, None, Some}
use Rattle.cs_lang_token.specs.declared.token.Text.{Text}
use Rattle.cs_lang_token.specs.declared.token.Number.{Number}
use Rattle.cs_lang.specs.declared.tree.Operator.{Operator}
use Rattle.cs_lang.specs.declared.tree.Operator.TheVariants as operator
use Rattle.cs_lang.specs.declared.tree.Rank.{Rank}
use Rattle.cs_lang.specs.declared.tree.Rank.TheVariants as rank
use Rattle.cs_lang.specs.declared.tree.Comparison.{Comparison}
use Rattle.cs_lang.specs.declared.tree.ValueKind.{ValueKind}
use Rattle.cs_lang.specs.declared.tree.ValueKind.TheVariants as value_kind
use Rattle.cs_lang.specs.declared.tree.Expr.{Expr, out-Expr, roll-Expr}
use Rattle.cs_lang.specs.declared.tree.Shape.{Shape, out-Shape}
use Rattle.cs_lang.specs.declared.tree.Shape.TheVariants as shape
use Rattle.cs_lang.specs.declared.tree.Access.TheOpen.{Shape-F}
use Rattle.cs_lang.specs.declared.tree.Link.{Link, roll-Link}
use Rattle.cs_lang.specs.declared.tree.Step.{Step, roll-Step}
use Rattle.cs_lang.specs.declared.tree.Access.{Access}
use Rattle.cs_lang.specs.declared.tree.Access.TheVariants as access
use Rattle.cs_lang.specs.declared.tree.Block.{Block, roll-Block}
use Rattle.cs_lang.specs.declared.tree.Statement.{Statement, roll-Statement}
use Rattle.cs_lang.specs.declared.tree.Action.{Action}
use Rattle.cs_lang.specs.declared.tree.Action.TheVariants as action
use Rattle.cs_lang.specs.declared.tree.Field.{Field}
use Rattle.cs_lang.specs.declared.tree.TypeDef.{TypeDef}
use Rattle.cs_lang.specs.declared.tree.Slot.{Slot}
use Rattle.cs_lang.specs.declared.tree.Method.{Method}
use Rattle.cs_lang.specs.declared.tree.ContractTree.{ContractTree}
use Rattle.cs_lang.specs.declared.methods.Head.{Head}
use Rattle.cs_lang.specs.declared.methods.Body.{Body}

abbrev pub tree : ℕ → ℕ → Shape → Expr
tree first place shape = roll-Expr (record { first = first; place = place; shape = shape })

abbrev pub first_token_of : Expr → ℕ
first_token_of e = (out-Expr e).first

abbrev pub shape_of : Expr → Shape
shape_of e = (out-Expr e).shape

-- ---- chains and paths

abbrev pub same_rank : Rank → Rank → Bool
same_rank rank.Or rank.Or = true
same_rank rank.And rank.And = true
same_rank rank.Sum rank.Sum = true
same_rank rank.Product rank.Product = true
same_rank _ _ = false

-- Shape-F is a shape whose parts are seen
abbrev pub OpenedTree : Type 0
OpenedTree = Shape-F Access Shape Expr Link Step

abbrev pub shape_is_chain : Rank → OpenedTree → Bool
shape_is_chain rank (Shape-F.Chain old start links) = same_rank old rank
shape_is_chain rank _ = false

abbrev pub is_chain : Rank → Expr → Bool
is_chain rank e = shape_is_chain rank (out-Shape (shape_of e))

abbrev pub chain_begun : Rank → Expr → ℕ → Link → Expr
chain_begun rank left place link = tree (first_token_of left) place (shape.Chain rank left (link ∷ []))

abbrev pub chain_extended : Rank → Expr → ℕ → Link → OpenedTree → Expr
chain_extended rank left place link (Shape-F.Chain old start links) =
    tree (first_token_of left) place (shape.Chain rank start (links ++ link ∷ []))
chain_extended rank left place link _ = left

-- an operator and its right operand behind a chain of its rank join it; behind anything else they begin one
abbrev pub with_link : Rank → Expr → (Operator × ℕ) × Expr → Expr
with_link rank left p =
    let link = roll-Link (record { operator = p.0.0; first = first_token_of left; place = p.0.1; right = p.1 }) in
    if is_chain rank left
    then chain_extended rank left p.0.1 link (out-Shape (shape_of left))
    else chain_begun rank left p.0.1 link

abbrev pub shape_is_path : OpenedTree → Bool
shape_is_path (Shape-F.Path start steps) = true
shape_is_path _ = false

abbrev pub is_path : Expr → Bool
is_path e = shape_is_path (out-Shape (shape_of e))

abbrev pub path_begun : Expr → ℕ → Step → Expr
path_begun left place step = tree (first_token_of left) place (shape.Path left (step ∷ []))

abbrev pub path_extended : Expr → ℕ → Step → OpenedTree → Expr
path_extended left place step (Shape-F.Path start steps) =
    tree (first_token_of left) place (shape.Path start (steps ++ step ∷ []))
path_extended left place step _ = left

-- a step behind a path joins it; behind anything else it begins one
abbrev pub with_step : Expr → ℕ × Access → Expr
with_step left p =
    let step = roll-Step (record { first = first_token_of left; place = p.0; access = p.1 }) in
    if is_path left then path_extended left p.0 step (out-Shape (shape_of left)) else path_begun left p.0 step

abbrev pub field_step : ℕ × Text → ℕ × Access
field_step p = (p.0, access.Field p.1)

abbrev pub index_step : ℕ × (Expr × ℕ) → ℕ × Access
index_step p = (p.0, access.Index p.1.0)

-- ---- other expressions

abbrev pub number_expr : Number → Expr
number_expr n = tree n.place n.place (shape.Number n.value)

abbrev pub bytes_expr : Text → Expr
bytes_expr t = tree t.place t.place (shape.Bytes t.bytes)

abbrev pub name_expr : Text → Expr
name_expr t = tree t.place t.place (shape.Name t.bytes)

abbrev pub truth_expr : Bool → ℕ → Expr
truth_expr b place = tree place place (shape.Truth b)

-- parentheses leave the expression, which then begins with them
abbrev pub grouped : ℕ × (Expr × ℕ) → Expr
grouped p = let e = out-Expr p.1.0 in tree p.0 e.place e.shape

abbrev pub listed : ℕ × (List Expr × ℕ) → Expr
listed p = tree p.0 p.0 (shape.List p.1.0)

abbrev pub empty_expr : ℕ × ValueKind → Expr
empty_expr p = tree p.0 p.0 (shape.Empty p.1)

abbrev pub len_expr : ℕ × (ℕ × (Expr × ℕ)) → Expr
len_expr p = tree p.0 p.0 (shape.Len p.1.1.0)

abbrev pub sha256_expr : ℕ × (ℕ × (Expr × ℕ)) → Expr
sha256_expr p = tree p.0 p.0 (shape.Sha256 p.1.1.0)

abbrev pub concat_expr : ℕ × (ℕ × ((Expr × (ℕ × Expr)) × ℕ)) → Expr
concat_expr p = tree p.0 p.0 (shape.Concat p.1.1.0.0 p.1.1.0.1.1)

abbrev pub called_expr : ℕ × (ℕ × ((Number × (ℕ × Text)) × ℕ)) → Expr
called_expr p = tree p.0 p.0 (shape.Called p.1.1.0.0.value p.1.1.0.1.1)

abbrev pub depint_expr : ℕ × (ℕ × ((Number × (ℕ × Number)) × ℕ)) → Expr
depint_expr p = tree p.0 p.0 (shape.DepInt p.1.1.0.0.value p.1.1.0.1.1.value)

abbrev pub negative_expr : ℕ × Expr → Expr
negative_expr p = tree p.0 p.0 (shape.Negative p.1)

abbrev pub not_expr : ℕ × Expr → Expr
not_expr p = tree p.0 p.0 (shape.Not p.1)

abbrev pub operation : Operator → ℕ → Operator × ℕ
operation o place = (o, place)

abbrev pub comparing : Comparison → ℕ → Comparison × ℕ
comparing c place = (c, place)

abbrev pub compared_expr : Expr × Option ((Comparison × ℕ) × Expr) → Expr
compared_expr (left, None) = left
compared_expr (left, Some p) = tree (first_token_of left) p.0.1 (shape.Compared p.0.0 left p.1)

-- ---- kinds, fields, slots

abbrev pub plain_kind : ValueKind → ℕ → ValueKind
plain_kind kind place = kind

abbrev pub list_value_kind : ℕ × (ValueKind × ℕ) → ValueKind
list_value_kind p = value_kind.List p.1.0

abbrev pub field_of_parts : Text × (ℕ × ValueKind) → Field
field_of_parts p = record { name = p.0; kind = p.1.1 }

abbrev pub slot_of_parts : Text × (ℕ × (Text × Bool)) → Slot
slot_of_parts p = record { name = p.0; object = p.1.1.0; many = p.1.1.1 }

abbrev pub starred : ℕ → Bool
starred place = true

-- ---- statements

abbrev pub statement : ℕ → Action → Statement
statement place action = roll-Statement (record { place = place; action = action })

abbrev pub let_of : ℕ × (Text × (ℕ × (Expr × ℕ))) → Statement
let_of p = statement p.0 (action.Let p.1.0 p.1.1.1.0)

abbrev pub set_of : ℕ × (Text × (ℕ × (Expr × ℕ))) → Statement
set_of p = statement p.0 (action.Set p.1.0 p.1.1.1.0)

abbrev pub if_action : Expr → Block → Option Block → Action
if_action e block None = action.If e block
if_action e block (Some other) = action.IfElse e block other

abbrev pub if_of : ℕ × (Expr × (Block × Option Block)) → Statement
if_of p = statement p.0 (if_action p.1.0 p.1.1.0 p.1.1.1)

abbrev pub else_of : ℕ × Block → Option Block
else_of p = Some p.1

-- what a loop goes over: a list's items, or the numbers below one
pub data Range : Type 0 where
  Items : Expr → Range
  Numbers : ℕ → Range

abbrev pub range_of : ℕ × Expr → Range
range_of p = Items p.1

abbrev pub numbers_of : ℕ × Number → Range
numbers_of p = Numbers p.1.value

abbrev pub for_action : Text → Range → Block → Action
for_action name (Items e) each = action.ForIn name e each
for_action name (Numbers n) each = action.ForTo name n each

abbrev pub for_of : ℕ × (Text × (Range × Block)) → Statement
for_of p = statement p.0 (for_action p.1.0 p.1.1.0 p.1.1.1)

-- the arguments between their parentheses
abbrev pub inner : ℕ × (List Expr × ℕ) → List Expr
inner p = p.1.0

abbrev pub make_of : ℕ × (Text × (ℕ × (Text × (List Expr × ℕ)))) → Statement
make_of p = statement p.0 (action.Make p.1.0 p.1.1.1.0 p.1.1.1.1.0)

-- the first name of a call is bound, where others or a sign of equality follow, else it is the method
pub data CallRest : Type 0 where
  Arguments : List Expr → CallRest
  Binds : List Text → Text → List Expr → CallRest

abbrev pub binds_of : List Text × (ℕ × (Text × List Expr)) → CallRest
binds_of p = Binds p.0 p.1.1.0 p.1.1.1

-- without the commas
abbrev pub names_in_list : List (ℕ × Text) → List Text
names_in_list [] = []
names_in_list (p ∷ ps) = p.1 ∷ names_in_list ps

abbrev pub call_action : Text → CallRest → Action
call_action name (Arguments arguments) = action.Call [] name arguments
call_action name (Binds names method arguments) = action.Call (name ∷ names) method arguments

abbrev pub call_of : ℕ × (Text × (CallRest × ℕ)) → Statement
call_of p = statement p.0 (call_action p.1.0 p.1.1.0)

abbrev pub answer_of : ℕ × (Expr × ℕ) → Statement
answer_of p = statement p.0 (action.Answer p.1.0)

abbrev pub block_of : ℕ × (List Statement × ℕ) → Block
block_of p = roll-Block (record { statements = p.1.0; end = p.1.1 })

-- ---- types and methods

abbrev pub typedef_of : ℕ × (Text × (ℕ × (List Field × (ℕ × ℕ)))) → TypeDef
typedef_of p = record { name = p.1.0; fields = p.1.1.1.0 }

abbrev pub after_word : {X : Type 0} → ℕ × X → X
after_word p = p.1

abbrev pub method_head_of : List Slot × (List Slot × (List Field × (List Slot × List Field))) → Head
method_head_of p = record { consumes = p.0; reads = p.1.0; takes = p.1.1.0; creates = p.1.1.1.0; returns = p.1.1.1.1 }

abbrev pub body_of_parts : ℕ × (ℕ × (Block × (ℕ × (Block × ℕ)))) → Body
body_of_parts p = record { procedure = p.1.1.0; check = p.1.1.1.1.0; end = p.1.1.1.1.1 }

abbrev pub method_of : ℕ × (Text × (Head × Body)) → Method
method_of p = let head = p.1.1.0 in let body = p.1.1.1 in
    record {
      name = p.1.0;
      consumes = head.consumes;
      reads = head.reads;
      takes = head.takes;
      creates = head.creates;
      returns = head.returns;
      procedure = body.procedure;
      check = body.check;
      end = body.end;
    }

abbrev pub first_and_others : {X : Type 0} → X × List X → List X
first_and_others p = p.0 ∷ p.1

abbrev pub contract_tree_of : List TypeDef × List Method → ContractTree
contract_tree_of p = record { types = p.0; methods = p.1 }
