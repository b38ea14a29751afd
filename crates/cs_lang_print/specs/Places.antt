-- Trees without their places: 0 stands in place of each.
use Rattle.std.specs.Prelude.{map}
use Rattle.cs_lang_token.specs.declared.token.Text.{Text}
use Rattle.cs_lang.specs.declared.tree.Expr.{Expr, roll-Expr}
use Rattle.cs_lang.specs.declared.tree.Shape.{Shape}
use Rattle.cs_lang.specs.declared.tree.Shape.TheVariants as shape
use Rattle.cs_lang.specs.declared.tree.Link.{Link, roll-Link}
use Rattle.cs_lang.specs.declared.tree.Step.{Step, roll-Step}
use Rattle.cs_lang.specs.declared.tree.Access.{Access}
use Rattle.cs_lang.specs.declared.tree.Access.TheVariants as access
use Rattle.cs_lang.specs.declared.tree.Access.TheOpen.{Access-F, Shape-F, Expr-F, Link-F, Step-F}
use Rattle.cs_lang.specs.declared.tree.Access.TheFolds.{fold-Access, fold-Shape, fold-Expr, fold-Link, fold-Step}
use Rattle.cs_lang.specs.declared.tree.Block.{Block, roll-Block}
use Rattle.cs_lang.specs.declared.tree.Statement.{Statement, roll-Statement}
use Rattle.cs_lang.specs.declared.tree.Action.{Action}
use Rattle.cs_lang.specs.declared.tree.Action.TheVariants as action
use Rattle.cs_lang.specs.declared.tree.Action.TheOpen.{Block-F, Statement-F, Action-F}
use Rattle.cs_lang.specs.declared.tree.Action.TheFolds.{fold-Block, fold-Statement, fold-Action}
use Rattle.cs_lang.specs.declared.tree.Field.{Field}
use Rattle.cs_lang.specs.declared.tree.Slot.{Slot}
use Rattle.cs_lang.specs.declared.tree.TypeDef.{TypeDef}
use Rattle.cs_lang.specs.declared.tree.Method.{Method}
use Rattle.cs_lang.specs.declared.tree.ContractTree.{ContractTree}

abbrev pub bare_text : Text → Text
bare_text t = record { bytes = t.bytes; place = 0 }

abbrev pub access_layer : Access-F Access Shape Expr Link Step → Access
access_layer (Access-F.Field name) = access.Field (bare_text name)
access_layer (Access-F.Index index) = access.Index index

abbrev pub shape_layer : Shape-F Access Shape Expr Link Step → Shape
shape_layer (Shape-F.Number n) = shape.Number n
shape_layer (Shape-F.Bytes text) = shape.Bytes text
shape_layer (Shape-F.Truth b) = shape.Truth b
shape_layer (Shape-F.Name name) = shape.Name name
shape_layer (Shape-F.List items) = shape.List items
shape_layer (Shape-F.Empty k) = shape.Empty k
shape_layer (Shape-F.Len e) = shape.Len e
shape_layer (Shape-F.Sha256 e) = shape.Sha256 e
shape_layer (Shape-F.Concat front back) = shape.Concat front back
shape_layer (Shape-F.Called dep name) = shape.Called dep (bare_text name)
shape_layer (Shape-F.DepInt dep value) = shape.DepInt dep value
shape_layer (Shape-F.Path start steps) = shape.Path start steps
shape_layer (Shape-F.Not e) = shape.Not e
shape_layer (Shape-F.Negative e) = shape.Negative e
shape_layer (Shape-F.Compared c left right) = shape.Compared c left right
shape_layer (Shape-F.Chain r start links) = shape.Chain r start links

abbrev pub expr_layer : Expr-F Access Shape Expr Link Step → Expr
expr_layer e = roll-Expr (record { first = 0; place = 0; shape = e.shape })

abbrev pub link_layer : Link-F Access Shape Expr Link Step → Link
link_layer l = roll-Link (record { operator = l.operator; first = 0; place = 0; right = l.right })

abbrev pub step_layer : Step-F Access Shape Expr Link Step → Step
step_layer s = roll-Step (record { first = 0; place = 0; access = s.access })

unfoldable pub bare_expr : Expr → Expr
bare_expr = fold-Expr Access Shape Expr Link Step access_layer shape_layer expr_layer link_layer step_layer

unfoldable pub bare_shape : Shape → Shape
bare_shape = fold-Shape Access Shape Expr Link Step access_layer shape_layer expr_layer link_layer step_layer

unfoldable pub bare_link : Link → Link
bare_link = fold-Link Access Shape Expr Link Step access_layer shape_layer expr_layer link_layer step_layer

unfoldable pub bare_step : Step → Step
bare_step = fold-Step Access Shape Expr Link Step access_layer shape_layer expr_layer link_layer step_layer

unfoldable pub bare_access : Access → Access
bare_access = fold-Access Access Shape Expr Link Step access_layer shape_layer expr_layer link_layer step_layer

abbrev pub action_layer : Action-F Action Block Statement → Action
action_layer (Action-F.Let name value) = action.Let (bare_text name) (bare_expr value)
action_layer (Action-F.Set name value) = action.Set (bare_text name) (bare_expr value)
action_layer (Action-F.If condition block) = action.If (bare_expr condition) block
action_layer (Action-F.IfElse condition block other) = action.IfElse (bare_expr condition) block other
action_layer (Action-F.ForIn name list block) = action.ForIn (bare_text name) (bare_expr list) block
action_layer (Action-F.ForTo name count block) = action.ForTo (bare_text name) count block
action_layer (Action-F.Make slot object values) = action.Make (bare_text slot) (bare_text object) (map bare_expr values)
action_layer (Action-F.Call names method arguments) =
    action.Call (map bare_text names) (bare_text method) (map bare_expr arguments)
action_layer (Action-F.Answer value) = action.Answer (bare_expr value)

abbrev pub statement_layer : Statement-F Action Block Statement → Statement
statement_layer s = roll-Statement (record { place = 0; action = s.action })

abbrev pub block_layer : Block-F Action Block Statement → Block
block_layer b = roll-Block (record { statements = b.statements; end = 0 })

unfoldable pub bare_block : Block → Block
bare_block = fold-Block Action Block Statement action_layer block_layer statement_layer

unfoldable pub bare_statement : Statement → Statement
bare_statement = fold-Statement Action Block Statement action_layer block_layer statement_layer

unfoldable pub bare_action : Action → Action
bare_action = fold-Action Action Block Statement action_layer block_layer statement_layer

abbrev pub bare_field : Field → Field
bare_field f = record { name = bare_text f.name; kind = f.kind }

abbrev pub bare_slot : Slot → Slot
bare_slot s = record { name = bare_text s.name; object = bare_text s.object; many = s.many }

abbrev pub bare_type : TypeDef → TypeDef
bare_type t = record { name = bare_text t.name; fields = map bare_field t.fields }

abbrev pub bare_method : Method → Method
bare_method m =
    record {
      name = bare_text m.name;
      consumes = map bare_slot m.consumes;
      reads = map bare_slot m.reads;
      takes = map bare_field m.takes;
      creates = map bare_slot m.creates;
      returns = map bare_field m.returns;
      procedure = bare_block m.procedure;
      check = bare_block m.check;
      end = 0;
    }

-- a contract without its places
abbrev pub without_places : ContractTree → ContractTree
without_places c = record { types = map bare_type c.types; methods = map bare_method c.methods }
