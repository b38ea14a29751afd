-- What holds of every tree that a text spells: its operators are of the rank of their chain,
-- and its numbers and byte texts are within their limits.
use Rattle.std.specs.Prelude.{ℕ, nat_le, Bool, true, false, ◌&&◌, List, [], ◌∷◌, length}
use Rattle.cs_lang_token.specs.declared.limits.TheConstants.{MOST_NUMBER, MOST_BYTES}
use Rattle.cs_lang.specs.declared.tree.Operator.{Operator}
use Rattle.cs_lang.specs.declared.tree.Operator.TheVariants as operator
use Rattle.cs_lang.specs.declared.tree.Rank.{Rank}
use Rattle.cs_lang.specs.declared.tree.Rank.TheVariants as rank
use Rattle.cs_lang.specs.declared.tree.Expr.{Expr}
use Rattle.cs_lang.specs.declared.tree.Shape.{Shape}
use Rattle.cs_lang.specs.declared.tree.Link.{Link}
use Rattle.cs_lang.specs.declared.tree.Step.{Step}
use Rattle.cs_lang.specs.declared.tree.Access.{Access}
use Rattle.cs_lang.specs.declared.tree.Access.TheOpen.{Access-F, Shape-F, Expr-F, Link-F, Step-F}
use Rattle.cs_lang.specs.declared.tree.Access.TheFolds.{fold-Access, fold-Shape, fold-Expr, fold-Link, fold-Step}
use Rattle.cs_lang.specs.declared.tree.Block.{Block}
use Rattle.cs_lang.specs.declared.tree.Statement.{Statement}
use Rattle.cs_lang.specs.declared.tree.Action.{Action}
use Rattle.cs_lang.specs.declared.tree.Action.TheOpen.{Block-F, Statement-F, Action-F}
use Rattle.cs_lang.specs.declared.tree.Action.TheFolds.{fold-Block, fold-Statement, fold-Action}
use Rattle.cs_lang.specs.declared.tree.Method.{Method}
use Rattle.cs_lang.specs.declared.tree.ContractTree.{ContractTree}

-- all of a list pass
abbrev pub every : {X : Type 0} → (X → Bool) → List X → Bool
every test [] = true
every test (x ∷ xs) = test x && every test xs

-- ---- operators and literals

abbrev pub is_of_rank : Rank → Operator → Bool
is_of_rank rank.Or operator.Or = true
is_of_rank rank.And operator.And = true
is_of_rank rank.Sum operator.Plus = true
is_of_rank rank.Sum operator.Minus = true
is_of_rank rank.Product operator.Times = true
is_of_rank rank.Product operator.Divide = true
is_of_rank rank.Product operator.Remainder = true
is_of_rank _ _ = false

abbrev pub number_fits : ℕ → Bool
number_fits n = nat_le n MOST_NUMBER

abbrev pub bytes_fit : List ℕ → Bool
bytes_fit bytes = nat_le (length bytes) MOST_BYTES

-- ---- expressions, from their parts

-- whether an operator with its right operand fits in a chain of this rank
abbrev pub LinkFits : Type 0
LinkFits = Rank → Bool

abbrev pub itself : Bool → Bool
itself fits = fits

abbrev pub in_rank : Rank → LinkFits → Bool
in_rank rank link = link rank

abbrev pub access_layer_fits : Access-F Bool Bool Bool LinkFits Bool → Bool
access_layer_fits (Access-F.Field name) = true
access_layer_fits (Access-F.Index index) = index

abbrev pub step_layer_fits : Step-F Bool Bool Bool LinkFits Bool → Bool
step_layer_fits step = step.access

abbrev pub link_layer_fits : Link-F Bool Bool Bool LinkFits Bool → LinkFits
link_layer_fits link rank = is_of_rank rank link.operator && link.right

abbrev pub expr_layer_fits : Expr-F Bool Bool Bool LinkFits Bool → Bool
expr_layer_fits e = e.shape

abbrev pub shape_layer_fits : Shape-F Bool Bool Bool LinkFits Bool → Bool
shape_layer_fits (Shape-F.Number n) = number_fits n
shape_layer_fits (Shape-F.Bytes bytes) = bytes_fit bytes
shape_layer_fits (Shape-F.Truth b) = true
shape_layer_fits (Shape-F.Name name) = true
shape_layer_fits (Shape-F.List items) = every itself items
shape_layer_fits (Shape-F.Empty k) = true
shape_layer_fits (Shape-F.Len part) = part
shape_layer_fits (Shape-F.Sha256 part) = part
shape_layer_fits (Shape-F.Concat front back) = front && back
shape_layer_fits (Shape-F.Called dep name) = number_fits dep
shape_layer_fits (Shape-F.DepInt dep value) = number_fits dep && number_fits value
shape_layer_fits (Shape-F.Path start steps) = start && every itself steps
shape_layer_fits (Shape-F.Not part) = part
shape_layer_fits (Shape-F.Negative part) = part
shape_layer_fits (Shape-F.Compared c left right) = left && right
shape_layer_fits (Shape-F.Chain rank start links) = start && every (in_rank rank) links

unfoldable pub expr_fits : Expr → Bool
expr_fits = fold-Expr Bool Bool Bool LinkFits Bool access_layer_fits shape_layer_fits expr_layer_fits link_layer_fits step_layer_fits

unfoldable pub shape_fits : Shape → Bool
shape_fits = fold-Shape Bool Bool Bool LinkFits Bool access_layer_fits shape_layer_fits expr_layer_fits link_layer_fits step_layer_fits

unfoldable pub link_fits : Link → LinkFits
link_fits = fold-Link Bool Bool Bool LinkFits Bool access_layer_fits shape_layer_fits expr_layer_fits link_layer_fits step_layer_fits

unfoldable pub step_fits : Step → Bool
step_fits = fold-Step Bool Bool Bool LinkFits Bool access_layer_fits shape_layer_fits expr_layer_fits link_layer_fits step_layer_fits

unfoldable pub access_fits : Access → Bool
access_fits = fold-Access Bool Bool Bool LinkFits Bool access_layer_fits shape_layer_fits expr_layer_fits link_layer_fits step_layer_fits

-- ---- statements, from their parts

abbrev pub action_layer_fits : Action-F Bool Bool Bool → Bool
action_layer_fits (Action-F.Let name value) = expr_fits value
action_layer_fits (Action-F.Set name value) = expr_fits value
action_layer_fits (Action-F.If condition block) = expr_fits condition && block
action_layer_fits (Action-F.IfElse condition block other) = expr_fits condition && block && other
action_layer_fits (Action-F.ForIn name list block) = expr_fits list && block
action_layer_fits (Action-F.ForTo name count block) = number_fits count && block
action_layer_fits (Action-F.Make slot object values) = every expr_fits values
action_layer_fits (Action-F.Call names method arguments) = every expr_fits arguments
action_layer_fits (Action-F.Answer value) = expr_fits value

abbrev pub statement_layer_fits : Statement-F Bool Bool Bool → Bool
statement_layer_fits s = s.action

abbrev pub block_layer_fits : Block-F Bool Bool Bool → Bool
block_layer_fits b = every itself b.statements

unfoldable pub block_fits : Block → Bool
block_fits = fold-Block Bool Bool Bool action_layer_fits block_layer_fits statement_layer_fits

unfoldable pub statement_fits : Statement → Bool
statement_fits = fold-Statement Bool Bool Bool action_layer_fits block_layer_fits statement_layer_fits

unfoldable pub action_fits : Action → Bool
action_fits = fold-Action Bool Bool Bool action_layer_fits block_layer_fits statement_layer_fits

-- ---- contracts

abbrev pub method_fits : Method → Bool
method_fits m = block_fits m.procedure && block_fits m.check

abbrev pub contract_fits : ContractTree → Bool
contract_fits c = every method_fits c.methods
