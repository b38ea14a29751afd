-- The grammar of contract texts.
use Rattle.std.specs.Prelude.{ℕ, zero, suc, Bool, true, false, List, [], ◌∷◌, if◌then◌else◌, Option, None, Some}
use Rattle.cs_lang_token.specs.declared.token.Text.{Text}
use Rattle.cs_lang_token.specs.declared.kind.Kind.{Kind}
use Rattle.cs_lang_token.specs.declared.kind.Kind.TheVariants as kind
use Rattle.cs_lang_token.specs.Grammar.{Rule, pair, mapped, either, nothing, links, many}
use Rattle.cs_lang_token.specs.Rules.{sign, name, bytes, number, room_of, less_one, joined_pair, commas}
use Rattle.cs_lang.specs.declared.tree.Operator.{Operator}
use Rattle.cs_lang.specs.declared.tree.Operator.TheVariants as operator
use Rattle.cs_lang.specs.declared.tree.Rank.{Rank}
use Rattle.cs_lang.specs.declared.tree.Rank.TheVariants as rank
use Rattle.cs_lang.specs.declared.tree.Comparison.{Comparison}
use Rattle.cs_lang.specs.declared.tree.Comparison.TheVariants as comparison
use Rattle.cs_lang.specs.declared.tree.ValueKind.{ValueKind}
use Rattle.cs_lang.specs.declared.tree.ValueKind.TheVariants as value_kind
use Rattle.cs_lang.specs.declared.tree.Expr.{Expr}
use Rattle.cs_lang.specs.declared.tree.Access.{Access}
use Rattle.cs_lang.specs.declared.tree.Block.{Block}
use Rattle.cs_lang.specs.declared.tree.Statement.{Statement}
use Rattle.cs_lang.specs.declared.tree.Field.{Field}
use Rattle.cs_lang.specs.declared.tree.TypeDef.{TypeDef}
use Rattle.cs_lang.specs.declared.tree.Slot.{Slot}
use Rattle.cs_lang.specs.declared.tree.Method.{Method}
use Rattle.cs_lang.specs.declared.tree.ContractTree.{ContractTree}
use Rattle.cs_lang.specs.declared.methods.Head.{Head}
use Rattle.cs_lang.specs.declared.methods.Body.{Body}
use Rattle.cs_lang.specs.Trees.{with_link, with_step, field_step, index_step, number_expr, bytes_expr, name_expr, truth_expr, grouped, listed, empty_expr, len_expr, sha256_expr, concat_expr, called_expr, depint_expr, negative_expr, not_expr, operation, comparing, compared_expr, plain_kind, list_value_kind, field_of_parts, slot_of_parts, starred, let_of, set_of, if_of, else_of, Range, range_of, numbers_of, for_of, inner, make_of, CallRest, Arguments, binds_of, names_in_list, call_of, answer_of, block_of, typedef_of, after_word, method_head_of, body_of_parts, method_of, first_and_others, contract_tree_of}

-- a word or a sign
abbrev pub keyword : Kind → Rule ℕ
keyword k = sign k true

-- Rules within parentheses, brackets and braces take a mark: whether one more level may be opened.

-- ---- kinds

-- "int" | "bool" | "bytes" | "[" kind "]"
abbrev pub kind_rule : Rule ValueKind → Bool → Rule ValueKind
kind_rule inside room =
    either (mapped (plain_kind value_kind.Int) (keyword kind.IntKind))
    (either (mapped (plain_kind value_kind.Bool) (keyword kind.BoolKind))
    (either (mapped (plain_kind value_kind.Bytes) (keyword kind.BytesKind))
    (mapped list_value_kind (pair (sign kind.OpenList room) (pair inside (keyword kind.CloseList))))))

-- kinds that nest less than n deep, where so many more levels may be opened
abbrev pub kinds : ℕ → ℕ → Rule ValueKind
kinds zero left = λ x ms. ⊥
kinds (suc n) left = kind_rule (kinds n (less_one left)) (room_of left)

-- ---- primary expressions

abbrev pub in_parentheses : {X : Type 0} → Rule X → Bool → Rule (ℕ × (X × ℕ))
in_parentheses R room = pair (sign kind.Open room) (pair R (keyword kind.Close))

abbrev pub group : Rule Expr → Bool → Rule Expr
group inside room = mapped grouped (in_parentheses inside room)

abbrev pub bracket : Rule Expr → Bool → Rule Expr
bracket inside room = mapped listed (pair (sign kind.OpenList room) (pair (commas inside) (keyword kind.CloseList)))

abbrev pub concat : Rule Expr → Bool → Rule Expr
concat inside room =
    mapped concat_expr
    (pair (keyword kind.Concat)
    (in_parentheses (pair inside (pair (keyword kind.Comma) inside)) room))

abbrev pub called : Bool → Rule Expr
called room =
    mapped called_expr
    (pair (keyword kind.Called)
    (in_parentheses (pair number (pair (keyword kind.Comma) name)) room))

abbrev pub depint : Bool → Rule Expr
depint room =
    mapped depint_expr
    (pair (keyword kind.DepInt)
    (in_parentheses (pair number (pair (keyword kind.Comma) number)) room))

-- those that begin with a reserved word
abbrev pub worded : Rule Expr → Rule ValueKind → Bool → Rule Expr
worded inside kinds room =
    either (mapped (truth_expr true) (keyword kind.True))
    (either (mapped (truth_expr false) (keyword kind.False))
    (either (mapped empty_expr (pair (keyword kind.Empty) kinds))
    (either (mapped len_expr (pair (keyword kind.Len) (in_parentheses inside room)))
    (either (mapped sha256_expr (pair (keyword kind.Sha256) (in_parentheses inside room)))
    (either (concat inside room) (either (called room) (depint room)))))))

abbrev pub primary : Rule Expr → Rule ValueKind → Bool → Rule Expr
primary inside kinds room =
    either (group inside room)
    (either (bracket inside room)
    (either (mapped number_expr number)
    (either (mapped bytes_expr bytes)
    (either (mapped name_expr name)
    (worded inside kinds room)))))

-- ---- expressions

-- "." NAME | "[" expr "]", the first so many within the limits
abbrev pub access : Rule Expr → Bool → Bool → Rule (ℕ × Access)
access inside room more =
    either (mapped field_step (pair (sign kind.Dot more) name))
    (mapped index_step (pair (sign kind.OpenList (if more then room else false)) (pair inside (keyword kind.CloseList))))

abbrev pub post : Rule Expr → Rule ValueKind → Bool → Rule Expr
post inside kinds room =
    mapped (joined_pair with_step) (pair (primary inside kinds room) (links (access inside room) 64))

-- the operators of a chain
abbrev pub operators : Rank → Bool → Rule (Operator × ℕ)
operators rank.Or more = mapped (operation operator.Or) (sign kind.Or more)
operators rank.And more = mapped (operation operator.And) (sign kind.And more)
operators rank.Sum more =
    either (mapped (operation operator.Plus) (sign kind.Plus more))
    (mapped (operation operator.Minus) (sign kind.Minus more))
operators rank.Product more =
    either (mapped (operation operator.Times) (sign kind.Star more))
    (either (mapped (operation operator.Divide) (sign kind.Slash more))
    (mapped (operation operator.Remainder) (sign kind.Percent more)))

-- operand { operator operand }, with at most 64 operators
abbrev pub chain : Rank → Rule Expr → Rule Expr
chain rank R = mapped (joined_pair (with_link rank)) (pair R (links (λ more. pair (operators rank more) R) 64))

-- "-" signed | post
abbrev pub signed : Rule Expr → Rule Expr → Rule ValueKind → Bool → Rule Expr
signed inside operand kinds room =
    either (mapped negative_expr (pair (sign kind.Minus room) operand)) (post inside kinds room)

abbrev pub comparisons : Rule (Comparison × ℕ)
comparisons =
    either (mapped (comparing comparison.Equal) (keyword kind.Equal))
    (either (mapped (comparing comparison.NotEqual) (keyword kind.NotEqual))
    (either (mapped (comparing comparison.Less) (keyword kind.Less))
    (either (mapped (comparing comparison.LessOrEqual) (keyword kind.LessOrEqual))
    (either (mapped (comparing comparison.Greater) (keyword kind.Greater))
    (mapped (comparing comparison.GreaterOrEqual) (keyword kind.GreaterOrEqual))))))

-- sum [ comparison sum ]
abbrev pub comparison_rule : Rule Expr → Rule Expr
comparison_rule R = mapped compared_expr (pair R (either (mapped Some (pair comparisons R)) (nothing None)))

-- What may stand in an expression that opens a level: all of one, the operand of "not", or that of a sign.
pub data Part : Type 0 where
  Whole : Part
  Negated : Part
  Signed : Part

abbrev pub product : (Part → Rule Expr) → Rule ValueKind → Bool → Rule Expr
product inside kinds room = chain rank.Product (signed (inside Whole) (inside Signed) kinds room)

-- "not" no | compared
abbrev pub no : (Part → Rule Expr) → Rule ValueKind → Bool → Rule Expr
no inside kinds room =
    either (mapped not_expr (pair (sign kind.Not room) (inside Negated)))
    (comparison_rule (chain rank.Sum (product inside kinds room)))

abbrev pub rule_of : Part → (Part → Rule Expr) → Rule ValueKind → Bool → Rule Expr
rule_of Whole inside kinds room = chain rank.Or (chain rank.And (no inside kinds room))
rule_of Negated inside kinds room = no inside kinds room
rule_of Signed inside kinds room = signed (inside Whole) (inside Signed) kinds room

-- expressions that nest less than n deep, where so many more levels may be opened
abbrev pub expression : ℕ → ℕ → Part → Rule Expr
expression zero left part = λ x ms. ⊥
expression (suc n) left part = rule_of part (expression n (less_one left)) (kinds n left) (room_of left)

-- ---- statements

-- "(" [ expr { "," expr } ] ")"
abbrev pub arguments : Rule Expr → Bool → Rule (List Expr)
arguments inside room = mapped inner (in_parentheses (either (commas inside) (nothing [])) room)

abbrev pub if_rule : Rule Expr → Rule Block → Rule Statement
if_rule expr block =
    mapped if_of
    (pair (keyword kind.If)
    (pair expr
    (pair block
    (either (mapped else_of (pair (keyword kind.Else) block))
    (nothing None)))))

abbrev pub range : Rule Expr → Rule Range
range expr = either (mapped range_of (pair (keyword kind.In) expr)) (mapped numbers_of (pair (keyword kind.To) number))

abbrev pub for_rule : Rule Expr → Rule Block → Rule Statement
for_rule expr block = mapped for_of (pair (keyword kind.For) (pair name (pair (range expr) block)))

abbrev pub make_rule : Rule Expr → Bool → Rule Statement
make_rule inside room =
    mapped make_of
    (pair (keyword kind.Make)
    (pair name
    (pair (keyword kind.Becomes)
    (pair name
    (pair (arguments inside room)
    (keyword kind.Semicolon))))))

-- behind the first name of a call
abbrev pub call_rest : Rule Expr → Bool → Rule CallRest
call_rest inside room =
    either (mapped Arguments (arguments inside room))
    (mapped binds_of
    (pair (mapped names_in_list (many (pair (keyword kind.Comma) name)))
    (pair (keyword kind.Becomes)
    (pair name
    (arguments inside room)))))

abbrev pub call_rule : Rule Expr → Bool → Rule Statement
call_rule inside room =
    mapped call_of (pair (keyword kind.Call) (pair name (pair (call_rest inside room) (keyword kind.Semicolon))))

-- expr is an expression that stands in the statement, inside one that stands in its parentheses
abbrev pub statement_rule : Rule Block → Rule Expr → Rule Expr → Bool → Rule Statement
statement_rule block expr inside room =
    either (mapped let_of (pair (keyword kind.Let) (pair name (pair (keyword kind.Becomes)
    (pair expr (keyword kind.Semicolon))))))
    (either (mapped set_of (pair (keyword kind.Set) (pair name (pair (keyword kind.Becomes)
    (pair expr (keyword kind.Semicolon))))))
    (either (if_rule expr block)
    (either (for_rule expr block)
    (either (make_rule inside room)
    (either (call_rule inside room)
    (mapped answer_of (pair (keyword kind.Answer) (pair expr (keyword kind.Semicolon)))))))))

-- "{" { statement } "}"
abbrev pub braces : Rule (List Statement) → Bool → Rule Block
braces statements room = mapped block_of (pair (sign kind.OpenBlock room) (pair statements (keyword kind.CloseBlock)))

-- statements that nest less than n deep, where so many more levels may be opened
abbrev pub statements : ℕ → ℕ → Rule (List Statement)
statements zero left = λ x ms. ⊥
statements (suc n) left =
    many
    (statement_rule
    (braces (statements n (less_one left)) (room_of left))
    (expression n left Whole)
    (expression n (less_one left) Whole)
    (room_of left))

-- ---- the whole text

abbrev pub field : Rule ValueKind → Rule Field
field kinds = mapped field_of_parts (pair name (pair (keyword kind.Colon) kinds))

abbrev pub slot : Rule Slot
slot =
    mapped slot_of_parts
    (pair name
    (pair (keyword kind.Colon)
    (pair name
    (either (mapped starred (keyword kind.Star))
    (nothing false)))))

abbrev pub typedef : Rule ValueKind → Rule TypeDef
typedef kinds =
    mapped typedef_of
    (pair (keyword kind.Type)
    (pair name
    (pair (keyword kind.Open)
    (pair (either (commas (field kinds)) (nothing []))
    (pair (keyword kind.Close)
    (keyword kind.Semicolon))))))

-- [ word rows ]
abbrev pub section : {X : Type 0} → Kind → Rule X → Rule (List X)
section k R = either (mapped after_word (pair (keyword k) (commas R))) (nothing [])

abbrev pub head : Rule ValueKind → Rule Head
head kinds =
    mapped method_head_of
    (pair (section kind.Consumes slot)
    (pair (section kind.Reads slot)
    (pair (section kind.Takes (field kinds))
    (pair (section kind.Creates slot)
    (section kind.Returns (field kinds))))))

abbrev pub body : Rule Block → Rule Body
body block =
    mapped body_of_parts
    (pair (keyword kind.OpenBlock)
    (pair (keyword kind.Procedure)
    (pair block
    (pair (keyword kind.Check)
    (pair block
    (keyword kind.CloseBlock))))))

abbrev pub method : Rule ValueKind → Rule Block → Rule Method
method kinds block = mapped method_of (pair (keyword kind.Method) (pair name (pair (head kinds) (body block))))

-- Contract texts by the depth to which they nest. 64 levels may be opened: the parentheses of a type and the braces
-- of a method open the first, and the braces of a procedure or a check the second.
abbrev pub contract : ℕ → Rule ContractTree
contract n =
    let methods = method (kinds n 64) (braces (statements n 62) true) in
    mapped contract_tree_of (pair (many (typedef (kinds n 63))) (mapped first_and_others (pair methods (many methods))))
