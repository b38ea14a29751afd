-- How contract texts are read from the left: the readers of the rules, as the code goes down.
-- Each word is what one function answers.
use Rattle.std.specs.Prelude.{◌≡◌, ℕ, zero, suc, Bool, true, false, List, [], ◌∷◌, ◌++◌, Option, None, Some, Result, Ok, Err}
use Rattle.cs_lang_token.specs.declared.token.Token.{Token}
use Rattle.cs_lang_token.specs.declared.token.Text.{Text}
use Rattle.cs_lang_token.specs.declared.kind.Kind.{Kind}
use Rattle.cs_lang_token.specs.declared.kind.Kind.TheVariants as kind
use Rattle.cs_lang_token.specs.declared.cursor.Stop.{Stop}
use Rattle.cs_lang_token.specs.Answers.{ReaderFails}
use Rattle.cs_lang_token.specs.Kinds.{is}
use Rattle.cs_lang_token.specs.Grammar.{Reader, pair_read, mapped_at, either_at, nothing_at, refused_at, links_at, many_read, ◌>>=◌}
use Rattle.cs_lang_token.specs.Rules.{sign_at, name_token_at, bytes_token_at, number_token_at, room_of, joined_left, joined_pair, item_behind, first_and_rest}
use Rattle.cs_lang.specs.declared.tree.Operator.{Operator}
use Rattle.cs_lang.specs.declared.tree.Operator.TheVariants as operator
use Rattle.cs_lang.specs.declared.tree.Rank.{Rank}
use Rattle.cs_lang.specs.declared.tree.Rank.TheVariants as rank
use Rattle.cs_lang.specs.declared.tree.Comparison.{Comparison}
use Rattle.cs_lang.specs.declared.tree.Comparison.TheVariants as comparison
use Rattle.cs_lang.specs.declared.tree.ValueKind.{ValueKind}
use Rattle.cs_lang.specs.declared.tree.ValueKind.TheVariants as value_kind
use Rattle.cs_lang.specs.declared.tree.Expr.{Expr}
use Rattle.cs_lang.specs.declared.tree.Access.{Access}
use Rattle.cs_lang.specs.declared.tree.Block.{Block}
use Rattle.cs_lang.specs.declared.tree.Statement.{Statement}
use Rattle.cs_lang.specs.declared.tree.Field.{Field}
use Rattle.cs_lang.specs.declared.tree.TypeDef.{TypeDef}
use Rattle.cs_lang.specs.declared.tree.Slot.{Slot}
use Rattle.cs_lang.specs.declared.tree.Method.{Method}
use Rattle.cs_lang.specs.declared.tree.ContractTree.{ContractTree}
use Rattle.cs_lang.specs.declared.methods.Head.{Head}
use Rattle.cs_lang.specs.declared.methods.Body.{Body}
use Rattle.cs_lang.specs.Trees.{with_link, with_step, field_step, index_step, number_expr, bytes_expr, name_expr, truth_expr, grouped, listed, empty_expr, len_expr, sha256_expr, concat_expr, called_expr, depint_expr, negative_expr, not_expr, operation, comparing, compared_expr, plain_kind, list_value_kind, field_of_parts, slot_of_parts, starred, let_of, set_of, if_of, else_of, Range, range_of, numbers_of, for_of, inner, make_of, CallRest, Arguments, binds_of, names_in_list, call_of, answer_of, block_of, typedef_of, after_word, method_head_of, body_of_parts, method_of, first_and_others, contract_tree_of}
use Rattle.cs_lang.specs.Rules.{Part, Whole, Negated, Signed}

abbrev pub keyword_at : Kind → Reader ℕ
keyword_at k = sign_at k true

abbrev pub commas_at : {X : Type 0} → Reader X → Reader (List X)
commas_at r = mapped_at first_and_rest (pair_read r (many_read (is (kind.Comma ∷ [])) (pair_read (keyword_at kind.Comma) r)))

-- the links of a row behind what was read, which is then the left side
abbrev pub onward : {A X : Type 0} → (A → X → A) → (Token → Bool) → Reader X → ℕ → A → Reader A
onward f first r left e ts = links_at first r left ts >>= λ z. Ok (joined_left f e z.0, z.1)

-- one link of a row behind what was read
abbrev pub turn : {A X : Type 0} → (A → X → A) → Reader X → A → Reader A
turn f r e ts = r ts >>= λ x. Ok (f e x.0, x.1)

abbrev pub with_one : {X : Type 0} → List X → X → List X
with_one xs x = xs ++ x ∷ []

-- what was held is given back, with the place of the sign behind it
abbrev pub ReadsClosingSign : {X : Type 0} → Result (X × ℕ) Stop → X → List Token
    → Result (ℕ × List Token) (List Token) → Type 0
ReadsClosingSign (Ok p) held rest found = (p.0 ≡ held) × (found ≡ Ok (p.1, rest))
ReadsClosingSign (Err e) held rest found = ReaderFails e rest found

-- ---- kinds, fields, slots

abbrev pub kind_reader : Reader ValueKind → Bool → Reader ValueKind
kind_reader inside room =
    either_at (is (kind.IntKind ∷ [])) (mapped_at (plain_kind value_kind.Int) (keyword_at kind.IntKind))
    (either_at (is (kind.BoolKind ∷ [])) (mapped_at (plain_kind value_kind.Bool) (keyword_at kind.BoolKind))
    (either_at (is (kind.BytesKind ∷ [])) (mapped_at (plain_kind value_kind.Bytes) (keyword_at kind.BytesKind))
    (mapped_at list_value_kind (pair_read (sign_at kind.OpenList room) (pair_read inside (keyword_at kind.CloseList))))))

unfoldable pub value_kind_at : ℕ → Reader ValueKind
value_kind_at zero = kind_reader refused_at false
value_kind_at (suc left) = kind_reader (value_kind_at left) true

-- what stands within one more level
unfoldable pub inside_kind : ℕ → Reader ValueKind
inside_kind zero = refused_at
inside_kind (suc left) = value_kind_at left

unfoldable pub kind_level : ℕ → Reader ValueKind
kind_level left = kind_reader (inside_kind left) (room_of left)

unfoldable pub field_level : ℕ → Reader Field
field_level left = mapped_at field_of_parts (pair_read name_token_at (pair_read (keyword_at kind.Colon) (kind_level left)))

unfoldable pub fields_level : ℕ → Reader (List Field)
fields_level left = commas_at (field_level left)

unfoldable pub fields_onward : ℕ → ℕ → List Field → Reader (List Field)
fields_onward left more = onward item_behind (is (kind.Comma ∷ [])) (pair_read (keyword_at kind.Comma) (field_level left)) more

unfoldable pub fields_turn : ℕ → List Field → Reader (List Field)
fields_turn left = turn item_behind (pair_read (keyword_at kind.Comma) (field_level left))

unfoldable pub slot_level : Reader Slot
slot_level =
    mapped_at slot_of_parts
    (pair_read name_token_at
    (pair_read (keyword_at kind.Colon)
    (pair_read name_token_at
    (either_at (is (kind.Star ∷ [])) (mapped_at starred (keyword_at kind.Star))
    (nothing_at false)))))

unfoldable pub slots_level : Reader (List Slot)
slots_level = commas_at slot_level

unfoldable pub slots_onward : ℕ → List Slot → Reader (List Slot)
slots_onward more = onward item_behind (is (kind.Comma ∷ [])) (pair_read (keyword_at kind.Comma) slot_level) more

unfoldable pub slots_turn : List Slot → Reader (List Slot)
slots_turn = turn item_behind (pair_read (keyword_at kind.Comma) slot_level)

-- ---- expressions

abbrev pub in_parentheses_at : {X : Type 0} → Reader X → Bool → Reader (ℕ × (X × ℕ))
in_parentheses_at r room = pair_read (sign_at kind.Open room) (pair_read r (keyword_at kind.Close))

abbrev pub group_at : Reader Expr → Bool → Reader Expr
group_at inside room = mapped_at grouped (in_parentheses_at inside room)

abbrev pub bracket_at : Reader (List Expr) → Bool → Reader Expr
bracket_at items room = mapped_at listed (pair_read (sign_at kind.OpenList room) (pair_read items (keyword_at kind.CloseList)))

abbrev pub two_at : Reader Expr → Reader (Expr × (ℕ × Expr))
two_at r = pair_read r (pair_read (keyword_at kind.Comma) r)

abbrev pub concat_reader : Reader (Expr × (ℕ × Expr)) → Bool → Reader Expr
concat_reader two room = mapped_at concat_expr (pair_read (keyword_at kind.Concat) (in_parentheses_at two room))

abbrev pub concat_at : Reader Expr → Bool → Reader Expr
concat_at inside = concat_reader (two_at inside)

abbrev pub called_at : Bool → Reader Expr
called_at room =
    mapped_at called_expr
    (pair_read (keyword_at kind.Called)
    (in_parentheses_at (pair_read number_token_at (pair_read (keyword_at kind.Comma) name_token_at)) room))

abbrev pub depint_at : Bool → Reader Expr
depint_at room =
    mapped_at depint_expr
    (pair_read (keyword_at kind.DepInt)
    (in_parentheses_at (pair_read number_token_at (pair_read (keyword_at kind.Comma) number_token_at)) room))

abbrev pub empty_at : Reader ValueKind → Reader Expr
empty_at kinds = mapped_at empty_expr (pair_read (keyword_at kind.Empty) kinds)

abbrev pub len_at : Reader Expr → Bool → Reader Expr
len_at inside room = mapped_at len_expr (pair_read (keyword_at kind.Len) (in_parentheses_at inside room))

abbrev pub sha256_at : Reader Expr → Bool → Reader Expr
sha256_at inside room = mapped_at sha256_expr (pair_read (keyword_at kind.Sha256) (in_parentheses_at inside room))

abbrev pub worded_of : Reader Expr → Reader Expr → Reader Expr → Reader Expr → Reader Expr → Reader Expr → Reader Expr
worded_of empty len sha256 concat called depint =
    either_at (is (kind.True ∷ [])) (mapped_at (truth_expr true) (keyword_at kind.True))
    (either_at (is (kind.False ∷ [])) (mapped_at (truth_expr false) (keyword_at kind.False))
    (either_at (is (kind.Empty ∷ [])) empty
    (either_at (is (kind.Len ∷ [])) len
    (either_at (is (kind.Sha256 ∷ [])) sha256
    (either_at (is (kind.Concat ∷ [])) concat
    (either_at (is (kind.Called ∷ [])) called depint))))))

abbrev pub worded_at : Reader Expr → Reader ValueKind → Bool → Reader Expr
worded_at inside kinds room =
    worded_of (empty_at kinds) (len_at inside room) (sha256_at inside room) (concat_at inside room)
    (called_at room) (depint_at room)

abbrev pub primary_of : Reader Expr → Reader Expr → Reader Expr → Reader Expr
primary_of group bracket worded =
    either_at (is (kind.Open ∷ [])) group
    (either_at (is (kind.OpenList ∷ [])) bracket
    (either_at (is (kind.Number ∷ [])) (mapped_at number_expr number_token_at)
    (either_at (is (kind.Bytes ∷ [])) (mapped_at bytes_expr bytes_token_at)
    (either_at (is (kind.Name ∷ [])) (mapped_at name_expr name_token_at) worded))))

abbrev pub primary_at : Reader Expr → Reader ValueKind → Bool → Reader Expr
primary_at inside kinds room =
    primary_of (group_at inside room) (bracket_at (commas_at inside) room) (worded_at inside kinds room)

abbrev pub access_at : Reader Expr → Bool → Reader (ℕ × Access)
access_at inside room =
    either_at (is (kind.Dot ∷ [])) (mapped_at field_step (pair_read (keyword_at kind.Dot) name_token_at))
    (mapped_at index_step (pair_read (sign_at kind.OpenList room) (pair_read inside (keyword_at kind.CloseList))))

abbrev pub step_kinds : List Kind
step_kinds = kind.Dot ∷ kind.OpenList ∷ []

abbrev pub post_at : Reader Expr → Reader ValueKind → Bool → Reader Expr
post_at inside kinds room =
    mapped_at (joined_pair with_step)
    (pair_read (primary_at inside kinds room)
    (links_at (is step_kinds) (access_at inside room) 64))

abbrev pub kinds_of : Rank → List Kind
kinds_of rank.Or = kind.Or ∷ []
kinds_of rank.And = kind.And ∷ []
kinds_of rank.Sum = kind.Plus ∷ kind.Minus ∷ []
kinds_of rank.Product = kind.Star ∷ kind.Slash ∷ kind.Percent ∷ []

unfoldable pub operators_at : Rank → Reader (Operator × ℕ)
operators_at rank.Or = mapped_at (operation operator.Or) (keyword_at kind.Or)
operators_at rank.And = mapped_at (operation operator.And) (keyword_at kind.And)
operators_at rank.Sum =
    either_at (is (kind.Plus ∷ [])) (mapped_at (operation operator.Plus) (keyword_at kind.Plus))
    (mapped_at (operation operator.Minus) (keyword_at kind.Minus))
operators_at rank.Product =
    either_at (is (kind.Star ∷ [])) (mapped_at (operation operator.Times) (keyword_at kind.Star))
    (either_at (is (kind.Slash ∷ [])) (mapped_at (operation operator.Divide) (keyword_at kind.Slash))
    (mapped_at (operation operator.Remainder) (keyword_at kind.Percent)))

abbrev pub chain_at : Rank → Reader Expr → Reader Expr
chain_at rank r =
    mapped_at (joined_pair (with_link rank))
    (pair_read r
    (links_at (is (kinds_of rank)) (pair_read (operators_at rank) r) 64))

abbrev pub signed_of : Reader Expr → Bool → Reader Expr → Reader Expr
signed_of operand room post =
    either_at (is (kind.Minus ∷ [])) (mapped_at negative_expr (pair_read (sign_at kind.Minus room) operand)) post

abbrev pub comparison_kinds : List Kind
comparison_kinds = kind.Equal ∷ kind.NotEqual ∷ kind.Less ∷ kind.LessOrEqual ∷ kind.Greater ∷ kind.GreaterOrEqual ∷ []

unfoldable pub comparisons_at : Reader (Comparison × ℕ)
comparisons_at =
    either_at (is (kind.Equal ∷ [])) (mapped_at (comparing comparison.Equal) (keyword_at kind.Equal))
    (either_at (is (kind.NotEqual ∷ [])) (mapped_at (comparing comparison.NotEqual) (keyword_at kind.NotEqual))
    (either_at (is (kind.Less ∷ [])) (mapped_at (comparing comparison.Less) (keyword_at kind.Less))
    (either_at (is (kind.LessOrEqual ∷ [])) (mapped_at (comparing comparison.LessOrEqual) (keyword_at kind.LessOrEqual))
    (either_at (is (kind.Greater ∷ [])) (mapped_at (comparing comparison.Greater) (keyword_at kind.Greater))
    (mapped_at (comparing comparison.GreaterOrEqual) (keyword_at kind.GreaterOrEqual))))))

abbrev pub compared_reader : Reader Expr → Reader ((Comparison × ℕ) × Expr) → Reader Expr
compared_reader r side =
    mapped_at compared_expr
    (pair_read r
    (either_at (is comparison_kinds) (mapped_at Some side)
    (nothing_at None)))

abbrev pub compared_at : Reader Expr → Reader Expr
compared_at r = compared_reader r (pair_read comparisons_at r)

abbrev pub signed_at : (Part → Reader Expr) → Reader ValueKind → Bool → Reader Expr
signed_at inside kinds room = signed_of (inside Signed) room (post_at (inside Whole) kinds room)

abbrev pub no_of : Reader Expr → Bool → Reader Expr → Reader Expr
no_of operand room compared =
    either_at (is (kind.Not ∷ [])) (mapped_at not_expr (pair_read (sign_at kind.Not room) operand)) compared

abbrev pub no_at : (Part → Reader Expr) → Reader ValueKind → Bool → Reader Expr
no_at inside kinds room =
    no_of (inside Negated) room
    (compared_at (chain_at rank.Sum (chain_at rank.Product (signed_at inside kinds room))))

abbrev pub reader_of : Part → (Part → Reader Expr) → Reader ValueKind → Bool → Reader Expr
reader_of Whole inside kinds room = chain_at rank.Or (chain_at rank.And (no_at inside kinds room))
reader_of Negated inside kinds room = no_at inside kinds room
reader_of Signed inside kinds room = signed_at inside kinds room

abbrev pub nowhere : Part → Reader Expr
nowhere part = refused_at

unfoldable pub expression_at : ℕ → Part → Reader Expr
expression_at zero part = reader_of part nowhere (kind_level zero) false
expression_at (suc left) part = reader_of part (expression_at left) (kind_level (suc left)) true

-- what stands within one more level
unfoldable pub inside_expr : ℕ → Part → Reader Expr
inside_expr zero part = refused_at
inside_expr (suc left) part = expression_at left part

unfoldable pub inside_items : ℕ → Reader (List Expr)
inside_items left = commas_at (inside_expr left Whole)

unfoldable pub inside_two : ℕ → Reader (Expr × (ℕ × Expr))
inside_two left = two_at (inside_expr left Whole)

unfoldable pub group_level : ℕ → Reader Expr
group_level left = group_at (inside_expr left Whole) (room_of left)

unfoldable pub bracket_level : ℕ → Reader Expr
bracket_level left = bracket_at (inside_items left) (room_of left)

unfoldable pub empty_level : ℕ → Reader Expr
empty_level left = empty_at (kind_level left)

unfoldable pub len_level : ℕ → Reader Expr
len_level left = len_at (inside_expr left Whole) (room_of left)

unfoldable pub sha256_level : ℕ → Reader Expr
sha256_level left = sha256_at (inside_expr left Whole) (room_of left)

unfoldable pub concat_level : ℕ → Reader Expr
concat_level left = concat_reader (inside_two left) (room_of left)

unfoldable pub called_level : ℕ → Reader Expr
called_level left = called_at (room_of left)

unfoldable pub depint_level : ℕ → Reader Expr
depint_level left = depint_at (room_of left)

unfoldable pub worded_level : ℕ → Reader Expr
worded_level left =
    worded_of (empty_level left) (len_level left) (sha256_level left) (concat_level left) (called_level left)
    (depint_level left)

unfoldable pub primary_level : ℕ → Reader Expr
primary_level left = primary_of (group_level left) (bracket_level left) (worded_level left)

unfoldable pub access_level : ℕ → Reader (ℕ × Access)
access_level left = access_at (inside_expr left Whole) (room_of left)

unfoldable pub post_level : ℕ → Reader Expr
post_level left =
    mapped_at (joined_pair with_step)
    (pair_read (primary_level left)
    (links_at (is step_kinds) (access_level left) 64))

unfoldable pub post_onward : ℕ → ℕ → Expr → Reader Expr
post_onward left more = onward with_step (is step_kinds) (access_level left) more

unfoldable pub post_turn : ℕ → Expr → Reader Expr
post_turn left = turn with_step (access_level left)

unfoldable pub signed_level : ℕ → Reader Expr
signed_level left = signed_of (inside_expr left Signed) (room_of left) (post_level left)

unfoldable pub ranked_product : ℕ → Reader Expr
ranked_product left = chain_at rank.Product (signed_level left)

unfoldable pub ranked_sum : ℕ → Reader Expr
ranked_sum left = chain_at rank.Sum (ranked_product left)

-- a comparison, and what it compares with
unfoldable pub side_level : ℕ → Reader ((Comparison × ℕ) × Expr)
side_level left = pair_read comparisons_at (ranked_sum left)

unfoldable pub compared_level : ℕ → Reader Expr
compared_level left = compared_reader (ranked_sum left) (side_level left)

unfoldable pub no_level : ℕ → Reader Expr
no_level left = no_of (inside_expr left Negated) (room_of left) (compared_level left)

unfoldable pub ranked_and : ℕ → Reader Expr
ranked_and left = chain_at rank.And (no_level left)

-- the operands of a chain
unfoldable pub below : Rank → ℕ → Reader Expr
below rank.Or left = ranked_and left
below rank.And left = no_level left
below rank.Sum left = ranked_product left
below rank.Product left = signed_level left

unfoldable pub ranked : Rank → ℕ → Reader Expr
ranked rank left = chain_at rank (below rank left)

unfoldable pub ranked_onward : Rank → ℕ → ℕ → Expr → Reader Expr
ranked_onward rank left more =
    onward (with_link rank) (is (kinds_of rank)) (pair_read (operators_at rank) (below rank left)) more

unfoldable pub ranked_turn : Rank → ℕ → Expr → Reader Expr
ranked_turn rank left = turn (with_link rank) (pair_read (operators_at rank) (below rank left))

unfoldable pub two_level : ℕ → Reader (Expr × (ℕ × Expr))
two_level left = two_at (ranked rank.Or left)

unfoldable pub items_level : ℕ → Reader (List Expr)
items_level left = commas_at (ranked rank.Or left)

unfoldable pub items_onward : ℕ → ℕ → List Expr → Reader (List Expr)
items_onward left more =
    onward item_behind (is (kind.Comma ∷ [])) (pair_read (keyword_at kind.Comma) (ranked rank.Or left)) more

unfoldable pub items_turn : ℕ → List Expr → Reader (List Expr)
items_turn left = turn item_behind (pair_read (keyword_at kind.Comma) (ranked rank.Or left))

-- ---- statements

-- what an expression begins with
abbrev pub expression_kinds : List Kind
expression_kinds =
    kind.Not ∷ kind.Minus ∷ kind.Open ∷ kind.OpenList ∷ kind.Number ∷ kind.Bytes ∷ kind.Name
    ∷ kind.True ∷ kind.False ∷ kind.Empty ∷ kind.Len ∷ kind.Sha256
    ∷ kind.Concat ∷ kind.Called ∷ kind.DepInt ∷ []

abbrev pub statement_kinds : List Kind
statement_kinds = kind.Let ∷ kind.Set ∷ kind.If ∷ kind.For ∷ kind.Make ∷ kind.Call ∷ kind.Answer ∷ []

abbrev pub optional_at : Reader (List Expr) → Reader (List Expr)
optional_at items = either_at (is expression_kinds) items (nothing_at [])

abbrev pub arguments_at : Reader (List Expr) → Bool → Reader (List Expr)
arguments_at optional room = mapped_at inner (in_parentheses_at optional room)

abbrev pub let_at : Reader Expr → Reader Statement
let_at expr =
    mapped_at let_of
    (pair_read (keyword_at kind.Let)
    (pair_read name_token_at
    (pair_read (keyword_at kind.Becomes)
    (pair_read expr
    (keyword_at kind.Semicolon)))))

abbrev pub set_at : Reader Expr → Reader Statement
set_at expr =
    mapped_at set_of
    (pair_read (keyword_at kind.Set)
    (pair_read name_token_at
    (pair_read (keyword_at kind.Becomes)
    (pair_read expr
    (keyword_at kind.Semicolon)))))

abbrev pub if_at : Reader Expr → Reader Block → Reader Statement
if_at expr block =
    mapped_at if_of
    (pair_read (keyword_at kind.If)
    (pair_read expr
    (pair_read block
    (either_at (is (kind.Else ∷ [])) (mapped_at else_of (pair_read (keyword_at kind.Else) block))
    (nothing_at None)))))

abbrev pub range_at : Reader Expr → Reader Range
range_at expr =
    either_at (is (kind.In ∷ [])) (mapped_at range_of (pair_read (keyword_at kind.In) expr))
    (mapped_at numbers_of (pair_read (keyword_at kind.To) number_token_at))

abbrev pub for_at : Reader Expr → Reader Block → Reader Statement
for_at expr block = mapped_at for_of (pair_read (keyword_at kind.For) (pair_read name_token_at (pair_read (range_at expr) block)))

abbrev pub make_at : Reader (List Expr) → Reader Statement
make_at arguments =
    mapped_at make_of
    (pair_read (keyword_at kind.Make)
    (pair_read name_token_at
    (pair_read (keyword_at kind.Becomes)
    (pair_read name_token_at
    (pair_read arguments
    (keyword_at kind.Semicolon))))))

unfoldable pub names_at : Reader (List Text)
names_at = mapped_at names_in_list (many_read (is (kind.Comma ∷ [])) (pair_read (keyword_at kind.Comma) name_token_at))

abbrev pub call_rest_at : Reader (List Expr) → Reader CallRest
call_rest_at arguments =
    either_at (is (kind.Open ∷ [])) (mapped_at Arguments arguments)
    (mapped_at binds_of (pair_read names_at (pair_read (keyword_at kind.Becomes) (pair_read name_token_at arguments))))

abbrev pub call_at : Reader (List Expr) → Reader Statement
call_at arguments =
    mapped_at call_of
    (pair_read (keyword_at kind.Call)
    (pair_read name_token_at
    (pair_read (call_rest_at arguments)
    (keyword_at kind.Semicolon))))

abbrev pub answer_at : Reader Expr → Reader Statement
answer_at expr = mapped_at answer_of (pair_read (keyword_at kind.Answer) (pair_read expr (keyword_at kind.Semicolon)))

abbrev pub statement_of : Reader Statement → Reader Statement → Reader Statement → Reader Statement
    → Reader Statement → Reader Statement → Reader Statement → Reader Statement
statement_of lets sets ifs fors makes calls answers =
    either_at (is (kind.Let ∷ [])) lets
    (either_at (is (kind.Set ∷ [])) sets
    (either_at (is (kind.If ∷ [])) ifs
    (either_at (is (kind.For ∷ [])) fors
    (either_at (is (kind.Make ∷ [])) makes
    (either_at (is (kind.Call ∷ [])) calls answers)))))

abbrev pub statement_at : Reader Block → Reader Expr → Reader (List Expr) → Reader Statement
statement_at block expr arguments =
    statement_of (let_at expr) (set_at expr) (if_at expr block) (for_at expr block) (make_at arguments)
    (call_at arguments) (answer_at expr)

abbrev pub braces_at : Reader (List Statement) → Bool → Reader Block
braces_at statements room =
    mapped_at block_of (pair_read (sign_at kind.OpenBlock room) (pair_read statements (keyword_at kind.CloseBlock)))

unfoldable pub optional_items : ℕ → Reader (List Expr)
optional_items left = optional_at (items_level left)

unfoldable pub inside_optional : ℕ → Reader (List Expr)
inside_optional left = optional_at (inside_items left)

unfoldable pub arguments_level : ℕ → Reader (List Expr)
arguments_level left = arguments_at (inside_optional left) (room_of left)

unfoldable pub statements_at : ℕ → Reader (List Statement)
statements_at zero =
    many_read (is statement_kinds)
    (statement_at (braces_at refused_at false) (ranked rank.Or zero) (arguments_level zero))
statements_at (suc left) =
    many_read (is statement_kinds)
    (statement_at
    (braces_at (statements_at left) true)
    (ranked rank.Or (suc left))
    (arguments_level (suc left)))

-- what stands within one more level
unfoldable pub inside_statements : ℕ → Reader (List Statement)
inside_statements zero = refused_at
inside_statements (suc left) = statements_at left

unfoldable pub block_level : ℕ → Reader Block
block_level left = braces_at (inside_statements left) (room_of left)

unfoldable pub let_level : ℕ → Reader Statement
let_level left = let_at (ranked rank.Or left)

unfoldable pub set_level : ℕ → Reader Statement
set_level left = set_at (ranked rank.Or left)

unfoldable pub if_level : ℕ → Reader Statement
if_level left = if_at (ranked rank.Or left) (block_level left)

unfoldable pub for_level : ℕ → Reader Statement
for_level left = for_at (ranked rank.Or left) (block_level left)

unfoldable pub make_level : ℕ → Reader Statement
make_level left = make_at (arguments_level left)

unfoldable pub call_level : ℕ → Reader Statement
call_level left = call_at (arguments_level left)

unfoldable pub answer_level : ℕ → Reader Statement
answer_level left = answer_at (ranked rank.Or left)

unfoldable pub statement_level : ℕ → Reader Statement
statement_level left =
    statement_of (let_level left) (set_level left) (if_level left) (for_level left) (make_level left)
    (call_level left) (answer_level left)

unfoldable pub statements_level : ℕ → Reader (List Statement)
statements_level left = many_read (is statement_kinds) (statement_level left)

unfoldable pub statements_onward : ℕ → ℕ → List Statement → Reader (List Statement)
statements_onward left more = onward with_one (is statement_kinds) (statement_level left) more

unfoldable pub statements_turn : ℕ → List Statement → Reader (List Statement)
statements_turn left = turn with_one (statement_level left)

abbrev pub name_behind : List Text → ℕ × Text → List Text
name_behind names p = names ++ p.1 ∷ []

unfoldable pub names_onward : ℕ → List Text → Reader (List Text)
names_onward more = onward name_behind (is (kind.Comma ∷ [])) (pair_read (keyword_at kind.Comma) name_token_at) more

unfoldable pub names_turn : List Text → Reader (List Text)
names_turn = turn name_behind (pair_read (keyword_at kind.Comma) name_token_at)

-- ---- the whole text

unfoldable pub optional_fields : Reader (List Field)
optional_fields = either_at (is (kind.Name ∷ [])) (fields_level 63) (nothing_at [])

unfoldable pub typedef_level : Reader TypeDef
typedef_level =
    mapped_at typedef_of
    (pair_read (keyword_at kind.Type)
    (pair_read name_token_at
    (pair_read (keyword_at kind.Open)
    (pair_read optional_fields
    (pair_read (keyword_at kind.Close)
    (keyword_at kind.Semicolon))))))

abbrev pub section_at : {X : Type 0} → Kind → Reader (List X) → Reader (List X)
section_at k r = either_at (is (k ∷ [])) (mapped_at after_word (pair_read (keyword_at k) r)) (nothing_at [])

unfoldable pub slots_section : Kind → Reader (List Slot)
slots_section k = section_at k slots_level

unfoldable pub fields_section : Kind → Reader (List Field)
fields_section k = section_at k (fields_level 64)

unfoldable pub head_level : Reader Head
head_level =
    mapped_at method_head_of
    (pair_read (slots_section kind.Consumes)
    (pair_read (slots_section kind.Reads)
    (pair_read (fields_section kind.Takes)
    (pair_read (slots_section kind.Creates)
    (fields_section kind.Returns)))))

unfoldable pub body_level : Reader Body
body_level =
    mapped_at body_of_parts
    (pair_read (keyword_at kind.OpenBlock)
    (pair_read (keyword_at kind.Procedure)
    (pair_read (block_level 63)
    (pair_read (keyword_at kind.Check)
    (pair_read (block_level 63)
    (keyword_at kind.CloseBlock))))))

unfoldable pub method_level : Reader Method
method_level = mapped_at method_of (pair_read (keyword_at kind.Method) (pair_read name_token_at (pair_read head_level body_level)))

unfoldable pub typedefs_level : Reader (List TypeDef)
typedefs_level = many_read (is (kind.Type ∷ [])) typedef_level

unfoldable pub typedefs_onward : ℕ → List TypeDef → Reader (List TypeDef)
typedefs_onward more = onward with_one (is (kind.Type ∷ [])) typedef_level more

unfoldable pub typedefs_turn : List TypeDef → Reader (List TypeDef)
typedefs_turn = turn with_one typedef_level

unfoldable pub methods_level : Reader (List Method)
methods_level = mapped_at first_and_others (pair_read method_level (many_read (is (kind.Method ∷ [])) method_level))

unfoldable pub methods_onward : ℕ → List Method → Reader (List Method)
methods_onward more = onward with_one (is (kind.Method ∷ [])) method_level more

unfoldable pub methods_turn : List Method → Reader (List Method)
methods_turn = turn with_one method_level

unfoldable pub contract_level : Reader ContractTree
contract_level = mapped_at contract_tree_of (pair_read typedefs_level methods_level)
