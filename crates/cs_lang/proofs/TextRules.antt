-- The readers of statements, methods and whole texts are those of the grammar's rules.
use Rattle.std.proofs.Common.{◌≡◌, ℕ, zero, suc, ◌+◌, ◌<◌, ◌≤◌, Bool, true, false, List, [], ◌∷◌, ◌++◌, refl, sym, ap, subst, ◌∙◌, arith, inl, inr}
use Rattle.std.specs.Prelude.{◌⊎◌, if◌then◌else◌, Option, None, Some}
use Rattle.std.proofs.lemmas.List.{append-nil}
use Rattle.cs_lang_token.specs.declared.token.Text.{Text}
use Rattle.cs_lang_token.specs.declared.kind.Kind.{Kind}
use Rattle.cs_lang_token.specs.declared.kind.Kind.TheVariants as kind
use Rattle.cs_lang_token.specs.Kinds.{is}
use Rattle.cs_lang_token.specs.Grammar.{TokenMark, without_marks, Rule, Reader, begins, pair, mapped, either, nothing, many, pair_read, mapped_at, either_at, nothing_at, refused_at, many_read, IsReader}
use Rattle.cs_lang_token.specs.Rules.{sign, sign_at, name, name_token_at, number, number_token_at, room_of, less_one, commas}
use Rattle.cs_lang_token.proofs.RuleLaws.{Law, fits, rows, pair_law, then_law, mapped_law, sign_law, name_law, number_law, wider_law, weaker_law, nothing_law, either_law, many_law, commas_law, gate_law, Some', some_of, some_pair, some_mapped, some_sign, some_many, some_left, some_right}
use Rattle.cs_lang.specs.declared.tree.Rank.TheVariants as rank
use Rattle.cs_lang.specs.declared.tree.ValueKind.{ValueKind}
use Rattle.cs_lang.specs.declared.tree.Expr.{Expr}
use Rattle.cs_lang.specs.declared.tree.Block.{Block}
use Rattle.cs_lang.specs.declared.tree.Statement.{Statement}
use Rattle.cs_lang.specs.declared.tree.Field.{Field}
use Rattle.cs_lang.specs.declared.tree.TypeDef.{TypeDef}
use Rattle.cs_lang.specs.declared.tree.Slot.{Slot}
use Rattle.cs_lang.specs.declared.tree.Method.{Method}
use Rattle.cs_lang.specs.declared.tree.ContractTree.{ContractTree}
use Rattle.cs_lang.specs.Trees.{field_of_parts, slot_of_parts, starred, let_of, set_of, if_of, else_of, Range, range_of, numbers_of, for_of, inner, make_of, CallRest, Arguments, binds_of, names_in_list, call_of, answer_of, block_of, typedef_of, after_word, method_head_of, body_of_parts, method_of, first_and_others, contract_tree_of}
use Rattle.cs_lang.specs.Rules.{keyword, kinds, in_parentheses, Part, Whole, expression, arguments, if_rule, range, for_rule, make_rule, call_rest, call_rule, statement_rule, braces, statements, field, slot, typedef, section, head, body, method, contract}
use Rattle.cs_lang.specs.Readers.{keyword_at, commas_at, kind_level, inside_kind, in_parentheses_at, expression_at, inside_expr, inside_items, ranked, expression_kinds, statement_kinds, optional_at, arguments_at, let_at, set_at, if_at, range_at, for_at, make_at, names_at, call_rest_at, call_at, answer_at, statement_of, statement_at, braces_at, inside_optional, arguments_level, statements_at, inside_statements, block_level, let_level, set_level, if_level, for_level, make_level, call_level, answer_level, statement_level, statements_level, field_level, fields_level, slot_level, slots_level, optional_fields, typedef_level, section_at, slots_section, fields_section, head_level, body_level, method_level, typedefs_level, methods_level, contract_level}
use Rattle.cs_lang.proofs.Laws.{kind_heads, goes_whole, kind_level_law, expression_law, some_expression, some_kind, no_law, no_room}
use Rattle.cs_lang.proofs.Levels.{whole_ranked}

-- ---- statements

abbrev pub goes_items : List Kind
goes_items = kind.Comma ∷ goes_whole

module _ {E : Type 0} {I : Rule Expr} {i : Reader Expr} (room : Bool) (inside : room ≡ true → Law E I false expression_kinds goes_whole i) where
  arguments_law : Law E (arguments I room) false (kind.Open ∷ []) [] (arguments_at (optional_at (commas_at i)) room)
  arguments_law =
      mapped_law inner (gate_law room kind.Open refl
      (λ e. pair_law (either_law (wider_law stays refl (commas_law goes_items refl refl (inside e))) (nothing_law [] stays) refl) (sign_law kind.Close refl) refl)
      (λ e. some_pair {R = either (commas I) (nothing [])} {S = keyword kind.Close} (some_right {R = commas I} ([], [], (refl, refl))) (some_sign kind.Close refl)))
    where
      stays : List Kind
      stays = expression_kinds ++ goes_items

module _ {E : Type 0} {B : Rule Block} {I J : Rule Expr} {b : Reader Block} {i j : Reader Expr} (room : Bool) (blocks : Law E B false (kind.OpenBlock ∷ []) [] b) (exprs : Law E I false expression_kinds goes_whole i) (inside : room ≡ true → Law E J false expression_kinds goes_whole j) where
  abbrev ends : List Kind
  ends = kind.Else ∷ []

  let_law : Law E (mapped let_of (pair (keyword kind.Let) (pair name (pair (keyword kind.Becomes) (pair I (keyword kind.Semicolon)))))) false (kind.Let ∷ []) [] (let_at i)
  let_law = mapped_law let_of (then_law (sign_law kind.Let refl) (then_law name_law (then_law (sign_law kind.Becomes refl) (pair_law exprs (sign_law kind.Semicolon refl) refl))))

  set_law : Law E (mapped set_of (pair (keyword kind.Set) (pair name (pair (keyword kind.Becomes) (pair I (keyword kind.Semicolon)))))) false (kind.Set ∷ []) [] (set_at i)
  set_law = mapped_law set_of (then_law (sign_law kind.Set refl) (then_law name_law (then_law (sign_law kind.Becomes refl) (pair_law exprs (sign_law kind.Semicolon refl) refl))))

  if_law : Law E (if_rule I B) false (kind.If ∷ []) ends (if_at i b)
  if_law =
      mapped_law if_of (then_law (sign_law kind.If refl) (pair_law exprs
      (then_law blocks (either_law (wider_law ends refl (mapped_law else_of (then_law (sign_law kind.Else refl) blocks))) (nothing_law None ends) refl)) refl))

  range_law : Law E (range I) false (kind.In ∷ kind.To ∷ []) goes_whole (range_at i)
  range_law = either_law (mapped_law range_of (then_law (sign_law kind.In refl) exprs)) (wider_law goes_whole refl (mapped_law numbers_of (then_law (sign_law kind.To refl) number_law))) refl

  for_law : Law E (for_rule I B) false (kind.For ∷ []) [] (for_at i b)
  for_law = mapped_law for_of (then_law (sign_law kind.For refl) (then_law name_law (pair_law range_law blocks refl)))

  make_law : Law E (make_rule J room) false (kind.Make ∷ []) [] (make_at (arguments_at (optional_at (commas_at j)) room))
  make_law = mapped_law make_of (then_law (sign_law kind.Make refl) (then_law name_law (then_law (sign_law kind.Becomes refl) (then_law name_law (then_law (arguments_law room inside) (sign_law kind.Semicolon refl))))))

  names_law : Law E (mapped names_in_list (many (pair (keyword kind.Comma) name))) true (kind.Comma ∷ []) (kind.Comma ∷ []) names_at
  unfolding names_at
  names_law = mapped_law names_in_list (many_law (kind.Comma ∷ []) refl (then_law (sign_law kind.Comma refl) name_law))

  call_rest_law : Law E (call_rest J room) false (kind.Open ∷ kind.Comma ∷ kind.Becomes ∷ []) [] (call_rest_at (arguments_at (optional_at (commas_at j)) room))
  call_rest_law =
      either_law (mapped_law Arguments (arguments_law room inside))
      (mapped_law binds_of (pair_law names_law (then_law (sign_law kind.Becomes refl) (then_law name_law (arguments_law room inside))) refl)) refl

  call_law : Law E (call_rule J room) false (kind.Call ∷ []) [] (call_at (arguments_at (optional_at (commas_at j)) room))
  call_law = mapped_law call_of (then_law (sign_law kind.Call refl) (then_law name_law (then_law call_rest_law (sign_law kind.Semicolon refl))))

  answer_law : Law E (mapped answer_of (pair (keyword kind.Answer) (pair I (keyword kind.Semicolon)))) false (kind.Answer ∷ []) [] (answer_at i)
  answer_law = mapped_law answer_of (then_law (sign_law kind.Answer refl) (pair_law exprs (sign_law kind.Semicolon refl) refl))

  statement_law : Law E (statement_rule B I J room) false statement_kinds ends (statement_at b i (arguments_at (optional_at (commas_at j)) room))
  statement_law =
      either_law (wider_law ends refl let_law) (either_law (wider_law ends refl set_law) (either_law if_law (either_law (wider_law ends refl for_law)
      (either_law (wider_law ends refl make_law) (either_law (wider_law ends refl call_law) (wider_law ends refl answer_law) refl) refl) refl) refl) refl) refl

abbrev pub goes_statements : List Kind
goes_statements = kind.Else ∷ statement_kinds

braces_law : {E : Type 0} {S : Rule (List Statement)} {s : Reader (List Statement)} (room : Bool) → (room ≡ true → Law E S true statement_kinds goes_statements s) → (E → Some' S) → Law E (braces S room) false (kind.OpenBlock ∷ []) [] (braces_at s room)
braces_law {S = S} room inside some =
    mapped_law block_of (gate_law room kind.OpenBlock refl (λ e. pair_law (inside e) (sign_law kind.CloseBlock refl) refl) (λ e. some_pair {R = S} {S = keyword kind.CloseBlock} (some e) (some_sign kind.CloseBlock refl)))

some_statements : (n left : ℕ) → 1 ≤ n → Some' (statements n left)
some_statements zero left le = absurd (omega (arith, le))
some_statements (suc n) left le = ([], [], refl)

whole_law : (n left : ℕ) → Law (left + 3 ≤ n) (expression n left Whole) false expression_kinds goes_whole (ranked rank.Or left)
whole_law n left = subst (λ (r : Reader Expr). Law (left + 3 ≤ n) (expression n left Whole) false expression_kinds goes_whole r) (whole_ranked left) (expression_law n left Whole)

no_statements : {E : Type 0} (r : Reader (List Statement)) → (E → ⊥) → Law E (λ x ms. ⊥) true statement_kinds goes_statements r
no_statements r never = let a = no_law {hs = statement_kinds} {gos = goes_statements} r never in record { reader = a.reader; leads = λ x ms p. absurd p }

pub statements_law : (n left : ℕ) → Law (left + 4 ≤ n) (statements n left) true statement_kinds goes_statements (statements_at left)
unfolding statements_at arguments_level inside_optional inside_items inside_expr
statements_law zero left = no_statements (statements_at left) (λ e. omega (arith, e))
statements_law (suc n) zero =
    many_law goes_statements refl (statement_law {J = expression n zero Whole} {j = refused_at} false
    (braces_law {s = refused_at} false (λ e. no_statements_room e) (λ e. some_statements n zero (omega (arith, e))))
    (weaker_law (λ e. omega (arith, e)) (whole_law n zero)) (λ e. no_room e))
  where
    no_statements_room : {E : Type 0} {S : Rule (List Statement)} {s : Reader (List Statement)} → false ≡ true → Law E S true statement_kinds goes_statements s
    no_statements_room e = absurd cc
statements_law (suc n) (suc left) =
    let less : suc left + 4 ≤ suc n → left + 4 ≤ n = λ e. omega (arith, e) in
    let expr_less : suc left + 4 ≤ suc n → suc left + 3 ≤ n = λ e. omega (arith, e) in
    let inside_less : suc left + 4 ≤ suc n → left + 3 ≤ n = λ e. omega (arith, e) in
    many_law goes_statements refl (statement_law true
    (braces_law true (λ _. weaker_law less (statements_law n left)) (λ e. some_statements n left (omega (arith, e))))
    (weaker_law expr_less (whole_law n (suc left))) (λ _. weaker_law inside_less (expression_law n left Whole)))

-- ---- the whole text

fields_law : {E : Type 0} {K : Rule ValueKind} (left : ℕ) → Law E K false kind_heads [] (kind_level left) → Law E (commas (field K)) false (kind.Name ∷ []) (kind.Comma ∷ []) (fields_level left)
unfolding fields_level field_level
fields_law left kinds' = commas_law (kind.Comma ∷ []) refl refl (mapped_law field_of_parts (then_law name_law (then_law (sign_law kind.Colon refl) kinds')))

abbrev goes_slots : List Kind
goes_slots = kind.Comma ∷ kind.Star ∷ []

slots_law : {E : Type 0} → Law E (commas slot) false (kind.Name ∷ []) goes_slots slots_level
unfolding slots_level slot_level
slots_law =
    commas_law goes_slots refl refl (mapped_law slot_of_parts (then_law name_law (then_law (sign_law kind.Colon refl) (then_law name_law
    (either_law (wider_law (kind.Star ∷ []) refl (mapped_law starred (sign_law kind.Star refl))) (nothing_law false (kind.Star ∷ [])) refl)))))

typedef_law : {E : Type 0} {K : Rule ValueKind} → Law E K false kind_heads [] (kind_level 63) → Law E (typedef K) false (kind.Type ∷ []) [] typedef_level
unfolding typedef_level optional_fields
typedef_law kinds' =
    mapped_law typedef_of (then_law (sign_law kind.Type refl) (then_law name_law (then_law (sign_law kind.Open refl)
    (pair_law (either_law (wider_law stays refl (fields_law 63 kinds')) (nothing_law [] stays) refl) (then_law (sign_law kind.Close refl) (sign_law kind.Semicolon refl)) refl))))
  where
    stays : List Kind
    stays = kind.Name ∷ kind.Comma ∷ []

abbrev goes_head : List Kind
goes_head = kind.Consumes ∷ kind.Reads ∷ kind.Takes ∷ kind.Creates ∷ kind.Returns ∷ kind.Comma ∷ kind.Star ∷ []

head_law : {E : Type 0} {K : Rule ValueKind} → Law E K false kind_heads [] (kind_level 64) → Law E (head K) true (kind.Consumes ∷ kind.Reads ∷ kind.Takes ∷ kind.Creates ∷ kind.Returns ∷ []) goes_head head_level
unfolding head_level slots_section fields_section
head_law kinds' =
    mapped_law method_head_of
    (pair_law (either_law (wider_law (kind.Consumes ∷ goes_slots) refl (mapped_law after_word (then_law (sign_law kind.Consumes refl) slots_law))) (nothing_law [] (kind.Consumes ∷ goes_slots)) refl)
    (pair_law (either_law (wider_law (kind.Reads ∷ goes_slots) refl (mapped_law after_word (then_law (sign_law kind.Reads refl) slots_law))) (nothing_law [] (kind.Reads ∷ goes_slots)) refl)
    (pair_law (either_law (wider_law (kind.Takes ∷ goes_slots) refl (mapped_law after_word (then_law (sign_law kind.Takes refl) (fields_law 64 kinds')))) (nothing_law [] (kind.Takes ∷ goes_slots)) refl)
    (pair_law (either_law (wider_law (kind.Creates ∷ goes_slots) refl (mapped_law after_word (then_law (sign_law kind.Creates refl) slots_law))) (nothing_law [] (kind.Creates ∷ goes_slots)) refl)
    (either_law (wider_law goes_head refl (mapped_law after_word (then_law (sign_law kind.Returns refl) (fields_law 64 kinds')))) (nothing_law [] goes_head) refl)
    refl) refl) refl) refl)

body_law : {E : Type 0} {B : Rule Block} → Law E B false (kind.OpenBlock ∷ []) [] (block_level 63) → Law E (body B) false (kind.OpenBlock ∷ []) [] body_level
unfolding body_level
body_law blocks =
    mapped_law body_of_parts (then_law (sign_law kind.OpenBlock refl) (then_law (sign_law kind.Procedure refl) (then_law blocks (then_law (sign_law kind.Check refl) (then_law blocks (sign_law kind.CloseBlock refl))))))

method_law : {E : Type 0} {K : Rule ValueKind} {B : Rule Block} → Law E K false kind_heads [] (kind_level 64) → Law E B false (kind.OpenBlock ∷ []) [] (block_level 63) → Law E (method K B) false (kind.Method ∷ []) [] method_level
unfolding method_level
method_law kinds' blocks = mapped_law method_of (then_law (sign_law kind.Method refl) (then_law name_law (pair_law (head_law kinds') (body_law blocks) refl)))

block_law : (n : ℕ) → Law (70 ≤ n) (braces (statements n 62) true) false (kind.OpenBlock ∷ []) [] (block_level 63)
unfolding block_level inside_statements
block_law n = braces_law true (λ _. weaker_law (λ e. omega (arith, e)) (statements_law n 62)) (λ e. some_statements n 62 (omega (arith, e)))

pub contract_law : (n : ℕ) → Law (70 ≤ n) (contract n) false (kind.Type ∷ kind.Method ∷ []) (kind.Method ∷ []) contract_level
unfolding contract_level typedefs_level methods_level
contract_law n =
    let methods = method_law (weaker_law (λ e. omega (arith, e)) (kind_level_law n 64)) (block_law n) in
    mapped_law contract_tree_of (pair_law (many_law (kind.Type ∷ []) refl (typedef_law (weaker_law (λ e. omega (arith, e)) (kind_level_law n 63))))
    (mapped_law first_and_others (pair_law methods (many_law (kind.Method ∷ []) refl methods) refl)) refl)
