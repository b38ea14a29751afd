-- Each block that a text spells is spelled by its printed text, within the same limits.
use Rattle.std.proofs.Common.{◌≡◌, ℕ, zero, suc, ◌+◌, ◌≤◌, Bool, true, List, [], ◌∷◌, ◌++◌, map, refl, sym, ap, subst, append_assoc, ◌∙◌, arith}
use Rattle.std.specs.Prelude.{Option, None, Some, codes}
use Rattle.cs_lang_token.specs.declared.token.Text.{Text}
use Rattle.cs_lang_token.specs.declared.kind.Kind.{Kind}
use Rattle.cs_lang_token.specs.declared.kind.Kind.TheVariants as kind
use Rattle.cs_lang_token.specs.Grammar.{Rule, pair, mapped, either, nothing, many}
use Rattle.cs_lang_token.specs.Rules.{sign, name, room_of, less_one, commas}
use Rattle.cs_lang.specs.declared.tree.Expr.{Expr}
use Rattle.cs_lang.specs.declared.tree.Block.{Block}
use Rattle.cs_lang.specs.declared.tree.Statement.{Statement}
use Rattle.cs_lang.specs.Trees.{let_of, set_of, if_of, else_of, Range, Items, Numbers, range_of, numbers_of, for_of, inner, make_of, CallRest, Arguments, Binds, binds_of, names_in_list, call_of, answer_of, block_of}
use Rattle.cs_lang.specs.Rules.{keyword as word_rule, Whole, expression, arguments, if_rule, for_rule, make_rule, call_rule, statement_rule, braces, statements}
use Rattle.cs_lang_print.specs.Words.{word, ending, each_text, behind_comma, with_commas}
use Rattle.cs_lang_print.specs.Expressions.{expr_text}
use Rattle.cs_lang_print.specs.Statements.{name_text, arguments_text, block_until, statements_text, statement_text}
use Rattle.cs_lang_print.specs.Places.{bare_text, bare_expr, bare_block, bare_statement}
use Rattle.cs_lang_token.proofs.Spans.{IsWord}
use Rattle.cs_lang_print.proofs.Actions.{statement_is, statements_are, action_let, action_set, action_if, action_ifelse, action_forin, action_forto, action_make, action_call, action_answer}
use Rattle.cs_lang_print.proofs.Says.{Says, both, no_place, unplaced, says_pair, says_mapped, says_left, says_right, says_nothing, says_same, says_text, says_then_nothing, says_many_none, says_many_more, says_word, says_sign, says_ending, says_name, says_number}
use Rattle.cs_lang_print.proofs.Moves.{if_some}
use Rattle.cs_lang_print.proofs.Acts.{out_statements, move_block, bare_let, move_let, move_set, bare_if, move_if, bare_range, bare_for, move_for, bare_make, move_make, bare_rest, move_names, bare_call, move_call, move_answer}
use Rattle.cs_lang_token.proofs.Gives.{Gives, Every, gives_mapped, gives_pair, gives_either, gives_nothing, gives_many, gives_sign, gives_name, gives_number, gives_row, gives_weaker}
use Rattle.cs_lang_print.proofs.Known.{levels_least}
use Rattle.cs_lang_print.proofs.Exprs.{Good, room_one, says_open, says_close, says_comma, says_row, all_good, expressions_good}

pub says_gate : (k : Kind) (room : Bool) (s : List ℕ) → room ≡ true → Says no_place (sign k true) 0 s → Says no_place (sign k room) 0 s
says_gate k room s is a = subst (λ (b : Bool). Says no_place (sign k b) 0 s) (sym is) a

pub says_semicolon : Says no_place (sign kind.Semicolon true) 0 (ending (codes ";"))
says_semicolon = says_ending kind.Semicolon (codes ";") (omega arith) (λ place rest. refl)

pub says_becomes : Says no_place (sign kind.Becomes true) 0 (word (codes "="))
says_becomes = says_sign kind.Becomes (codes "=") (omega arith) (λ place rest. refl)

-- with levels enough for the recursion
says_whole : (left : ℕ) (e : Expr) → Good 0 left e → (n : ℕ) → left + 2 ≤ n → Says bare_expr (expression n left Whole) e (expr_text e)
says_whole left e g zero le = absurd (omega (arith, le))
says_whole left e g (suc zero) le = absurd (omega (arith, le))
says_whole left e g (suc (suc m)) le =
    let low = levels_least 0 e g.0 in
    let most = g.1 in
    g.2.spelt.says 0 m left (omega arith) (omega (arith, le)) (omega arith)

says_items : (left : ℕ) (es : List Expr) → Every (Good 0 left) es → (n : ℕ) → left + 2 ≤ n → Says (map bare_expr) (either (commas (expression n left Whole)) (nothing [])) es (with_commas expr_text es)
says_items left [] g n le = says_right (says_nothing (map bare_expr) [])
says_items left (e ∷ es) g zero le = absurd (omega (arith, le))
says_items left (e ∷ es) g (suc zero) le = absurd (omega (arith, le))
says_items left (e ∷ es) g (suc (suc m)) le =
    let k = all_good left (e ∷ es) g in
    let most = k.1 in
    says_left (says_row bare_expr (expression (suc (suc m)) left Whole) expr_text (e ∷ es) (omega arith) (k.2 m left (omega (arith, le)) (omega arith)))

says_arguments : (left : ℕ) (es : List Expr) → room_of left ≡ true → Every (Good 0 (less_one left)) es → (n : ℕ) → left + 2 ≤ n → Says (map bare_expr) (arguments (expression n (less_one left) Whole) (room_of left)) es (arguments_text es)
says_arguments left es room g n le =
    let one = room_one left room in
    says_mapped {B = both no_place (both (map bare_expr) no_place)} {x = (0, (es, 0))} (map bare_expr) inner (λ z. refl)
    (says_pair (says_gate kind.Open (room_of left) (word (codes "(")) room says_open) (says_pair (says_items (less_one left) es g n (omega (arith, le))) says_close))

-- the statements of a block, with room for so many levels
abbrev pub StatementsGood : ℕ → List Statement → Type 0
StatementsGood left ss = (n : ℕ) → left + 3 ≤ n → Says (map bare_statement) (statements n left) ss (each_text statement_text ss)

-- a block whose brace closes in either way
abbrev pub BlockGood : ℕ → Block → Type 0
BlockGood left b = (n : ℕ) → left + 2 ≤ n → (closing : List ℕ) → Says no_place (sign kind.CloseBlock true) 0 closing → Says bare_block (braces (statements n (less_one left)) (room_of left)) b (block_until closing (statements_text b))

pub says_closed : Says no_place (sign kind.CloseBlock true) 0 (ending (codes "}"))
says_closed = says_ending kind.CloseBlock (codes "}") (omega arith) (λ place rest. refl)

says_before_else : Says no_place (sign kind.CloseBlock true) 0 (word (codes "}"))
says_before_else = says_sign kind.CloseBlock (codes "}") (omega arith) (λ place rest. refl)

says_block : (left : ℕ) (p : ℕ × (List Statement × ℕ)) → room_of left ≡ true → StatementsGood (less_one left) p.1.0 → BlockGood left (block_of p)
says_block left p room g n le closing close =
    let one = room_one left room in
    says_text (block_until closing (statements_text (block_of p))) (ap (block_until closing) (sym (statements_are (block_of p) ∙ ap (each_text statement_text) (out_statements p))))
    (says_same (block_of p) (move_block (0, (p.1.0, 0)) ∙ sym (move_block p))
    (says_mapped {B = both no_place (both (map bare_statement) no_place)} {x = (0, (p.1.0, 0))} bare_block block_of move_block
    (says_pair (says_gate kind.OpenBlock (room_of left) (ending (codes "{")) room (says_ending kind.OpenBlock (codes "{") (omega arith) (λ place rest. refl)))
    (says_pair (g n (omega (arith, le))) close))))

abbrev StatementGood : ℕ → Statement → Type 0
StatementGood left s = (n : ℕ) → left + 2 ≤ n → Says bare_statement (statement_rule (braces (statements n (less_one left)) (room_of left)) (expression n left Whole) (expression n (less_one left) Whole) (room_of left)) s (statement_text s)

call_text : (n ns m a : List ℕ) → word (codes "call") ++ (n ++ ((ns ++ (word (codes "=") ++ (m ++ a))) ++ ending (codes ";"))) ≡ word (codes "call") ++ (((n ++ ns) ++ word (codes "=")) ++ (m ++ (a ++ ending (codes ";"))))
call_text n ns m a = simp append_assoc

comma_names : List Text → List (ℕ × Text)
comma_names [] = []
comma_names (n ∷ ns) = (0, n) ∷ comma_names ns

names_back : (ns : List Text) → names_in_list (comma_names ns) ≡ ns
unfolding comma_names
names_back [] = refl
names_back (n ∷ ns) = ap (λ (l : List Text). n ∷ l) (names_back ns)

says_names : (ns : List Text) → Every (λ (t : Text). IsWord t.bytes kind.Name) ns → Says (map (both no_place bare_text)) (many (pair (word_rule kind.Comma) name)) (comma_names ns) (each_text (behind_comma name_text) ns)
unfolding comma_names
says_names [] h = says_many_none (map (both no_place bare_text))
says_names (n ∷ ns) h = says_many_more (says_pair says_comma (says_name n h.0)) (says_names ns h.1)

named_each : (ps : List (ℕ × Text)) → Every (λ (p : ℕ × Text). (true ≡ true) × IsWord p.1.bytes kind.Name) ps → Every (λ (t : Text). IsWord t.bytes kind.Name) (names_in_list ps)
named_each [] h = tt
named_each (p ∷ ps) h = (h.0.1, named_each ps h.1)

module _ (left : ℕ) (E F : Rule Expr) (B : Rule Block) (whole : Gives E (Good 0 left)) (inside : Gives F (Good 0 (less_one left))) (block : Gives B (BlockGood left)) where
  abbrev Shut : List Expr → Type 0
  Shut es = (room_of left ≡ true) × Every (Good 0 (less_one left)) es

  arguments_good : Gives (arguments F (room_of left)) Shut
  arguments_good = gives_mapped Shut inner (gives_pair (gives_sign kind.Open (room_of left)) (gives_pair (gives_either (gives_weaker (Every (Good 0 (less_one left))) (λ es h. h.1) (gives_row inside)) (gives_nothing [] tt)) (gives_sign kind.Close true))) (λ p h. (h.0, h.1.0))

  let_good : Gives (mapped let_of (pair (word_rule kind.Let) (pair name (pair (word_rule kind.Becomes) (pair E (word_rule kind.Semicolon)))))) (StatementGood left)
  let_good = gives_mapped (StatementGood left) let_of (gives_pair (gives_sign kind.Let true) (gives_pair gives_name (gives_pair (gives_sign kind.Becomes true) (gives_pair whole (gives_sign kind.Semicolon true))))) (λ p h n le.
      says_text (statement_text (let_of p)) (sym (statement_is (let_of p) ∙ action_let p.1.0 p.1.1.1.0)) (says_left (says_same (let_of p) (move_let (0, (p.1.0, (0, (p.1.1.1.0, 0)))) ∙ sym (move_let p))
      (says_mapped {B = bare_let} {x = (0, (p.1.0, (0, (p.1.1.1.0, 0))))} bare_statement let_of move_let
      (says_pair (says_word kind.Let (codes "let") (record { letter = refl; all = refl; short = omega arith; kind = refl })) (says_pair (says_name p.1.0 h.1.0) (says_pair says_becomes (says_pair (says_whole left p.1.1.1.0 h.1.1.1.0 n le) says_semicolon))))))))

  set_good : Gives (mapped set_of (pair (word_rule kind.Set) (pair name (pair (word_rule kind.Becomes) (pair E (word_rule kind.Semicolon)))))) (StatementGood left)
  set_good = gives_mapped (StatementGood left) set_of (gives_pair (gives_sign kind.Set true) (gives_pair gives_name (gives_pair (gives_sign kind.Becomes true) (gives_pair whole (gives_sign kind.Semicolon true))))) (λ p h n le.
      says_text (statement_text (set_of p)) (sym (statement_is (set_of p) ∙ action_set p.1.0 p.1.1.1.0)) (says_right (says_left (says_same (set_of p) (move_set (0, (p.1.0, (0, (p.1.1.1.0, 0)))) ∙ sym (move_set p))
      (says_mapped {B = bare_let} {x = (0, (p.1.0, (0, (p.1.1.1.0, 0))))} bare_statement set_of move_set
      (says_pair (says_word kind.Set (codes "set") (record { letter = refl; all = refl; short = omega arith; kind = refl })) (says_pair (says_name p.1.0 h.1.0) (says_pair says_becomes (says_pair (says_whole left p.1.1.1.0 h.1.1.1.0 n le) says_semicolon)))))))))

  abbrev ElseGood : Option Block → Type 0
  ElseGood None = Unit {0}
  ElseGood (Some b) = BlockGood left b

  says_if : Says no_place (sign kind.If true) 0 (word (codes "if"))
  says_if = says_word kind.If (codes "if") (record { letter = refl; all = refl; short = omega arith; kind = refl })

  if_says : (place : ℕ) (e : Expr) (b : Block) (other : Option Block) → Good 0 left e → BlockGood left b → ElseGood other → StatementGood left (if_of (place, (e, (b, other))))
  if_says place e b None g h o n le =
      let R = braces (statements n (less_one left)) (room_of left) in
      says_text (statement_text (if_of (place, (e, (b, None))))) (sym (statement_is (if_of (place, (e, (b, None)))) ∙ action_if e b)) (says_right (says_right (says_left (says_same (if_of (place, (e, (b, None)))) (move_if (0, (e, (b, None))) ∙ sym (move_if (place, (e, (b, None)))))
      (says_mapped {B = bare_if} {x = (0, (e, (b, None)))} bare_statement if_of move_if
      (says_pair says_if (says_pair (says_whole left e g n le)
      (says_then_nothing (if_some bare_block) (either (mapped else_of (pair (word_rule kind.Else) R)) (nothing None)) None (says_right (says_nothing (if_some bare_block) None)) (h n le (ending (codes "}")) says_closed)))))))))
  if_says place e b (Some other) g h o n le =
      says_text (statement_text (if_of (place, (e, (b, Some other))))) (sym (statement_is (if_of (place, (e, (b, Some other)))) ∙ action_ifelse e b other)) (says_right (says_right (says_left (says_same (if_of (place, (e, (b, Some other)))) (move_if (0, (e, (b, Some other))) ∙ sym (move_if (place, (e, (b, Some other)))))
      (says_mapped {B = bare_if} {x = (0, (e, (b, Some other)))} bare_statement if_of move_if
      (says_pair says_if (says_pair (says_whole left e g n le) (says_pair (h n le (word (codes "}")) says_before_else)
      (says_left (says_mapped {B = both no_place bare_block} {x = (0, other)} (if_some bare_block) else_of (λ z. refl)
      (says_pair (says_word kind.Else (codes "else") (record { letter = refl; all = refl; short = omega arith; kind = refl })) (o n le (ending (codes "}")) says_closed))))))))))))

  if_good : Gives (if_rule E B) (StatementGood left)
  if_good = gives_mapped (StatementGood left) if_of (gives_pair (gives_sign kind.If true) (gives_pair whole (gives_pair block (gives_either (gives_mapped ElseGood else_of (gives_pair (gives_sign kind.Else true) block) (λ p h. h.1)) (gives_nothing None tt)))))
      (λ p h. if_says p.0 p.1.0 p.1.1.0 p.1.1.1 h.1.0 h.1.1.0 h.1.1.1)

  abbrev RangeGood : Range → Type 0
  RangeGood (Items e) = Good 0 left e
  RangeGood (Numbers n) = n ≤ 9223372036854775807

  says_for : Says no_place (sign kind.For true) 0 (word (codes "for"))
  says_for = says_word kind.For (codes "for") (record { letter = refl; all = refl; short = omega arith; kind = refl })

  for_says : (place : ℕ) (name' : Text) (r : Range) (b : Block) → IsWord name'.bytes kind.Name → RangeGood r → BlockGood left b → StatementGood left (for_of (place, (name', (r, b))))
  for_says place name' (Items e) b is g h n le =
      says_text (statement_text (for_of (place, (name', (Items e, b))))) (sym (statement_is (for_of (place, (name', (Items e, b)))) ∙ action_forin name' e b)) (says_right (says_right (says_right (says_left (says_same (for_of (place, (name', (Items e, b)))) (move_for (0, (name', (Items e, b))) ∙ sym (move_for (place, (name', (Items e, b)))))
      (says_mapped {B = bare_for} {x = (0, (name', (Items e, b)))} bare_statement for_of move_for
      (says_pair says_for (says_pair (says_name name' is) (says_pair
      (says_left (says_mapped {B = both no_place bare_expr} {x = (0, e)} bare_range range_of (λ z. refl) (says_pair (says_word kind.In (codes "in") (record { letter = refl; all = refl; short = omega arith; kind = refl })) (says_whole left e g n le))))
      (h n le (ending (codes "}")) says_closed))))))))))
  for_says place name' (Numbers k) b is g h n le =
      says_text (statement_text (for_of (place, (name', (Numbers k, b))))) (sym (statement_is (for_of (place, (name', (Numbers k, b)))) ∙ action_forto name' k b)) (says_right (says_right (says_right (says_left (says_same (for_of (place, (name', (Numbers k, b)))) (move_for (0, (name', (Numbers k, b))) ∙ sym (move_for (place, (name', (Numbers k, b)))))
      (says_mapped {B = bare_for} {x = (0, (name', (Numbers k, b)))} bare_statement for_of move_for
      (says_pair says_for (says_pair (says_name name' is) (says_pair
      (says_right (says_mapped {B = both no_place unplaced} {x = (0, record { value = k; place = 0 })} bare_range numbers_of (λ z. refl) (says_pair (says_word kind.To (codes "to") (record { letter = refl; all = refl; short = omega arith; kind = refl })) (says_number (record { value = k; place = 0 }) g))))
      (h n le (ending (codes "}")) says_closed))))))))))

  for_good : Gives (for_rule E B) (StatementGood left)
  for_good = gives_mapped (StatementGood left) for_of (gives_pair (gives_sign kind.For true) (gives_pair gives_name (gives_pair (gives_either (gives_mapped RangeGood range_of (gives_pair (gives_sign kind.In true) whole) (λ p h. h.1)) (gives_mapped RangeGood numbers_of (gives_pair (gives_sign kind.To true) gives_number) (λ p h. h.1))) block)))
      (λ p h. for_says p.0 p.1.0 p.1.1.0 p.1.1.1 h.1.0 h.1.1.0 h.1.1.1)

  make_good : Gives (make_rule F (room_of left)) (StatementGood left)
  make_good = gives_mapped (StatementGood left) make_of (gives_pair (gives_sign kind.Make true) (gives_pair gives_name (gives_pair (gives_sign kind.Becomes true) (gives_pair gives_name (gives_pair arguments_good (gives_sign kind.Semicolon true)))))) (λ p h n le.
      says_text (statement_text (make_of p)) (sym (statement_is (make_of p) ∙ action_make p.1.0 p.1.1.1.0 p.1.1.1.1.0)) (says_right (says_right (says_right (says_right (says_left (says_same (make_of p) (move_make (0, (p.1.0, (0, (p.1.1.1.0, (p.1.1.1.1.0, 0))))) ∙ sym (move_make p))
      (says_mapped {B = bare_make} {x = (0, (p.1.0, (0, (p.1.1.1.0, (p.1.1.1.1.0, 0)))))} bare_statement make_of move_make
      (says_pair (says_word kind.Make (codes "make") (record { letter = refl; all = refl; short = omega arith; kind = refl })) (says_pair (says_name p.1.0 h.1.0) (says_pair says_becomes (says_pair (says_name p.1.1.1.0 h.1.1.1.0)
      (says_pair (says_arguments left p.1.1.1.1.0 h.1.1.1.1.0.0 h.1.1.1.1.0.1 n le) says_semicolon)))))))))))))

  abbrev RestGood : CallRest → Type 0
  RestGood (Arguments es) = Shut es
  RestGood (Binds names method es) = Every (λ (t : Text). IsWord t.bytes kind.Name) names × IsWord method.bytes kind.Name × Shut es

  says_call : Says no_place (sign kind.Call true) 0 (word (codes "call"))
  says_call = says_word kind.Call (codes "call") (record { letter = refl; all = refl; short = omega arith; kind = refl })

  call_says : (place : ℕ) (name' : Text) (r : CallRest) (end : ℕ) → IsWord name'.bytes kind.Name → RestGood r → StatementGood left (call_of (place, (name', (r, end))))
  call_says place name' (Arguments es) end is g n le =
      says_text (statement_text (call_of (place, (name', (Arguments es, end))))) (sym (statement_is (call_of (place, (name', (Arguments es, end)))) ∙ action_call [] name' es)) (says_right (says_right (says_right (says_right (says_right (says_left (says_same (call_of (place, (name', (Arguments es, end)))) (move_call (0, (name', (Arguments es, 0))) ∙ sym (move_call (place, (name', (Arguments es, end)))))
      (says_mapped {B = bare_call} {x = (0, (name', (Arguments es, 0)))} bare_statement call_of move_call
      (says_pair says_call (says_pair (says_name name' is) (says_pair (says_left (says_mapped {B = map bare_expr} {x = es} bare_rest Arguments (λ z. refl) (says_arguments left es g.0 g.1 n le))) says_semicolon)))))))))))
  call_says place name' (Binds names method es) end is g n le =
      says_text (statement_text (call_of (place, (name', (Binds names method es, end)))))
      (call_text (name_text name') (each_text (behind_comma name_text) names) (name_text method) (arguments_text es) ∙ sym (statement_is (call_of (place, (name', (Binds names method es, end)))) ∙ action_call (name' ∷ names) method es))
      (says_right (says_right (says_right (says_right (says_right (says_left (says_same (call_of (place, (name', (Binds names method es, end)))) (move_call (0, (name', (Binds names method es, 0))) ∙ sym (move_call (place, (name', (Binds names method es, end)))))
      (says_mapped {B = bare_call} {x = (0, (name', (Binds names method es, 0)))} bare_statement call_of move_call
      (says_pair says_call (says_pair (says_name name' is) (says_pair
      (says_right (says_mapped {B = both (map bare_text) (both no_place (both bare_text (map bare_expr)))} {x = (names, (0, (method, es)))} bare_rest binds_of (λ z. refl)
      (says_pair (says_same names (ap (map bare_text) (names_back names)) (says_mapped {B = map (both no_place bare_text)} {x = comma_names names} (map bare_text) names_in_list move_names (says_names names g.0)))
      (says_pair says_becomes (says_pair (says_name method g.1) (says_arguments left es g.2.0 g.2.1 n le))))))
      says_semicolon)))))))))))

  call_good : Gives (call_rule F (room_of left)) (StatementGood left)
  call_good = gives_mapped (StatementGood left) call_of (gives_pair (gives_sign kind.Call true) (gives_pair gives_name (gives_pair
      (gives_either (gives_mapped RestGood Arguments arguments_good (λ es h. h))
      (gives_mapped RestGood binds_of (gives_pair (gives_mapped (Every (λ (t : Text). IsWord t.bytes kind.Name)) names_in_list (gives_many (gives_pair (gives_sign kind.Comma true) gives_name)) named_each) (gives_pair (gives_sign kind.Becomes true) (gives_pair gives_name arguments_good))) (λ p h. (h.0, h.1.1.0, h.1.1.1))))
      (gives_sign kind.Semicolon true)))) (λ p h. call_says p.0 p.1.0 p.1.1.0 p.1.1.1 h.1.0 h.1.1.0)

  answer_good : Gives (mapped answer_of (pair (word_rule kind.Answer) (pair E (word_rule kind.Semicolon)))) (StatementGood left)
  answer_good = gives_mapped (StatementGood left) answer_of (gives_pair (gives_sign kind.Answer true) (gives_pair whole (gives_sign kind.Semicolon true))) (λ p h n le.
      says_text (statement_text (answer_of p)) (sym (statement_is (answer_of p) ∙ action_answer p.1.0)) (says_right (says_right (says_right (says_right (says_right (says_right (says_same (answer_of p) (move_answer (0, (p.1.0, 0)) ∙ sym (move_answer p))
      (says_mapped {B = both no_place (both bare_expr no_place)} {x = (0, (p.1.0, 0))} bare_statement answer_of move_answer
      (says_pair (says_word kind.Answer (codes "answer") (record { letter = refl; all = refl; short = omega arith; kind = refl })) (says_pair (says_whole left p.1.0 h.1.0 n le) says_semicolon)))))))))))

  pub statement_good : Gives (statement_rule B E F (room_of left)) (StatementGood left)
  statement_good = gives_either let_good (gives_either set_good (gives_either if_good (gives_either for_good (gives_either make_good (gives_either call_good answer_good)))))

says_all : (left : ℕ) (ss : List Statement) → Every (StatementGood left) ss → StatementsGood left ss
says_all left ss g zero le = absurd (omega (arith, le))
says_all left [] g (suc n) le = says_many_none (map bare_statement)
says_all left (s ∷ ss) g (suc n) le = says_many_more (g.0 n (omega (arith, le))) (says_all left ss g.1 (suc n) le)

pub braces_good : (left : ℕ) (S : Rule (List Statement)) → Gives S (StatementsGood (less_one left)) → Gives (braces S (room_of left)) (BlockGood left)
braces_good left S g = gives_mapped (BlockGood left) block_of (gives_pair (gives_sign kind.OpenBlock (room_of left)) (gives_pair g (gives_sign kind.CloseBlock true))) (λ p h. says_block left p h.0 h.1.0)

pub statements_good : (n left : ℕ) → Gives (statements n left) (StatementsGood left)
statements_good zero left = record { give = λ x ms p w t. absurd p }
statements_good (suc n) left =
    gives_weaker (StatementsGood left) (λ ss h. says_all left ss h)
    (gives_many (statement_good left (expression n left Whole) (expression n (less_one left) Whole) (braces (statements n (less_one left)) (room_of left)) (expressions_good n left Whole) (expressions_good n (less_one left) Whole) (braces_good left (statements n (less_one left)) (statements_good n (less_one left)))))
