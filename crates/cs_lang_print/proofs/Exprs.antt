-- Each expression that a text spells is spelled by its printed text, within the same limits.
use Rattle.std.proofs.Common.{◌≡◌, ℕ, zero, suc, ◌<◌, ◌≤◌, true, false, max, List, [], ◌∷◌, ◌++◌, length, map, refl, sym, ap, append_assoc, ◌∙◌, arith}
use Rattle.std.proofs.lemmas.List.{append-nil}
use Rattle.std.specs.Prelude.{Option, None, Some, codes}
use Rattle.std.specs.Fmt.{decimal}
use Rattle.cs_lang_token.specs.declared.kind.Kind.{Kind}
use Rattle.cs_lang_token.specs.declared.kind.Kind.TheVariants as kind
use Rattle.cs_lang_token.specs.Grammar.{Rule, pair, mapped, many, links}
use Rattle.cs_lang_token.specs.Rules.{sign, name, bytes, number, room_of, less_one, joined_left, joined_pair, item_behind, first_and_rest, commas}
use Rattle.cs_lang.specs.declared.tree.ValueKind.{ValueKind}
use Rattle.cs_lang.specs.declared.tree.ValueKind.TheVariants as value_kind
use Rattle.cs_lang.specs.declared.tree.Rank.{Rank}
use Rattle.cs_lang.specs.declared.tree.Rank.TheVariants as rank
use Rattle.cs_lang.specs.declared.tree.Operator.{Operator}
use Rattle.cs_lang.specs.declared.tree.Operator.TheVariants as operator
use Rattle.cs_lang.specs.declared.tree.Comparison.{Comparison}
use Rattle.cs_lang.specs.declared.tree.Comparison.TheVariants as comparison
use Rattle.cs_lang.specs.declared.tree.Expr.{Expr}
use Rattle.cs_lang.specs.declared.tree.Access.{Access}
use Rattle.cs_lang.specs.declared.tree.Access.TheVariants as access
use Rattle.cs_lang.specs.Trees.{shape_is_chain, is_chain, with_link, shape_is_path, is_path, with_step, field_step, index_step, number_expr, bytes_expr, name_expr, truth_expr, grouped, listed, empty_expr, len_expr, sha256_expr, concat_expr, called_expr, depint_expr, negative_expr, not_expr, operation, comparing, compared_expr, plain_kind, list_value_kind}
use Rattle.cs_lang.specs.Rules.{keyword as word_rule, kinds, in_parentheses as parenthesized, group, bracket, concat, called, depint, primary, access as access_rule, post, operators, chain, signed, comparisons, comparison_rule, Part as Whose, Whole, Negated, Signed, product, no, rule_of, expression}
use Rattle.cs_lang_print.specs.Words.{word, quoted, each_text, behind_comma, with_commas, operator_text, comparison_text}
use Rattle.cs_lang_print.specs.Spelling.{Spelled, tightness_of, operand_tightness}
use Rattle.cs_lang_print.specs.Expressions.{spelled, kind_text, access_text, expr_text}
use Rattle.cs_lang_print.specs.Places.{bare_text, bare_expr}
use Rattle.cs_lang_print.proofs.KindTexts.{kind_int, kind_bool, kind_bytes, kind_list}
use Rattle.cs_lang_print.proofs.Layers.{tightness_number, tightness_bytes, tightness_truth, tightness_name, tightness_list, tightness_empty, tightness_len, tightness_sha256, tightness_concat, tightness_called, tightness_depint, tightness_not, tightness_negative, tightness_compared, text_number, text_bytes, text_truth, text_name, text_list, text_empty, text_len, text_sha256, text_concat, text_called, text_depint, text_not, text_negative, text_compared, access_field, access_index}
use Rattle.cs_lang_print.proofs.Says.{Says, both, no_place, unplaced, says_pair, says_mapped, says_left, says_right, says_same, says_text, says_many_none, says_many_more, says_word, says_sign, says_name, says_number, says_bytes}
use Rattle.cs_lang.proofs.Opened.{out_number, out_bytes, out_truth, out_name, out_list, out_empty, out_len, out_sha256, out_concat, out_called, out_depint, out_not, out_negative, out_compared}
use Rattle.cs_lang_print.proofs.Moves.{bare_item, bare_way, same_as, if_some, move_number, move_bytes, move_name, move_truth, move_listed, move_empty, move_len, move_sha256, move_concat, move_called, move_depint, move_negative, move_not, move_compared, move_field, move_index, move_all, move_link, move_step}
use Rattle.cs_lang.proofs.Chains.{Item}
use Rattle.cs_lang_print.proofs.Rungs.{at8, at6, at2, at0, rule_at, bare_side}
use Rattle.cs_lang_token.proofs.Gives.{Gives, Every, gives_mapped, gives_pair, gives_either, gives_nothing, gives_links, gives_sign, gives_name, gives_number, gives_bytes, gives_row, gives_weaker}
use Rattle.cs_lang_print.proofs.Known.{levels_within, spelt_at, opened, says_within, levels_most, levels_least, levels_tight, levels_down, IsItem, grown}
use Rattle.cs_lang_print.proofs.Sorts.{chain_link, chain_text, ChainBuilt, chain_add, chain_new, chain_is, path_link, path_text, PathBuilt, path_add, path_new, path_is, Known, known_plain, known_chain, known_path, known_grouped}

-- It is spelled by its printed text, which where it has to hold together so tightly opens no more levels than are left.
abbrev pub Good : ℕ → ℕ → Expr → Type 0
Good t left e = (l : ℕ) × (levels_within t e l ≤ left) × Known e l

abbrev pub KindGood : ℕ → ValueKind → Type 0
KindGood left k = (l : ℕ) × (l ≤ left) × ((n rest : ℕ) → l ≤ n → l ≤ rest → Says same_as (kinds (suc n) rest) k (kind_text k))

pub room_one : (left : ℕ) → room_of left ≡ true → suc (less_one left) ≤ left
room_one zero e = absurd cc
room_one (suc left) e = omega arith

pub says_open : Says no_place (sign kind.Open true) 0 (word (codes "("))
says_open = says_sign kind.Open (codes "(") (omega arith) (λ place rest. refl)

pub says_close : Says no_place (sign kind.Close true) 0 (word (codes ")"))
says_close = says_sign kind.Close (codes ")") (omega arith) (λ place rest. refl)

pub says_open_list : Says no_place (sign kind.OpenList true) 0 (word (codes "["))
says_open_list = says_sign kind.OpenList (codes "[") (omega arith) (λ place rest. refl)

pub says_close_list : Says no_place (sign kind.CloseList true) 0 (word (codes "]"))
says_close_list = says_sign kind.CloseList (codes "]") (omega arith) (λ place rest. refl)

pub says_comma : Says no_place (sign kind.Comma true) 0 (word (codes ","))
says_comma = says_sign kind.Comma (codes ",") (omega arith) (λ place rest. refl)

-- ---- kinds

plain_good : (k : ValueKind) (left : ℕ) → ((n rest : ℕ) → Says same_as (kinds (suc n) rest) k (kind_text k)) → KindGood left k
plain_good k left says = (0, omega arith, λ n rest a b. says n rest)

pub kinds_good : (n left : ℕ) → Gives (kinds n left) (KindGood left)
kinds_good zero left = record { give = λ x ms p w t. absurd p }
kinds_good (suc n) left =
    gives_either (gives_mapped (KindGood left) (plain_kind value_kind.Int) (gives_sign kind.IntKind true) (λ x h. plain_good value_kind.Int left (λ m rest.
    says_text (kind_text value_kind.Int) (sym kind_int) (says_left (says_mapped {B = no_place} same_as (plain_kind value_kind.Int) (λ z. refl) (says_word kind.IntKind (codes "int") (record { letter = refl; all = refl; short = omega arith; kind = refl })))))))
    (gives_either (gives_mapped (KindGood left) (plain_kind value_kind.Bool) (gives_sign kind.BoolKind true) (λ x h. plain_good value_kind.Bool left (λ m rest.
    says_text (kind_text value_kind.Bool) (sym kind_bool) (says_right (says_left (says_mapped {B = no_place} same_as (plain_kind value_kind.Bool) (λ z. refl) (says_word kind.BoolKind (codes "bool") (record { letter = refl; all = refl; short = omega arith; kind = refl }))))))))
    (gives_either (gives_mapped (KindGood left) (plain_kind value_kind.Bytes) (gives_sign kind.BytesKind true) (λ x h. plain_good value_kind.Bytes left (λ m rest.
    says_text (kind_text value_kind.Bytes) (sym kind_bytes) (says_right (says_right (says_left (says_mapped {B = no_place} same_as (plain_kind value_kind.Bytes) (λ z. refl) (says_word kind.BytesKind (codes "bytes") (record { letter = refl; all = refl; short = omega arith; kind = refl })))))))))
    (gives_mapped (KindGood left) list_value_kind (gives_pair (gives_sign kind.OpenList (room_of left)) (gives_pair (kinds_good n (less_one left)) (gives_sign kind.CloseList true))) (λ p h.
    let l = h.1.0.0 in
    let le = h.1.0.1 in
    let one = room_one left h.0 in (
      suc l,
      omega arith,
      λ m rest a b. opened (λ m rest. Says same_as (kinds (suc m) rest) (list_value_kind p) (kind_text (list_value_kind p))) h.1.0.0
          (λ m rest a b. says_text (kind_text (list_value_kind p)) (sym (kind_list p.1.0)) (says_right (says_right (says_right
          (says_mapped {B = both no_place (both same_as no_place)} {x = (0, (p.1.0, 0))} same_as list_value_kind (λ z. refl) (says_pair says_open_list (says_pair (h.1.0.2 m rest a b) says_close_list)))))))
          m rest a b,
    )))))

-- ---- rows

rows_of : {X : Type 0} (x : X) (xs : List X) (acc : List X) → joined_left item_behind acc (map (λ (y : X). (0, y)) xs) ≡ acc ++ xs
rows_of x [] acc = sym (append-nil acc)
rows_of x (y ∷ xs) acc = rows_of x xs (acc ++ y ∷ []) ∙ append_assoc acc (y ∷ []) xs

says_others : {X : Type 0} (B : X → X) (R : Rule X) (text : X → List ℕ) (xs : List X) → Every (λ (x : X). Says B R x (text x)) xs → Says (map (both no_place B)) (many (pair (sign kind.Comma true) R)) (map (λ (y : X). (0, y)) xs) (each_text (behind_comma text) xs)
says_others B R text [] h = says_many_none (map (both no_place B))
says_others B R text (x ∷ xs) h = says_many_more (says_pair says_comma h.0) (says_others B R text xs h.1)

pub says_row : {X : Type 0} (B : X → X) (R : Rule X) (text : X → List ℕ) (xs : List X) → 1 ≤ length xs → Every (λ (x : X). Says B R x (text x)) xs → Says (map B) (commas R) xs (with_commas text xs)
says_row B R text [] some h = absurd (omega (arith, some))
says_row {X} B R text (x ∷ xs) some h =
    says_same (x ∷ xs) (ap (map B) (rows_of x xs (x ∷ [])))
    (says_mapped {B = both B (map (both no_place B))} {x = (x, map (λ (y : X). (0, y)) xs)} (map B) first_and_rest (move_all B) (says_pair h.0 (says_others B R text xs h.1)))

-- the levels of all of them
pub all_good : (m : ℕ) (xs : List Expr) → Every (Good 0 m) xs → (l : ℕ) × (l ≤ m) × ((n rest : ℕ) → l ≤ n → l ≤ rest → Every (λ (e : Expr). Says bare_expr (at0 n rest) e (expr_text e)) xs)
all_good m [] h = (0, omega arith, λ n rest a b. tt)
all_good m (x ∷ xs) h =
    let k = all_good m xs h.1 in
    let l = h.0.0 in
    let low = levels_least 0 x h.0.0 in
    let le = h.0.1 in
    let others = k.1 in
    (max h.0.0 k.0, omega arith, λ n rest a b. (h.0.2.spelt.says 0 n rest (omega arith) (omega (arith, a)) (omega (arith, b)), k.2 n rest (omega (arith, a)) (omega (arith, b))))

-- ---- primary expressions

primary_good : (left : ℕ) (e : Expr) (l : ℕ) (s : List ℕ) → (spelled e).tightness ≡ 8 → (spelled e).text ≡ s → l ≤ left → ((n rest : ℕ) → l ≤ n → l ≤ rest → Says bare_expr (at8 n rest) e s) → ((r : Rank) → is_chain r e ≡ false) → is_path e ≡ false → Good 8 left e
primary_good left e l s tight text le says no_chain no_path =
    let same : levels_within 8 e l ≡ l = levels_tight 8 e l 8 tight (omega arith) in
    (l, omega arith, known_plain e l (spelt_at e l 8 tight (λ n rest a b. says_text (spelled e).text (sym text) (says n rest a b))) no_chain no_path)

module _ (left : ℕ) (I : Whose → Rule Expr) (K : Rule ValueKind) (whole : Gives (I Whole) (Good 0 (less_one left))) (negated : Gives (I Negated) (Good 2 (less_one left))) (sign_of : Gives (I Signed) (Good 6 (less_one left))) (kinds' : Gives K (KindGood left)) where
  within_one : (t : ℕ) (e : Expr) (l : ℕ) → levels_within t e l ≤ less_one left → room_of left ≡ true → suc l ≤ left
  within_one t e l le room = (let one = room_one left room in let low = levels_least t e l in omega arith)

  group_good : Gives (group (I Whole) (room_of left)) (Good 8 left)
  group_good = gives_mapped (Good 8 left) grouped (gives_pair (gives_sign kind.Open (room_of left)) (gives_pair whole (gives_sign kind.Close true))) (λ p h.
      let l = h.1.0.0 in
      let less = within_one 0 p.1.0 h.1.0.0 h.1.0.1 h.0 in
      let most = levels_most 8 (grouped p) h.1.0.0 in
      (h.1.0.0, omega arith, known_grouped p h.1.0.0 h.1.0.2))

  bracket_good : Gives (bracket (I Whole) (room_of left)) (Good 8 left)
  bracket_good = gives_mapped (Good 8 left) listed (gives_pair (gives_sign kind.OpenList (room_of left)) (gives_pair (gives_row whole) (gives_sign kind.CloseList true))) (λ p h.
      let k = all_good (less_one left) p.1.0 h.1.0.1 in
      let one = room_one left h.0 in
      let le = k.1 in
      primary_good left (listed p) (suc k.0) (word (codes "[") ++ (with_commas expr_text p.1.0 ++ word (codes "]"))) (tightness_list (listed p) p.1.0 refl) (text_list (listed p) p.1.0 refl) (omega arith)
      (opened (λ n rest. Says bare_expr (at8 n rest) (listed p) (word (codes "[") ++ (with_commas expr_text p.1.0 ++ word (codes "]")))) k.0 (λ n rest a b.
      says_right (says_left (says_same (listed p) (move_listed (0, (p.1.0, 0)) ∙ sym (move_listed p))
      (says_mapped {B = both no_place (both (map bare_expr) no_place)} {x = (0, (p.1.0, 0))} bare_expr listed move_listed (says_pair says_open_list (says_pair (says_row bare_expr (at0 n rest) expr_text p.1.0 h.1.0.0 (k.2 n rest a b)) says_close_list)))))))
      (λ r. ap (shape_is_chain r) (out_list p.1.0)) (ap shape_is_path (out_list p.1.0)))

  number_good : Gives (mapped number_expr number) (Good 8 left)
  number_good = gives_mapped (Good 8 left) number_expr gives_number (λ n small.
      primary_good left (number_expr n) 0 (word (decimal n.value)) (tightness_number (number_expr n) n.value refl) (text_number (number_expr n) n.value refl) (omega arith)
      (λ m rest a b. says_right (says_right (says_left (says_mapped {B = unplaced} bare_expr number_expr move_number (says_number n small)))))
      (λ r. ap (shape_is_chain r) (out_number n.value)) (ap shape_is_path (out_number n.value)))

  bytes_good : Gives (mapped bytes_expr bytes) (Good 8 left)
  bytes_good = gives_mapped (Good 8 left) bytes_expr gives_bytes (λ t h.
      primary_good left (bytes_expr t) 0 (quoted t.bytes) (tightness_bytes (bytes_expr t) t.bytes refl) (text_bytes (bytes_expr t) t.bytes refl) (omega arith)
      (λ m rest a b. says_right (says_right (says_right (says_left (says_mapped {B = bare_text} bare_expr bytes_expr move_bytes (says_bytes t h.0 h.1))))))
      (λ r. ap (shape_is_chain r) (out_bytes t.bytes)) (ap shape_is_path (out_bytes t.bytes)))

  name_good : Gives (mapped name_expr name) (Good 8 left)
  name_good = gives_mapped (Good 8 left) name_expr gives_name (λ t is.
      primary_good left (name_expr t) 0 (word t.bytes) (tightness_name (name_expr t) t.bytes refl) (text_name (name_expr t) t.bytes refl) (omega arith)
      (λ m rest a b. says_right (says_right (says_right (says_right (says_left (says_mapped {B = bare_text} bare_expr name_expr move_name (says_name t is)))))))
      (λ r. ap (shape_is_chain r) (out_name t.bytes)) (ap shape_is_path (out_name t.bytes)))

  true_good : Gives (mapped (truth_expr true) (word_rule kind.True)) (Good 8 left)
  true_good = gives_mapped (Good 8 left) (truth_expr true) (gives_sign kind.True true) (λ place h.
      primary_good left (truth_expr true place) 0 (word (codes "true")) (tightness_truth (truth_expr true place) true refl) (text_truth (truth_expr true place) true refl) (omega arith)
      (λ m rest a b. says_right (says_right (says_right (says_right (says_right (says_left (says_same (truth_expr true place) (move_truth true 0 ∙ sym (move_truth true place))
      (says_mapped {B = no_place} {x = 0} bare_expr (truth_expr true) (move_truth true) (says_word kind.True (codes "true") (record { letter = refl; all = refl; short = omega arith; kind = refl }))))))))))
      (λ r. ap (shape_is_chain r) (out_truth true)) (ap shape_is_path (out_truth true)))

  false_good : Gives (mapped (truth_expr false) (word_rule kind.False)) (Good 8 left)
  false_good = gives_mapped (Good 8 left) (truth_expr false) (gives_sign kind.False true) (λ place h.
      primary_good left (truth_expr false place) 0 (word (codes "false")) (tightness_truth (truth_expr false place) false refl) (text_truth (truth_expr false place) false refl) (omega arith)
      (λ m rest a b. says_right (says_right (says_right (says_right (says_right (says_right (says_left (says_same (truth_expr false place) (move_truth false 0 ∙ sym (move_truth false place))
      (says_mapped {B = no_place} {x = 0} bare_expr (truth_expr false) (move_truth false) (says_word kind.False (codes "false") (record { letter = refl; all = refl; short = omega arith; kind = refl })))))))))))
      (λ r. ap (shape_is_chain r) (out_truth false)) (ap shape_is_path (out_truth false)))

  empty_good : Gives (mapped empty_expr (pair (word_rule kind.Empty) K)) (Good 8 left)
  empty_good = gives_mapped (Good 8 left) empty_expr (gives_pair (gives_sign kind.Empty true) kinds') (λ p h.
      primary_good left (empty_expr p) h.1.0 (word (codes "empty") ++ kind_text p.1) (tightness_empty (empty_expr p) p.1 refl) (text_empty (empty_expr p) p.1 refl) h.1.1
      (λ m rest a b. says_right (says_right (says_right (says_right (says_right (says_right (says_right (says_left (says_same (empty_expr p) (move_empty (0, p.1) ∙ sym (move_empty p))
      (says_mapped {B = both no_place same_as} {x = (0, p.1)} bare_expr empty_expr move_empty (says_pair (says_word kind.Empty (codes "empty") (record { letter = refl; all = refl; short = omega arith; kind = refl })) (h.1.2 m rest a b))))))))))))
      (λ r. ap (shape_is_chain r) (out_empty p.1)) (ap shape_is_path (out_empty p.1)))

  len_good : Gives (mapped len_expr (pair (word_rule kind.Len) (parenthesized (I Whole) (room_of left)))) (Good 8 left)
  len_good = gives_mapped (Good 8 left) len_expr (gives_pair (gives_sign kind.Len true) (gives_pair (gives_sign kind.Open (room_of left)) (gives_pair whole (gives_sign kind.Close true)))) (λ p h.
      let e = p.1.1.0 in
      primary_good left (len_expr p) (suc h.1.1.0.0) (word (codes "len") ++ (word (codes "(") ++ (expr_text p.1.1.0 ++ word (codes ")")))) (tightness_len (len_expr p) p.1.1.0 refl) (text_len (len_expr p) p.1.1.0 refl) (within_one 0 p.1.1.0 h.1.1.0.0 h.1.1.0.1 h.1.0)
      (opened (λ n rest. Says bare_expr (at8 n rest) (len_expr p) (word (codes "len") ++ (word (codes "(") ++ (expr_text p.1.1.0 ++ word (codes ")"))))) h.1.1.0.0 (λ n rest a b.
      says_right (says_right (says_right (says_right (says_right (says_right (says_right (says_right (says_left (says_same (len_expr p) (move_len (0, (0, (p.1.1.0, 0))) ∙ sym (move_len p))
      (says_mapped {B = both no_place (both no_place (both bare_expr no_place))} {x = (0, (0, (p.1.1.0, 0)))} bare_expr len_expr move_len
      (says_pair (says_word kind.Len (codes "len") (record { letter = refl; all = refl; short = omega arith; kind = refl })) (says_pair says_open (says_pair (h.1.1.0.2.spelt.says 0 n rest (omega arith) a b) says_close)))))))))))))))
      (λ r. ap (shape_is_chain r) (out_len p.1.1.0)) (ap shape_is_path (out_len p.1.1.0)))

  sha256_good : Gives (mapped sha256_expr (pair (word_rule kind.Sha256) (parenthesized (I Whole) (room_of left)))) (Good 8 left)
  sha256_good = gives_mapped (Good 8 left) sha256_expr (gives_pair (gives_sign kind.Sha256 true) (gives_pair (gives_sign kind.Open (room_of left)) (gives_pair whole (gives_sign kind.Close true)))) (λ p h.
      primary_good left (sha256_expr p) (suc h.1.1.0.0) (word (codes "sha256") ++ (word (codes "(") ++ (expr_text p.1.1.0 ++ word (codes ")")))) (tightness_sha256 (sha256_expr p) p.1.1.0 refl) (text_sha256 (sha256_expr p) p.1.1.0 refl) (within_one 0 p.1.1.0 h.1.1.0.0 h.1.1.0.1 h.1.0)
      (opened (λ n rest. Says bare_expr (at8 n rest) (sha256_expr p) (word (codes "sha256") ++ (word (codes "(") ++ (expr_text p.1.1.0 ++ word (codes ")"))))) h.1.1.0.0 (λ n rest a b.
      says_right (says_right (says_right (says_right (says_right (says_right (says_right (says_right (says_right (says_left (says_same (sha256_expr p) (move_sha256 (0, (0, (p.1.1.0, 0))) ∙ sym (move_sha256 p))
      (says_mapped {B = both no_place (both no_place (both bare_expr no_place))} {x = (0, (0, (p.1.1.0, 0)))} bare_expr sha256_expr move_sha256
      (says_pair (says_word kind.Sha256 (codes "sha256") (record { letter = refl; all = refl; short = omega arith; kind = refl })) (says_pair says_open (says_pair (h.1.1.0.2.spelt.says 0 n rest (omega arith) a b) says_close))))))))))))))))
      (λ r. ap (shape_is_chain r) (out_sha256 p.1.1.0)) (ap shape_is_path (out_sha256 p.1.1.0)))

  concat_good : Gives (concat (I Whole) (room_of left)) (Good 8 left)
  concat_good = gives_mapped (Good 8 left) concat_expr (gives_pair (gives_sign kind.Concat true) (gives_pair (gives_sign kind.Open (room_of left)) (gives_pair (gives_pair whole (gives_pair (gives_sign kind.Comma true) whole)) (gives_sign kind.Close true)))) (λ p h.
      let x = p.1.1.0.0 in
      let y = p.1.1.0.1.1 in
      let a = h.1.1.0.0 in
      let b = h.1.1.0.1.1 in
      let la = within_one 0 p.1.1.0.0 h.1.1.0.0.0 h.1.1.0.0.1 h.1.0 in
      let lb = within_one 0 p.1.1.0.1.1 h.1.1.0.1.1.0 h.1.1.0.1.1.1 h.1.0 in
      let l = max h.1.1.0.0.0 h.1.1.0.1.1.0 in
      primary_good left (concat_expr p) (suc (max h.1.1.0.0.0 h.1.1.0.1.1.0)) (word (codes "concat") ++ (word (codes "(") ++ ((expr_text p.1.1.0.0 ++ (word (codes ",") ++ expr_text p.1.1.0.1.1)) ++ word (codes ")")))) (tightness_concat (concat_expr p) p.1.1.0.0 p.1.1.0.1.1 refl) (text_concat (concat_expr p) p.1.1.0.0 p.1.1.0.1.1 refl) (omega arith)
      (opened (λ n rest. Says bare_expr (at8 n rest) (concat_expr p) (word (codes "concat") ++ (word (codes "(") ++ ((expr_text p.1.1.0.0 ++ (word (codes ",") ++ expr_text p.1.1.0.1.1)) ++ word (codes ")"))))) (max h.1.1.0.0.0 h.1.1.0.1.1.0) (λ n rest q r.
      says_right (says_right (says_right (says_right (says_right (says_right (says_right (says_right (says_right (says_right (says_left (says_same (concat_expr p) (move_concat (0, (0, ((p.1.1.0.0, (0, p.1.1.0.1.1)), 0))) ∙ sym (move_concat p))
      (says_mapped {B = both no_place (both no_place (both (both bare_expr (both no_place bare_expr)) no_place))} {x = (0, (0, ((p.1.1.0.0, (0, p.1.1.0.1.1)), 0)))} bare_expr concat_expr move_concat
      (says_pair (says_word kind.Concat (codes "concat") (record { letter = refl; all = refl; short = omega arith; kind = refl })) (says_pair says_open (says_pair
      (says_pair (h.1.1.0.0.2.spelt.says 0 n rest (omega arith) (omega (arith, q)) (omega (arith, r))) (says_pair says_comma (h.1.1.0.1.1.2.spelt.says 0 n rest (omega arith) (omega (arith, q)) (omega (arith, r))))) says_close)))))))))))))))))
      (λ r. ap (shape_is_chain r) (out_concat p.1.1.0.0 p.1.1.0.1.1)) (ap shape_is_path (out_concat p.1.1.0.0 p.1.1.0.1.1)))

  called_good : Gives (called (room_of left)) (Good 8 left)
  called_good = gives_mapped (Good 8 left) called_expr (gives_pair (gives_sign kind.Called true) (gives_pair (gives_sign kind.Open (room_of left)) (gives_pair (gives_pair gives_number (gives_pair (gives_sign kind.Comma true) gives_name)) (gives_sign kind.Close true)))) (λ p h.
      let one = room_one left h.1.0 in
      let dep = p.1.1.0.0 in
      let method = p.1.1.0.1.1 in
      primary_good left (called_expr p) 1 (word (codes "called") ++ (word (codes "(") ++ ((word (decimal p.1.1.0.0.value) ++ (word (codes ",") ++ word p.1.1.0.1.1.bytes)) ++ word (codes ")")))) (tightness_called (called_expr p) p.1.1.0.0.value p.1.1.0.1.1 refl) (text_called (called_expr p) p.1.1.0.0.value p.1.1.0.1.1 refl) (omega arith)
      (opened (λ n rest. Says bare_expr (at8 n rest) (called_expr p) (word (codes "called") ++ (word (codes "(") ++ ((word (decimal p.1.1.0.0.value) ++ (word (codes ",") ++ word p.1.1.0.1.1.bytes)) ++ word (codes ")"))))) 0 (λ n rest q r.
      says_right (says_right (says_right (says_right (says_right (says_right (says_right (says_right (says_right (says_right (says_right (says_left (says_same (called_expr p) (move_called (0, (0, ((p.1.1.0.0, (0, p.1.1.0.1.1)), 0))) ∙ sym (move_called p))
      (says_mapped {B = both no_place (both no_place (both (both unplaced (both no_place bare_text)) no_place))} {x = (0, (0, ((p.1.1.0.0, (0, p.1.1.0.1.1)), 0)))} bare_expr called_expr move_called
      (says_pair (says_word kind.Called (codes "called") (record { letter = refl; all = refl; short = omega arith; kind = refl })) (says_pair says_open (says_pair
      (says_pair (says_number p.1.1.0.0 h.1.1.0.0) (says_pair says_comma (says_name p.1.1.0.1.1 h.1.1.0.1.1))) says_close))))))))))))))))))
      (λ r. ap (shape_is_chain r) (out_called p.1.1.0.0.value p.1.1.0.1.1)) (ap shape_is_path (out_called p.1.1.0.0.value p.1.1.0.1.1)))

  depint_good : Gives (depint (room_of left)) (Good 8 left)
  depint_good = gives_mapped (Good 8 left) depint_expr (gives_pair (gives_sign kind.DepInt true) (gives_pair (gives_sign kind.Open (room_of left)) (gives_pair (gives_pair gives_number (gives_pair (gives_sign kind.Comma true) gives_number)) (gives_sign kind.Close true)))) (λ p h.
      let one = room_one left h.1.0 in
      primary_good left (depint_expr p) 1 (word (codes "depint") ++ (word (codes "(") ++ ((word (decimal p.1.1.0.0.value) ++ (word (codes ",") ++ word (decimal p.1.1.0.1.1.value))) ++ word (codes ")")))) (tightness_depint (depint_expr p) p.1.1.0.0.value p.1.1.0.1.1.value refl) (text_depint (depint_expr p) p.1.1.0.0.value p.1.1.0.1.1.value refl) (omega arith)
      (opened (λ n rest. Says bare_expr (at8 n rest) (depint_expr p) (word (codes "depint") ++ (word (codes "(") ++ ((word (decimal p.1.1.0.0.value) ++ (word (codes ",") ++ word (decimal p.1.1.0.1.1.value))) ++ word (codes ")"))))) 0 (λ n rest q r.
      says_right (says_right (says_right (says_right (says_right (says_right (says_right (says_right (says_right (says_right (says_right (says_right (says_same (depint_expr p) (move_depint (0, (0, ((p.1.1.0.0, (0, p.1.1.0.1.1)), 0))) ∙ sym (move_depint p))
      (says_mapped {B = both no_place (both no_place (both (both unplaced (both no_place unplaced)) no_place))} {x = (0, (0, ((p.1.1.0.0, (0, p.1.1.0.1.1)), 0)))} bare_expr depint_expr move_depint
      (says_pair (says_word kind.DepInt (codes "depint") (record { letter = refl; all = refl; short = omega arith; kind = refl })) (says_pair says_open (says_pair
      (says_pair (says_number p.1.1.0.0 h.1.1.0.0) (says_pair says_comma (says_number p.1.1.0.1.1 h.1.1.0.1.1))) says_close))))))))))))))))))
      (λ r. ap (shape_is_chain r) (out_depint p.1.1.0.0.value p.1.1.0.1.1.value)) (ap shape_is_path (out_depint p.1.1.0.0.value p.1.1.0.1.1.value)))

  good8 : Gives (primary (I Whole) K (room_of left)) (Good 8 left)
  good8 = gives_either group_good (gives_either bracket_good (gives_either number_good (gives_either bytes_good (gives_either name_good
      (gives_either true_good (gives_either false_good (gives_either empty_good (gives_either len_good (gives_either sha256_good (gives_either concat_good (gives_either called_good depint_good)))))))))))

  -- ---- paths

  field_good : Gives (mapped field_step (pair (sign kind.Dot true) name)) (IsItem bare_way path_link path_text left)
  field_good = gives_mapped (IsItem bare_way path_link path_text left) field_step (gives_pair (gives_sign kind.Dot true) gives_name) (λ p h. (
    0,
    omega arith,
    λ n rest a b. says_text (access_text (access.Field p.1)) (sym (access_field p.1)) (says_left (says_same (field_step p) (move_field (0, p.1) ∙ sym (move_field p))
        (says_mapped {B = both no_place bare_text} {x = (0, p.1)} bare_way field_step move_field (says_pair (says_sign kind.Dot (codes ".") (omega arith) (λ place rest. refl)) (says_name p.1 h.1))))),
  ))

  index_good : Gives (mapped index_step (pair (sign kind.OpenList (room_of left)) (pair (I Whole) (word_rule kind.CloseList)))) (IsItem bare_way path_link path_text left)
  index_good = gives_mapped (IsItem bare_way path_link path_text left) index_step (gives_pair (gives_sign kind.OpenList (room_of left)) (gives_pair whole (gives_sign kind.CloseList true))) (λ p h. (
    suc h.1.0.0,
    within_one 0 p.1.0 h.1.0.0 h.1.0.1 h.0,
    opened (λ n rest. Says bare_way (path_link n rest true) (index_step p) (path_text (index_step p))) h.1.0.0 (λ n rest a b.
        says_text (access_text (access.Index p.1.0)) (sym (access_index p.1.0)) (says_right (says_same (index_step p) (move_index (0, (p.1.0, 0)) ∙ sym (move_index p))
        (says_mapped {B = both no_place (both bare_expr no_place)} {x = (0, (p.1.0, 0))} bare_way index_step move_index (says_pair says_open_list (says_pair (h.1.0.2.spelt.says 0 n rest (omega arith) a b) says_close_list)))))),
  ))

  no_access : Gives (access_rule (I Whole) (room_of left) false) (λ x. ⊥)
  no_access = gives_either
      (gives_mapped (λ x. ⊥) field_step (gives_pair (gives_sign kind.Dot false) gives_name) (λ p h. (let e = h.0 in absurd cc)))
      (gives_mapped (λ x. ⊥) index_step (gives_pair (gives_sign kind.OpenList false) (gives_pair whole (gives_sign kind.CloseList true))) (λ p h. (let e = h.0 in absurd cc)))

  path_good : (x : Expr) (xs : List (ℕ × Access)) → Good 8 left x → Every (IsItem bare_way path_link path_text left) xs → length xs ≤ 64 → Good 7 left (joined_left with_step x xs)
  path_good x [] g each_text few = (let down = levels_down 7 8 x g.0 (omega arith) in let le = g.1 in (g.0, omega arith, g.2))
  path_good x (y ∷ ys) g each_text few =
      let k = grown with_step bare_way move_step path_link path_text 7 8 (omega arith) (omega arith) (λ e s n rest a. a) PathBuilt path_add path_is left x g.0 g.2.spelt g.1 (is_path x) g.2.paths (λ no p. path_new x p no) y ys each_text.0 each_text.1 few in
      let r = k.3 in
      let tight : (spelled (joined_left with_step x (y ∷ ys))).tightness ≡ 7 = ap (λ (s : Spelled). s.tightness) (path_is (joined_left with_step x (y ∷ ys)) k.3.start _ k.3.at.built) in
      let same : levels_within 7 (joined_left with_step x (y ∷ ys)) k.0 ≡ k.0 = levels_tight 7 (joined_left with_step x (y ∷ ys)) k.0 7 tight (omega arith) in
      let le = k.1 in
      (k.0, omega arith, known_path (joined_left with_step x (y ∷ ys)) k.0 k.2 k.3)

  good7 : Gives (post (I Whole) K (room_of left)) (Good 7 left)
  good7 = gives_mapped (Good 7 left) (joined_pair with_step) (gives_pair good8 (gives_links (access_rule (I Whole) (room_of left)) 64 (gives_either field_good index_good) no_access)) (λ z h. path_good z.0 z.1 h.0 h.1.0 h.1.1)

  -- ---- signs

  negative_good : Gives (mapped negative_expr (pair (sign kind.Minus (room_of left)) (I Signed))) (Good 6 left)
  negative_good = gives_mapped (Good 6 left) negative_expr (gives_pair (gives_sign kind.Minus (room_of left)) sign_of) (λ p h.
      let one = room_one left h.0 in
      let le = h.1.1 in
      let l = levels_within 6 p.1 h.1.0 in
      let tight = tightness_negative (negative_expr p) p.1 refl in
      let same : levels_within 6 (negative_expr p) (suc (levels_within 6 p.1 h.1.0)) ≡ suc (levels_within 6 p.1 h.1.0) = levels_tight 6 (negative_expr p) (suc (levels_within 6 p.1 h.1.0)) 6 tight (omega arith) in (
        suc (levels_within 6 p.1 h.1.0),
        omega arith,
        known_plain (negative_expr p) (suc (levels_within 6 p.1 h.1.0))
            (spelt_at (negative_expr p) (suc (levels_within 6 p.1 h.1.0)) 6 tight
            (opened (λ n rest. Says bare_expr (at6 n rest) (negative_expr p) (spelled (negative_expr p)).text) (levels_within 6 p.1 h.1.0) (λ n rest a b.
            says_text (spelled (negative_expr p)).text (sym (text_negative (negative_expr p) p.1 refl)) (says_left (says_same (negative_expr p) (move_negative (0, p.1) ∙ sym (move_negative p))
            (says_mapped {B = both no_place bare_expr} {x = (0, p.1)} bare_expr negative_expr move_negative (says_pair (says_sign kind.Minus (codes "-") (omega arith) (λ place rest. refl)) (says_within p.1 h.1.0 h.1.2.spelt 6 n rest (omega arith) a b))))))))
            (λ r. ap (shape_is_chain r) (out_negative p.1)) (ap shape_is_path (out_negative p.1)),
      ))

  post_good : Gives (post (I Whole) K (room_of left)) (Good 6 left)
  post_good = gives_weaker (Good 6 left) (λ x g. (let down = levels_down 6 7 x g.0 (omega arith) in let le = g.1 in (g.0, omega arith, g.2))) good7

  pub good6 : Gives (signed (I Whole) (I Signed) K (room_of left)) (Good 6 left)
  good6 = gives_either negative_good post_good

  -- ---- chains

  abbrev OperatorSays : Rank → Operator × ℕ → Type 0
  OperatorSays r q = Says (both same_as no_place) (operators r true) q (word (operator_text q.0))

  operator_good : (r : Rank) → Gives (operators r true) (OperatorSays r)
  operator_good rank.Or = gives_mapped (OperatorSays rank.Or) (operation operator.Or) (gives_sign kind.Or true) (λ place h. says_same (operator.Or, place) refl
      (says_mapped {B = no_place} {x = 0} (both same_as no_place) (operation operator.Or) (λ z. refl) (says_word kind.Or (codes "or") (record { letter = refl; all = refl; short = omega arith; kind = refl }))))
  operator_good rank.And = gives_mapped (OperatorSays rank.And) (operation operator.And) (gives_sign kind.And true) (λ place h. says_same (operator.And, place) refl
      (says_mapped {B = no_place} {x = 0} (both same_as no_place) (operation operator.And) (λ z. refl) (says_word kind.And (codes "and") (record { letter = refl; all = refl; short = omega arith; kind = refl }))))
  operator_good rank.Sum = gives_either
      (gives_mapped (OperatorSays rank.Sum) (operation operator.Plus) (gives_sign kind.Plus true) (λ place h. says_same (operator.Plus, place) refl
      (says_left (says_mapped {B = no_place} {x = 0} (both same_as no_place) (operation operator.Plus) (λ z. refl) (says_sign kind.Plus (codes "+") (omega arith) (λ at rest. refl))))))
      (gives_mapped (OperatorSays rank.Sum) (operation operator.Minus) (gives_sign kind.Minus true) (λ place h. says_same (operator.Minus, place) refl
      (says_right (says_mapped {B = no_place} {x = 0} (both same_as no_place) (operation operator.Minus) (λ z. refl) (says_sign kind.Minus (codes "-") (omega arith) (λ at rest. refl))))))
  operator_good rank.Product = gives_either
      (gives_mapped (OperatorSays rank.Product) (operation operator.Times) (gives_sign kind.Star true) (λ place h. says_same (operator.Times, place) refl
      (says_left (says_mapped {B = no_place} {x = 0} (both same_as no_place) (operation operator.Times) (λ z. refl) (says_sign kind.Star (codes "*") (omega arith) (λ at rest. refl))))))
      (gives_either
      (gives_mapped (OperatorSays rank.Product) (operation operator.Divide) (gives_sign kind.Slash true) (λ place h. says_same (operator.Divide, place) refl
      (says_right (says_left (says_mapped {B = no_place} {x = 0} (both same_as no_place) (operation operator.Divide) (λ z. refl) (says_sign kind.Slash (codes "/") (omega arith) (λ at rest. refl)))))))
      (gives_mapped (OperatorSays rank.Product) (operation operator.Remainder) (gives_sign kind.Percent true) (λ place h. says_same (operator.Remainder, place) refl
      (says_right (says_right (says_mapped {B = no_place} {x = 0} (both same_as no_place) (operation operator.Remainder) (λ z. refl) (says_sign kind.Percent (codes "%") (omega arith) (λ at rest. refl))))))))

  none_past : {X : Type 0} (f : ℕ → X) (k : Kind) → Gives (mapped f (sign k false)) (λ x. ⊥)
  none_past f k = gives_mapped (λ x. ⊥) f (gives_sign k false) (λ place h. absurd cc)

  no_operator : (r : Rank) → Gives (operators r false) (λ x. ⊥)
  no_operator rank.Or = none_past (operation operator.Or) kind.Or
  no_operator rank.And = none_past (operation operator.And) kind.And
  no_operator rank.Sum = gives_either (none_past (operation operator.Plus) kind.Plus) (none_past (operation operator.Minus) kind.Minus)
  no_operator rank.Product = gives_either (none_past (operation operator.Times) kind.Star) (gives_either (none_past (operation operator.Divide) kind.Slash) (none_past (operation operator.Remainder) kind.Percent))

  operand_most : (r : Rank) → operand_tightness r ≤ 8
  operand_most rank.Or = omega arith
  operand_most rank.And = omega arith
  operand_most rank.Sum = omega arith
  operand_most rank.Product = omega arith

  operand_more : (r : Rank) → tightness_of r < operand_tightness r
  operand_more rank.Or = omega arith
  operand_more rank.And = omega arith
  operand_more rank.Sum = omega arith
  operand_more rank.Product = omega arith

  chain_folds : (r : Rank) (e : Expr) (s : List ℕ) (n rest : ℕ) → Says bare_expr (mapped (joined_pair (with_link r)) (pair (rule_at (operand_tightness r) n rest) (links (chain_link r n rest) 64))) e s → Says bare_expr (rule_at (tightness_of r) n rest) e s
  chain_folds rank.Or e s n rest a = a
  chain_folds rank.And e s n rest a = a
  chain_folds rank.Sum e s n rest a = a
  chain_folds rank.Product e s n rest a = a

  chained_good : (r : Rank) (x : Expr) (xs : List Item) → Good (operand_tightness r) left x → Every (IsItem bare_item (chain_link r) (chain_text r) left) xs → length xs ≤ 64 → Good (tightness_of r) left (joined_left (with_link r) x xs)
  chained_good r x [] g each_text few = (let more = operand_more r in let down = levels_down (tightness_of r) (operand_tightness r) x g.0 (omega arith) in let le = g.1 in (g.0, omega arith, g.2))
  chained_good r x (y ∷ ys) g each_text few =
      let k = grown (with_link r) bare_item (move_link r) (chain_link r) (chain_text r) (tightness_of r) (operand_tightness r) (operand_most r) (operand_more r) (chain_folds r) (ChainBuilt r) (chain_add r) (chain_is r) left x g.0 g.2.spelt g.1 (is_chain r x) (g.2.chains r) (λ no p. chain_new r x p no) y ys each_text.0 each_text.1 few in
      let tight : (spelled (joined_left (with_link r) x (y ∷ ys))).tightness ≡ tightness_of r = ap (λ (s : Spelled). s.tightness) (chain_is r (joined_left (with_link r) x (y ∷ ys)) k.3.start _ k.3.at.built) in
      let same : levels_within (tightness_of r) (joined_left (with_link r) x (y ∷ ys)) k.0 ≡ k.0 = levels_tight (tightness_of r) (joined_left (with_link r) x (y ∷ ys)) k.0 (tightness_of r) tight (omega arith) in
      let le = k.1 in
      (k.0, omega arith, known_chain r (joined_left (with_link r) x (y ∷ ys)) k.0 k.2 k.3)

  chain_good : (r : Rank) (R : Rule Expr) → Gives R (Good (operand_tightness r) left) → Gives (chain r R) (Good (tightness_of r) left)
  chain_good r R g = gives_mapped (Good (tightness_of r) left) (joined_pair (with_link r)) (gives_pair g (gives_links (λ more. pair (operators r more) R) 64
      (gives_weaker (IsItem bare_item (chain_link r) (chain_text r) left) (λ p h.
      (levels_within (operand_tightness r) p.1 h.1.0, h.1.1, λ n rest a b. says_pair h.0 (says_within p.1 h.1.0 h.1.2.spelt (operand_tightness r) n rest (operand_most r) a b))) (gives_pair (operator_good r) g))
      (gives_weaker (λ p. ⊥) (λ p h. h.0) (gives_pair (no_operator r) g)))) (λ z h. chained_good r z.0 z.1 h.0 h.1.0 h.1.1)

  -- ---- comparisons

  abbrev CompareSays : Comparison × ℕ → Type 0
  CompareSays q = Says (both same_as no_place) comparisons q (word (comparison_text q.0))

  compare_one : (c : Comparison) (k : Kind) → (Says no_place (sign k true) 0 (word (comparison_text c))) → (R : Rule (Comparison × ℕ)) → (Says (both same_as no_place) (mapped (comparing c) (word_rule k)) (c, 0) (word (comparison_text c)) → Says (both same_as no_place) R (c, 0) (word (comparison_text c))) → Gives (mapped (comparing c) (word_rule k)) (λ q. Says (both same_as no_place) R q (word (comparison_text q.0)))
  compare_one c k says R up = gives_mapped (λ q. Says (both same_as no_place) R q (word (comparison_text q.0))) (comparing c) (gives_sign k true) (λ place h. says_same (c, place) refl (up (says_mapped {B = no_place} {x = 0} (both same_as no_place) (comparing c) (λ z. refl) says)))

  comparisons_good : Gives comparisons CompareSays
  comparisons_good =
      gives_either (compare_one comparison.Equal kind.Equal (says_sign kind.Equal (codes "==") (omega arith) (λ at rest. refl)) comparisons (λ a. says_left a))
      (gives_either (compare_one comparison.NotEqual kind.NotEqual (says_sign kind.NotEqual (codes "!=") (omega arith) (λ at rest. refl)) comparisons (λ a. says_right (says_left a)))
      (gives_either (compare_one comparison.Less kind.Less (says_sign kind.Less (codes "<") (omega arith) (λ at rest. refl)) comparisons (λ a. says_right (says_right (says_left a))))
      (gives_either (compare_one comparison.LessOrEqual kind.LessOrEqual (says_sign kind.LessOrEqual (codes "<=") (omega arith) (λ at rest. refl)) comparisons (λ a. says_right (says_right (says_right (says_left a)))))
      (gives_either (compare_one comparison.Greater kind.Greater (says_sign kind.Greater (codes ">") (omega arith) (λ at rest. refl)) comparisons (λ a. says_right (says_right (says_right (says_right (says_left a))))))
      (compare_one comparison.GreaterOrEqual kind.GreaterOrEqual (says_sign kind.GreaterOrEqual (codes ">=") (omega arith) (λ at rest. refl)) comparisons (λ a. says_right (says_right (says_right (says_right (says_right a))))))))))

  abbrev Sided : Option ((Comparison × ℕ) × Expr) → Type 0
  Sided None = Unit {0}
  Sided (Some q) = CompareSays q.0 × Good 4 left q.1

  compared_with : (x : Expr) (o : Option ((Comparison × ℕ) × Expr)) → Good 4 left x → Sided o → Good 3 left (compared_expr (x, o))
  compared_with x None g h = (let down = levels_down 3 4 x g.0 (omega arith) in let le = g.1 in (g.0, omega arith, g.2))
  compared_with x (Some q) g h =
      let e = compared_expr (x, Some q) in
      let la = g.1 in
      let lb = h.1.1 in
      let l = max (levels_within 4 x g.0) (levels_within 4 q.1 h.1.0) in
      let tight = tightness_compared (compared_expr (x, Some q)) q.0.0 x q.1 refl in
      let same : levels_within 3 (compared_expr (x, Some q)) (max (levels_within 4 x g.0) (levels_within 4 q.1 h.1.0)) ≡ max (levels_within 4 x g.0) (levels_within 4 q.1 h.1.0) = levels_tight 3 (compared_expr (x, Some q)) (max (levels_within 4 x g.0) (levels_within 4 q.1 h.1.0)) 3 tight (omega arith) in (
        max (levels_within 4 x g.0) (levels_within 4 q.1 h.1.0),
        omega arith,
        known_plain (compared_expr (x, Some q)) (max (levels_within 4 x g.0) (levels_within 4 q.1 h.1.0))
            (spelt_at (compared_expr (x, Some q)) (max (levels_within 4 x g.0) (levels_within 4 q.1 h.1.0)) 3 tight (λ n rest a b.
            says_text (spelled (compared_expr (x, Some q))).text (sym (text_compared (compared_expr (x, Some q)) q.0.0 x q.1 refl))
            (says_mapped {B = both bare_expr (if_some bare_side)} {x = (x, Some q)} bare_expr compared_expr move_compared
            (says_pair (says_within x g.0 g.2.spelt 4 n rest (omega arith) (omega (arith, a)) (omega (arith, b)))
            (says_left (says_mapped {B = bare_side} {x = q} (if_some bare_side) Some (λ z. refl) (says_pair h.0 (says_within q.1 h.1.0 h.1.2.spelt 4 n rest (omega arith) (omega (arith, a)) (omega (arith, b))))))))))
            (λ r. ap (shape_is_chain r) (out_compared q.0.0 x q.1)) (ap shape_is_path (out_compared q.0.0 x q.1)),
      )

  compared_good : (R : Rule Expr) → Gives R (Good 4 left) → Gives (comparison_rule R) (Good 3 left)
  compared_good R g = gives_mapped (Good 3 left) compared_expr (gives_pair g (gives_either (gives_mapped Sided Some (gives_pair comparisons_good g) (λ q h. h)) (gives_nothing None tt))) (λ z h. compared_with z.0 z.1 h.0 h.1)

  not_good : Gives (mapped not_expr (pair (sign kind.Not (room_of left)) (I Negated))) (Good 2 left)
  not_good = gives_mapped (Good 2 left) not_expr (gives_pair (gives_sign kind.Not (room_of left)) negated) (λ p h.
      let one = room_one left h.0 in
      let le = h.1.1 in
      let tight = tightness_not (not_expr p) p.1 refl in
      let same : levels_within 2 (not_expr p) (suc (levels_within 2 p.1 h.1.0)) ≡ suc (levels_within 2 p.1 h.1.0) = levels_tight 2 (not_expr p) (suc (levels_within 2 p.1 h.1.0)) 2 tight (omega arith) in (
        suc (levels_within 2 p.1 h.1.0),
        omega arith,
        known_plain (not_expr p) (suc (levels_within 2 p.1 h.1.0))
            (spelt_at (not_expr p) (suc (levels_within 2 p.1 h.1.0)) 2 tight
            (opened (λ n rest. Says bare_expr (at2 n rest) (not_expr p) (spelled (not_expr p)).text) (levels_within 2 p.1 h.1.0) (λ n rest a b.
            says_text (spelled (not_expr p)).text (sym (text_not (not_expr p) p.1 refl)) (says_left (says_same (not_expr p) (move_not (0, p.1) ∙ sym (move_not p))
            (says_mapped {B = both no_place bare_expr} {x = (0, p.1)} bare_expr not_expr move_not (says_pair (says_word kind.Not (codes "not") (record { letter = refl; all = refl; short = omega arith; kind = refl })) (says_within p.1 h.1.0 h.1.2.spelt 2 n rest (omega arith) a b))))))))
            (λ r. ap (shape_is_chain r) (out_not p.1)) (ap shape_is_path (out_not p.1)),
      ))

  sums_good : Gives (comparison_rule (chain rank.Sum (product I K (room_of left)))) (Good 2 left)
  sums_good = gives_weaker (Good 2 left) (λ x g. (let down = levels_down 2 3 x g.0 (omega arith) in let le = g.1 in (g.0, omega arith, g.2)))
      (compared_good (chain rank.Sum (product I K (room_of left))) (chain_good rank.Sum (product I K (room_of left)) (chain_good rank.Product (signed (I Whole) (I Signed) K (room_of left)) good6)))

  pub good2 : Gives (no I K (room_of left)) (Good 2 left)
  good2 = gives_either not_good sums_good

  pub good0 : Gives (rule_of Whole I K (room_of left)) (Good 0 left)
  good0 = chain_good rank.Or (chain rank.And (no I K (room_of left))) (chain_good rank.And (no I K (room_of left)) good2)

-- ---- all of them

abbrev pub tight_of : Whose → ℕ
tight_of Whole = 0
tight_of Negated = 2
tight_of Signed = 6

pub expressions_good : (n left : ℕ) (part : Whose) → Gives (expression n left part) (Good (tight_of part) left)
expressions_good zero left part = record { give = λ x ms p w t. absurd p }
expressions_good (suc n) left Whole = good0 left (expression n (less_one left)) (kinds n left) (expressions_good n (less_one left) Whole) (expressions_good n (less_one left) Negated) (expressions_good n (less_one left) Signed) (kinds_good n left)
expressions_good (suc n) left Negated = good2 left (expression n (less_one left)) (kinds n left) (expressions_good n (less_one left) Whole) (expressions_good n (less_one left) Negated) (expressions_good n (less_one left) Signed) (kinds_good n left)
expressions_good (suc n) left Signed = good6 left (expression n (less_one left)) (kinds n left) (expressions_good n (less_one left) Whole) (expressions_good n (less_one left) Negated) (expressions_good n (less_one left) Signed) (kinds_good n left)
