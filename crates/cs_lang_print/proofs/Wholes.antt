-- Each contract that a text spells is spelled by its printed text, within the same limits.
use Rattle.std.proofs.Common.{ℕ, zero, suc, ◌+◌, ◌≤◌, Bool, true, false, List, [], ◌∷◌, ◌++◌, map, refl, arith}
use Rattle.std.specs.Prelude.{codes}
use Rattle.cs_lang_token.specs.declared.token.Text.{Text}
use Rattle.cs_lang_token.specs.declared.kind.Kind.{Kind}
use Rattle.cs_lang_token.specs.declared.kind.Kind.TheVariants as kind
use Rattle.cs_lang_token.specs.Grammar.{Rule, pair, mapped, either, nothing, many}
use Rattle.cs_lang_token.specs.Rules.{sign, commas}
use Rattle.cs_lang.specs.declared.tree.ValueKind.{ValueKind}
use Rattle.cs_lang.specs.declared.tree.Field.{Field}
use Rattle.cs_lang.specs.declared.tree.TypeDef.{TypeDef}
use Rattle.cs_lang.specs.declared.tree.Slot.{Slot}
use Rattle.cs_lang.specs.declared.tree.Method.{Method}
use Rattle.cs_lang.specs.declared.tree.ContractTree.{ContractTree}
use Rattle.cs_lang.specs.declared.methods.Head.{Head}
use Rattle.cs_lang.specs.declared.methods.Body.{Body}
use Rattle.cs_lang.specs.Trees.{field_of_parts, slot_of_parts, starred, typedef_of, after_word, method_head_of, body_of_parts, method_of, first_and_others, contract_tree_of}
use Rattle.cs_lang.specs.Rules.{keyword as word_rule, kinds, braces, statements, field, slot, typedef, section, head, body, method, contract}
use Rattle.cs_lang_print.specs.Words.{word, ending, each_text, with_commas}
use Rattle.cs_lang_print.specs.Statements.{block_text, statements_text}
use Rattle.cs_lang_print.specs.Texts.{field_text, star_text, slot_text, section_text, type_text, method_text, contract_text}
use Rattle.cs_lang_print.specs.Places.{bare_text, bare_block, bare_field, bare_slot, bare_type, bare_method, without_places}
use Rattle.cs_lang_token.proofs.Spans.{IsWord}
use Rattle.cs_lang_print.proofs.Says.{Says, both, no_place, says_pair, says_mapped, says_left, says_right, says_nothing, says_same, says_many_none, says_many_more, says_word, says_sign, says_ending, says_name}
use Rattle.cs_lang_print.proofs.Moves.{same_as}
use Rattle.cs_lang_token.proofs.Gives.{Gives, Every, gives_mapped, gives_pair, gives_either, gives_nothing, gives_many, gives_sign, gives_name, gives_row, gives_weaker}
use Rattle.cs_lang_print.proofs.Exprs.{KindGood, kinds_good, says_open, says_close, says_row}
use Rattle.cs_lang_print.proofs.Blocks.{says_semicolon, says_closed, braces_good, statements_good}

says_colon : Says no_place (sign kind.Colon true) 0 (word (codes ":"))
says_colon = says_sign kind.Colon (codes ":") (omega arith) (λ place rest. refl)

-- ---- rows of fields and slots

abbrev FieldGood : ℕ → Field → Type 0
FieldGood left f = (n : ℕ) → left + 1 ≤ n → Says bare_field (field (kinds n left)) f (field_text f)

field_good : (left : ℕ) (K : Rule ValueKind) → Gives K (KindGood left) → Gives (field K) (FieldGood left)
field_good left K g = gives_mapped (FieldGood left) field_of_parts (gives_pair gives_name (gives_pair (gives_sign kind.Colon true) g)) (λ p h. says p h.0 h.1.1)
  where
    says : (p : Text × (ℕ × ValueKind)) → IsWord p.0.bytes kind.Name → KindGood left p.1.1 → FieldGood left (field_of_parts p)
    says p is k zero le = absurd (omega (arith, le))
    says p is k (suc n) le =
        let most = k.1 in
        says_same (field_of_parts p) refl (says_mapped {B = both bare_text (both no_place same_as)} {x = (p.0, (0, p.1.1))} bare_field field_of_parts (λ z. refl) (says_pair (says_name p.0 is) (says_pair says_colon (k.2 n left (omega (arith, le)) (omega arith)))))

abbrev SlotGood : Slot → Type 0
SlotGood s = Says bare_slot slot s (slot_text s)

says_many : (b : Bool) → Says same_as (either (mapped starred (word_rule kind.Star)) (nothing false)) b (star_text b)
says_many true = says_left (says_mapped {B = no_place} {x = 0} same_as starred (λ z. refl) (says_sign kind.Star (codes "*") (omega arith) (λ place rest. refl)))
says_many false = says_right (says_nothing same_as false)

slot_good : Gives slot SlotGood
slot_good = gives_mapped SlotGood slot_of_parts (gives_pair gives_name (gives_pair (gives_sign kind.Colon true) (gives_pair gives_name (gives_either (gives_mapped (λ (b : Bool). Unit {0}) starred (gives_sign kind.Star true) (λ place h. tt)) (gives_nothing false tt))))) (λ p h.
    says_same (slot_of_parts p) refl (says_mapped {B = both bare_text (both no_place (both bare_text same_as))} {x = (p.0, (0, p.1.1))} bare_slot slot_of_parts (λ z. refl)
    (says_pair (says_name p.0 h.0) (says_pair says_colon (says_pair (says_name p.1.1.0 h.1.1.0) (says_many p.1.1.1))))))

fields_at : (left : ℕ) (fs : List Field) → Every (FieldGood left) fs → (n : ℕ) → left + 1 ≤ n → Every (λ (f : Field). Says bare_field (field (kinds n left)) f (field_text f)) fs
fields_at left [] g n le = tt
fields_at left (f ∷ fs) g n le = (g.0 n le, fields_at left fs g.1 n le)

-- ---- types

abbrev TypeGood : TypeDef → Type 0
TypeGood t = (n : ℕ) → 64 ≤ n → Says bare_type (typedef (kinds n 63)) t (type_text t)

says_fields : (left : ℕ) (fs : List Field) → Every (FieldGood left) fs → (n : ℕ) → left + 1 ≤ n → Says (map bare_field) (either (commas (field (kinds n left))) (nothing [])) fs (with_commas field_text fs)
says_fields left [] g n le = says_right (says_nothing (map bare_field) [])
says_fields left (f ∷ fs) g n le = says_left (says_row bare_field (field (kinds n left)) field_text (f ∷ fs) (omega arith) (fields_at left (f ∷ fs) g n le))

type_good : (n : ℕ) → Gives (typedef (kinds n 63)) TypeGood
type_good n = gives_mapped TypeGood typedef_of (gives_pair (gives_sign kind.Type true) (gives_pair gives_name (gives_pair (gives_sign kind.Open true) (gives_pair (gives_either (gives_weaker (Every (FieldGood 63)) (λ fs h. h.1) (gives_row (field_good 63 (kinds n 63) (kinds_good n 63)))) (gives_nothing [] tt)) (gives_pair (gives_sign kind.Close true) (gives_sign kind.Semicolon true)))))) (λ p h m le.
    says_same (typedef_of p) refl (says_mapped {B = both no_place (both bare_text (both no_place (both (map bare_field) (both no_place no_place))))} {x = (0, (p.1.0, (0, (p.1.1.1.0, (0, 0)))))} bare_type typedef_of (λ z. refl)
    (says_pair (says_word kind.Type (codes "type") (record { letter = refl; all = refl; short = omega arith; kind = refl })) (says_pair (says_name p.1.0 h.1.0) (says_pair says_open (says_pair (says_fields 63 p.1.1.1.0 h.1.1.1.0 m (omega (arith, le))) (says_pair says_close says_semicolon)))))))

-- ---- methods

says_section : {X : Type 0} (B : X → X) (k : Kind) (w : List ℕ) (R : Rule X) (text : X → List ℕ) (xs : List X) → IsWord w k → Every (λ (x : X). Says B R x (text x)) xs → Says (map B) (section k R) xs (section_text w text xs)
says_section B k w R text [] is g = says_right (says_nothing (map B) [])
says_section B k w R text (x ∷ xs) is g = says_left (says_mapped {B = both no_place (map B)} {x = (0, x ∷ xs)} (map B) after_word (λ z. refl) (says_pair (says_word k w is) (says_row B R text (x ∷ xs) (omega arith) g)))

section_good : {X : Type 0} (k : Kind) (R : Rule X) (P : X → Type 0) → Gives R P → Gives (section k R) (Every P)
section_good k R P g = gives_either (gives_mapped (Every P) after_word (gives_pair (gives_sign k true) (gives_weaker (Every P) (λ xs h. h.1) (gives_row g))) (λ p h. h.1)) (gives_nothing [] tt)

abbrev bare_head : Head → Head
bare_head h = record { consumes = map bare_slot h.consumes; reads = map bare_slot h.reads; takes = map bare_field h.takes; creates = map bare_slot h.creates; returns = map bare_field h.returns }

abbrev bare_body : Body → Body
bare_body b = record { procedure = bare_block b.procedure; check = bare_block b.check; end = 0 }

-- what stands in a head
abbrev heading : Head → List ℕ
heading m =
    section_text (codes "consumes") slot_text m.consumes ++ (section_text (codes "reads") slot_text m.reads
    ++ (section_text (codes "takes") field_text m.takes ++ (section_text (codes "creates") slot_text m.creates
    ++ section_text (codes "returns") field_text m.returns)))

abbrev doing : Body → List ℕ
doing m =
    ending (codes "{") ++ (word (codes "procedure") ++ (block_text (statements_text m.procedure)
    ++ (word (codes "check") ++ (block_text (statements_text m.check) ++ ending (codes "}")))))

abbrev HeadGood : Head → Type 0
HeadGood h = (n : ℕ) → 65 ≤ n → Says bare_head (head (kinds n 64)) h (heading h)

abbrev BodyGood : Body → Type 0
BodyGood b = (n : ℕ) → 65 ≤ n → Says bare_body (body (braces (statements n 62) true)) b (doing b)

head_good : (n : ℕ) → Gives (head (kinds n 64)) HeadGood
head_good n =
    let fields' = field_good 64 (kinds n 64) (kinds_good n 64) in
    gives_mapped HeadGood method_head_of (gives_pair (section_good kind.Consumes slot SlotGood slot_good) (gives_pair (section_good kind.Reads slot SlotGood slot_good) (gives_pair (section_good kind.Takes (field (kinds n 64)) (FieldGood 64) fields') (gives_pair (section_good kind.Creates slot SlotGood slot_good) (section_good kind.Returns (field (kinds n 64)) (FieldGood 64) fields'))))) (λ p h m le.
    says_mapped {B = both (map bare_slot) (both (map bare_slot) (both (map bare_field) (both (map bare_slot) (map bare_field))))} {x = p} bare_head method_head_of (λ z. refl)
    (says_pair (says_section bare_slot kind.Consumes (codes "consumes") slot slot_text p.0 (record { letter = refl; all = refl; short = omega arith; kind = refl }) h.0)
    (says_pair (says_section bare_slot kind.Reads (codes "reads") slot slot_text p.1.0 (record { letter = refl; all = refl; short = omega arith; kind = refl }) h.1.0)
    (says_pair (says_section bare_field kind.Takes (codes "takes") (field (kinds m 64)) field_text p.1.1.0 (record { letter = refl; all = refl; short = omega arith; kind = refl }) (fields_at 64 p.1.1.0 h.1.1.0 m (omega (arith, le))))
    (says_pair (says_section bare_slot kind.Creates (codes "creates") slot slot_text p.1.1.1.0 (record { letter = refl; all = refl; short = omega arith; kind = refl }) h.1.1.1.0)
    (says_section bare_field kind.Returns (codes "returns") (field (kinds m 64)) field_text p.1.1.1.1 (record { letter = refl; all = refl; short = omega arith; kind = refl }) (fields_at 64 p.1.1.1.1 h.1.1.1.1 m (omega (arith, le)))))))))

body_good : (n : ℕ) → Gives (body (braces (statements n 62) true)) BodyGood
body_good n =
    let block = braces_good 63 (statements n 62) (statements_good n 62) in
    gives_mapped BodyGood body_of_parts (gives_pair (gives_sign kind.OpenBlock true) (gives_pair (gives_sign kind.Procedure true) (gives_pair block (gives_pair (gives_sign kind.Check true) (gives_pair block (gives_sign kind.CloseBlock true)))))) (λ p h m le.
    says_same (body_of_parts p) refl (says_mapped {B = both no_place (both no_place (both bare_block (both no_place (both bare_block no_place))))} {x = (0, (0, (p.1.1.0, (0, (p.1.1.1.1.0, 0)))))} bare_body body_of_parts (λ z. refl)
    (says_pair (says_ending kind.OpenBlock (codes "{") (omega arith) (λ place rest. refl)) (says_pair (says_word kind.Procedure (codes "procedure") (record { letter = refl; all = refl; short = omega arith; kind = refl }))
    (says_pair (h.1.1.0 m (omega (arith, le)) (ending (codes "}")) says_closed) (says_pair (says_word kind.Check (codes "check") (record { letter = refl; all = refl; short = omega arith; kind = refl }))
    (says_pair (h.1.1.1.1.0 m (omega (arith, le)) (ending (codes "}")) says_closed) says_closed)))))))

abbrev MethodGood : Method → Type 0
MethodGood m = (n : ℕ) → 65 ≤ n → Says bare_method (method (kinds n 64) (braces (statements n 62) true)) m (method_text m)

method_good : (n : ℕ) → Gives (method (kinds n 64) (braces (statements n 62) true)) MethodGood
method_good n = gives_mapped MethodGood method_of (gives_pair (gives_sign kind.Method true) (gives_pair gives_name (gives_pair (head_good n) (body_good n)))) (λ p h m le.
    says_same (method_of p) refl (says_mapped {B = both no_place (both bare_text (both bare_head bare_body))} {x = (0, p.1)} bare_method method_of (λ z. refl)
    (says_pair (says_word kind.Method (codes "method") (record { letter = refl; all = refl; short = omega arith; kind = refl })) (says_pair (says_name p.1.0 h.1.0) (says_pair (h.1.1.0 m le) (h.1.1.1 m le))))))

-- ---- the whole text

says_types : (ts : List TypeDef) → Every TypeGood ts → (n : ℕ) → 65 ≤ n → Says (map bare_type) (many (typedef (kinds n 63))) ts (each_text type_text ts)
says_types [] g n le = says_many_none (map bare_type)
says_types (t ∷ ts) g n le = says_many_more (g.0 n (omega (arith, le))) (says_types ts g.1 n le)

says_methods : (ms : List Method) → Every MethodGood ms → (n : ℕ) → 65 ≤ n → Says (map bare_method) (many (method (kinds n 64) (braces (statements n 62) true))) ms (each_text method_text ms)
says_methods [] g n le = says_many_none (map bare_method)
says_methods (m ∷ ms) g n le = says_many_more (g.0 n le) (says_methods ms g.1 n le)

abbrev pub ContractGood : ContractTree → Type 0
ContractGood c = (n : ℕ) → 65 ≤ n → Says without_places (contract n) c (contract_text c)

abbrev MethodsGood : List Method → Type 0
MethodsGood ms = (n : ℕ) → 65 ≤ n → Says (map bare_method) (mapped first_and_others (pair (method (kinds n 64) (braces (statements n 62) true)) (many (method (kinds n 64) (braces (statements n 62) true))))) ms (each_text method_text ms)

pub contract_good : (n : ℕ) → Gives (contract n) ContractGood
unfolding contract_text
contract_good n = gives_mapped ContractGood contract_tree_of (gives_pair (gives_many (type_good n)) (gives_mapped MethodsGood first_and_others (gives_pair (method_good n) (gives_many (method_good n))) (λ p h m le.
    says_mapped {B = both bare_method (map bare_method)} {x = p} (map bare_method) first_and_others (λ z. refl) (says_pair (h.0 m le) (says_methods p.1 h.1 m le)))))
    (λ p h m le. says_mapped {B = both (map bare_type) (map bare_method)} {x = p} without_places contract_tree_of (λ z. refl) (says_pair (says_types p.0 h.0 m le) (h.1 m le)))
