-- A text of lines is cut into these lines, and each of them into its fields.
use Rattle.std.specs.Prelude.{◌≡◌, ℕ, ◌+◌, ◌-◌, ◌≤◌, ◌==◌, not, true, false, List, [], ◌∷◌, ◌++◌, length, map, filter, slice_index, Some, Result, Ok}
use Rattle.std.specs.List.{All, AllByRecursion, slice_split}
use Rattle.std.specs.Option.{ok_or}
use Rattle.std.specs.Str.Lines.{lines, strip_carriage_return}
use Rattle.std.proofs.Common.{◌∙◌, sym, ap, refl, arith, append_assoc, get_or}
use Rattle.std.proofs.lemmas.Bool.{le-leb}
use Rattle.std.proofs.lemmas.Bool.Decides.{nat_tests}
use Rattle.std.proofs.lemmas.List.{append-nil}
use Rattle.std.proofs.lemmas.List.Elements.{All-nil, All-cons, All-append, All-weaker, All-get_or}
use Rattle.std.proofs.lemmas.List.Splits.{slice_split_none, slice_split_at}
use Rattle.cs_base.specs.Fields.{each}
use Rattle.cs_base.specs.Lines.{fields_of}
use Rattle.cs_base.proofs.Parting.{parts, lines_at}
use Rattle.cs_text.specs.Text.{TextForm, line_step, then_lines, read_lines, whole, whole_of}
use Rattle.cs_text.specs.declared.cause.Cause.TheVariants as cause
use Rattle.cs_text.specs.declared.cause.Refusal.{Refusal}
use Rattle.cs_text.specs.Printed.{line_text}
use Rattle.cs_text.proofs.Plain.{IsVisible, IsField, IsLine}

-- fields, each behind a space
abbrev behind_spaces : List (List ℕ) → List ℕ
behind_spaces fields = each (λ field. 32 ∷ field) fields

-- a line without its LF
abbrev pub row : List (List ℕ) → List ℕ
row [] = []
row (word ∷ fields) = word ++ behind_spaces fields

-- the fields of a row

not_space : (byte : ℕ) → IsVisible byte → (byte == 32) ≡ false
not_space byte visible = grind (arith, nat_tests)

no_space : (field : List ℕ) → IsField field → All (λ byte. (byte == 32) ≡ false) field
no_space field is = All-weaker IsVisible (λ byte. (byte == 32) ≡ false) not_space field is.visible

split-row : (word : List ℕ) (fields : List (List ℕ)) → IsField word → AllByRecursion IsField fields → slice_split (λ byte. byte == 32) (word ++ behind_spaces fields) ≡ word ∷ fields
split-row word [] is all = ap (slice_split (λ byte. byte == 32)) (append-nil word) ∙ slice_split_none (λ byte. byte == 32) word (no_space word is)
split-row word (field ∷ fields) is all =
    slice_split_at (λ byte. byte == 32) word 32 (field ++ behind_spaces fields) (no_space word is) refl
    ∙ ap (λ found. word ∷ found) (split-row field fields all.0 all.1)

not_empty : (field : List ℕ) → IsField field → not (length field == 0) ≡ true
not_empty field is = let some = is.some in grind (arith, nat_tests)

filter-fields : (fields : List (List ℕ)) → AllByRecursion IsField fields → filter (λ field. not (length field == 0)) fields ≡ fields
filter-fields [] all = refl
filter-fields (field ∷ fields) all = rw (not_empty field all.0) (ap (λ found. field ∷ found) (filter-fields fields all.1))

pub fields_of-row : (line : List (List ℕ)) → IsLine line → fields_of (row line) ≡ line
fields_of-row [] is = absurd is
fields_of-row (word ∷ fields) is =
    ap (filter (λ field. not (length field == 0))) (split-row word fields is.0 is.1) ∙ filter-fields (word ∷ fields) is

-- the lines of a text

-- a byte that ends no line
abbrev Stays : ℕ → Type 0
Stays byte = 32 ≤ byte

visible_stays : (byte : ℕ) → IsVisible byte → Stays byte
visible_stays byte visible = grind (arith, nat_tests)

field_stays : (field : List ℕ) → IsField field → All Stays field
field_stays field is = All-weaker IsVisible Stays visible_stays field is.visible

fields_stay : (fields : List (List ℕ)) → AllByRecursion IsField fields → All Stays (behind_spaces fields)
fields_stay [] all = All-nil Stays
fields_stay (field ∷ fields) all =
    All-append Stays (32 ∷ field) (behind_spaces fields) (All-cons Stays 32 field (omega arith) (field_stays field all.0)) (fields_stay fields all.1)

row_stays : (line : List (List ℕ)) → IsLine line → All Stays (row line)
row_stays [] is = absurd is
row_stays (word ∷ fields) is = All-append Stays word (behind_spaces fields) (field_stays word is.0) (fields_stay fields is.1)

no_return : (text : List ℕ) → All Stays text → strip_carriage_return text ≡ text
no_return [] all = refl
no_return (byte ∷ bytes) all =
    let last : 32 ≤ get_or (byte ∷ bytes) (length (byte ∷ bytes) - 1) 0 = All-get_or Stays (byte ∷ bytes) (length (byte ∷ bytes) - 1) 0 (omega arith) all in
    let other : (slice_index (byte ∷ bytes) (length (byte ∷ bytes) - 1) == 13) ≡ false = grind (arith, nat_tests) in
    rw other refl

no_feed : (byte : ℕ) → Stays byte → (byte == 10) ≡ false
no_feed byte stays = grind (arith, nat_tests)

line_text-row : (line : List (List ℕ)) (rest : List ℕ) → IsLine line → line_text line ++ rest ≡ row line ++ 10 ∷ rest
line_text-row [] rest is = absurd is
line_text-row (word ∷ fields) rest is =
    append_assoc word (behind_spaces fields ++ 10 ∷ []) rest
    ∙ ap (λ text. word ++ text) (append_assoc (behind_spaces fields) (10 ∷ []) rest)
    ∙ sym (append_assoc word (behind_spaces fields) (10 ∷ rest))

pub lines_of-text : (all : List (List (List ℕ))) → AllByRecursion IsLine all → lines (each line_text all) ≡ map row all
lines_of-text [] is = refl
lines_of-text (line ∷ more) is =
    let rest = each line_text more in
    let stays = row_stays line is.0 in
    let cut : parts (row line ++ 10 ∷ rest) ≡ row line ∷ parts rest = slice_split_at (λ byte. byte == 10) (row line) 10 rest (All-weaker Stays (λ byte. (byte == 10) ≡ false) no_feed (row line) stays) refl in
    ap lines (line_text-row line rest is.0)
    ∙ lines_at (row line ++ 10 ∷ rest) (row line) rest cut
    ∙ ap (λ first. first ∷ lines rest) (no_return (row line) stays)
    ∙ ap (λ others. row line ∷ others) (lines_of-text more is.1)

-- reading lines by their fields

module _ {Draft Whole : Type 0} (form : TextForm Draft Whole) where
  abbrev pub read_fields : Draft → ℕ → List (List (List ℕ)) → Result Draft Refusal
  read_fields draft number [] = Ok draft
  read_fields draft number (line ∷ more) = then_lines number (line_step form number draft line) (λ next. read_fields next (number + 1) more)

  pub read_lines-rows : (all : List (List (List ℕ))) (draft : Draft) (number : ℕ) → AllByRecursion IsLine all → read_lines form draft number (map row all) ≡ read_fields draft number all
  read_lines-rows [] draft number is = refl
  read_lines-rows (line ∷ more) draft number is =
      ap (λ fields. then_lines number (line_step form number draft fields) (λ next. read_lines form next (number + 1) (map row more))) (fields_of-row line is.0)
      ∙ (λ i. then_lines number (line_step form number draft line) (λ next. read_lines-rows more next (number + 1) is.1 i))

  -- one line, and then others
  pub read-cons : (draft mid last : Draft) (number : ℕ) (line : List (List ℕ)) (more : List (List (List ℕ))) → line_step form number draft line ≡ Ok mid
      → read_fields mid (number + 1) more ≡ Ok last → read_fields draft number (line ∷ more) ≡ Ok last
  read-cons draft mid last number line more step rest = rw step rest

  -- a text of lines that are read one after the other
  pub text_again : (all : List (List (List ℕ))) (last : Draft) (said : Whole) (limit : ℕ) → AllByRecursion IsLine all → read_fields form.start 1 all ≡ Ok last
      → form.finish last ≡ Some said → length (each line_text all) ≤ limit → whole_of form limit (each line_text all) ≡ Ok said
  unfolding whole_of
  text_again all last said limit are read ends short =
      let text = each line_text all in
      let found : read_lines form form.start 1 (lines text) ≡ Ok last =
      ap (read_lines form form.start 1) (lines_of-text all are) ∙ read_lines-rows all form.start 1 are ∙ read in
      rw (le-leb (length text) limit short) (ap (whole form (length (lines text) + 1)) found ∙ ap (λ found. ok_or found (record { line = length (lines text) + 1; cause = cause.End })) ends)
