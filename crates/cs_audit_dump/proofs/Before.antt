-- A dump is read behind lines that begin none.
use Rattle.std.specs.Prelude.{◌≢◌, ◌==◌, not, ◌&&◌, if◌then◌else◌, slice_index, codes}
use Rattle.std.specs.List.{All, AllByRecursion}
use Rattle.std.specs.Option.{ok_or}
use Rattle.std.specs.Str.{bytes_eq}
use Rattle.std.specs.Str.Lines.{lines, strip_carriage_return}
use Rattle.std.proofs.Common.{◌≡◌, inl, inr, ℕ, ◌+◌, ◌-◌, ◌≤◌, Bool, true, false, List, [], ◌∷◌, ◌++◌, length, get_or, take, Option, Some, None, Result, Ok, Err, refl, sym, ap, ◌∙◌, append_assoc, arith}
use Rattle.std.proofs.lemmas.Bool.{and_parts, cases_Bool, le-leb}
use Rattle.std.proofs.lemmas.List.{length-append}
use Rattle.std.proofs.lemmas.List.Elements.{All-get_or, All-weaker}
use Rattle.std.proofs.lemmas.List.Splits.{slice_split_at}
use Rattle.std.proofs.lemmas.Slice.Eq.{bytes_eq-Decides}
use Rattle.cs_base.specs.Lines.{fields_of}
use Rattle.cs_base.proofs.Parting.{parts, lines_at}
use Rattle.cs_text.specs.Text.{line_step, then_lines, read_lines, whole, whole_read, part_read, whole_of}
use Rattle.cs_text.specs.declared.cause.Cause.{Cause}
use Rattle.cs_text.specs.declared.cause.Cause.TheVariants as cause
use Rattle.cs_text.specs.declared.cause.Refusal.{Refusal}
use Rattle.cs_audit_dump.specs.Before.{is_within_line, BeginsNoDump, text_of_lines, DumpIsReadBehind}
use Rattle.cs_audit_dump.specs.Drafts.{empty_dump_draft}
use Rattle.cs_audit_dump.specs.Lines.{dump_at_stage}
use Rattle.cs_audit_dump.specs.Text.{dump_in, dump_form, dump_of}
use Rattle.cs_audit_dump.specs.declared.draft.Draft.{Draft}
use Rattle.cs_audit_dump.specs.declared.draft.Stage.TheVariants as stage
use Rattle.cs_audit_dump.specs.declared.dump.Dump.{Dump}
use Rattle.cs_audit_dump.proofs.Steps.{dump_step}

-- ---- one line before a dump is passed over

abbrev kept : Draft → Result Draft Cause
kept draft = Ok draft

either : (b : Bool) (later : Result Draft Cause) → later ≡ kept empty_dump_draft → (if b then kept empty_dump_draft else later) ≡ kept empty_dump_draft
either true later is = refl
either false later is = is

no_dump : (word : List ℕ) → word ∷ [] ≢ codes "dump" ∷ [] → bytes_eq word (codes "dump") ≡ false
no_dump word other = elim (cases_Bool (bytes_eq word (codes "dump"))) [
  | inl is ↦ absurd (other (ap (λ (w : List ℕ). w ∷ []) ((bytes_eq-Decides word (codes "dump")).0 is)))
  | inr apart ↦ apart
]

passed : (number : ℕ) (fields : List (List ℕ)) → fields ≢ codes "dump" ∷ [] → line_step dump_form number empty_dump_draft fields ≡ kept empty_dump_draft
passed number [] other = refl
passed number (word ∷ []) other =
    either (slice_index word 0 == 35) (kept (if bytes_eq word (codes "dump") then dump_at_stage empty_dump_draft stage.Shards else empty_dump_draft))
    (ap (λ (b : Bool). kept (if b then dump_at_stage empty_dump_draft stage.Shards else empty_dump_draft)) (no_dump word other))
passed number (word ∷ field ∷ fields) other = either (slice_index word 0 == 35) (kept empty_dump_draft) refl

-- ---- the lines of a text behind such lines

not_so : (b : Bool) → not b ≡ true → b ≡ false
not_so true is = absurd cc
not_so false is = refl

no_feed : (byte : ℕ) → is_within_line byte ≡ true → (byte == 10) ≡ false
no_feed byte is = not_so (byte == 10) (and_parts (not (byte == 10)) (not (byte == 13)) is).0

no_return : (text : List ℕ) → All (λ byte. is_within_line byte ≡ true) text → strip_carriage_return text ≡ text
no_return [] all = refl
no_return (byte ∷ bytes) all =
    let at = length (byte ∷ bytes) - 1 in
    let last : is_within_line (get_or (byte ∷ bytes) at 0) ≡ true = All-get_or (λ (b : ℕ). is_within_line b ≡ true) (byte ∷ bytes) at 0 (omega arith) all in
    let other : (slice_index (byte ∷ bytes) at == 13) ≡ false = not_so (slice_index (byte ∷ bytes) at == 13) (and_parts (not (get_or (byte ∷ bytes) at 0 == 10)) (not (get_or (byte ∷ bytes) at 0 == 13)) last).1 in
    ap (λ (b : Bool). if b then take at (byte ∷ bytes) else byte ∷ bytes) other

lines-behind : (before : List (List ℕ)) (text : List ℕ) → AllByRecursion BeginsNoDump before → lines (text_of_lines before ++ text) ≡ before ++ lines text
lines-behind [] text all = refl
lines-behind (line ∷ before) text all =
    let rest = text_of_lines before ++ text in
    let joined : text_of_lines (line ∷ before) ++ text ≡ line ++ 10 ∷ rest = append_assoc (line ++ 10 ∷ []) (text_of_lines before) text ∙ append_assoc line (10 ∷ []) rest in
    let free : All (λ byte. (byte == 10) ≡ false) line = All-weaker (λ (b : ℕ). is_within_line b ≡ true) (λ (b : ℕ). (b == 10) ≡ false) no_feed line all.0.within in
    let cut : parts (line ++ 10 ∷ rest) ≡ line ∷ parts rest = slice_split_at (λ byte. byte == 10) line 10 rest free refl in
    ap lines joined ∙ lines_at (line ++ 10 ∷ rest) line rest cut
    ∙ ap (λ (first : List ℕ). first ∷ lines rest) (no_return line all.0.within)
    ∙ ap (λ (others : List (List ℕ)). line ∷ others) (lines-behind before text all.1)

-- ---- they are read one after the other

-- what isn't bad is none, whatever number the first line has
renumbered : (all : List (List ℕ)) (draft last : Draft) (n m : ℕ) → read_lines dump_form draft n all ≡ Ok last → read_lines dump_form draft m all ≡ Ok last
renumbered [] draft last n m is = is
renumbered (line ∷ more) draft last n m is = by (dump_step draft (fields_of line)) (λ next here. renumbered more next last (n + 1) (m + 1) here) is
  where
    by : (step : Result Draft Cause) → ((next : Draft) → read_lines dump_form next (n + 1) more ≡ Ok last → read_lines dump_form next (m + 1) more ≡ Ok last)
        → then_lines n step (λ next. read_lines dump_form next (n + 1) more) ≡ Ok last → then_lines m step (λ next. read_lines dump_form next (m + 1) more) ≡ Ok last
    by (Ok next) go here = go next here
    by (Err bad) go here = absurd cc

read-behind : (before more : List (List ℕ)) (last : Draft) (n m : ℕ) → AllByRecursion BeginsNoDump before → read_lines dump_form empty_dump_draft m more ≡ Ok last → read_lines dump_form empty_dump_draft n (before ++ more) ≡ Ok last
read-behind [] more last n m all is = renumbered more empty_dump_draft last m n is
read-behind (line ∷ before) more last n m all is =
    ap (λ (step : Result Draft Cause). then_lines n step (λ next. read_lines dump_form next (n + 1) (before ++ more))) (passed n (fields_of line) all.0.other)
    ∙ read-behind before more last (n + 1) m all.1 is

-- ---- the whole text

abbrev missing : ℕ → Refusal
missing number = record { line = number; cause = cause.End }

told : (found : Option Dump) (refusal : Refusal) (dump : Dump) → ok_or found refusal ≡ Ok dump → found ≡ Some dump
told None refusal dump is = absurd cc
told (Some x) refusal dump is = let q : Ok x ≡ Ok dump = is in let same : x ≡ dump = cc in ap Some same

-- a text that is read as a dump: what its lines come to
pub record ReadAs (text : List ℕ) (dump : Dump) : Type 0 where
  pub last : Draft
  pub read : read_lines dump_form empty_dump_draft 1 (lines text) ≡ Ok last
  pub ends : dump_in last ≡ Some dump

read-as : (limit : ℕ) (text : List ℕ) (dump : Dump) → length text ≤ limit → whole_of dump_form limit text ≡ Ok dump → ReadAs text dump
unfolding whole_of
read-as limit text dump short is =
    by (read_lines dump_form empty_dump_draft 1 (lines text)) refl
    (sym (ap (λ (b : Bool). if b then whole_read dump_form text else part_read dump_form (take limit text)) (le-leb (length text) limit short)) ∙ is)
  where
    by : (result : Result Draft Refusal) → read_lines dump_form empty_dump_draft 1 (lines text) ≡ result → whole dump_form (length (lines text) + 1) result ≡ Ok dump → ReadAs text dump
    by (Ok last) read ends = record { last = last; read = read; ends = told (dump_in last) (missing (length (lines text) + 1)) dump ends }
    by (Err refusal) read ends = absurd cc

as-read : (limit : ℕ) (text : List ℕ) (dump : Dump) → length text ≤ limit → ReadAs text dump → whole_of dump_form limit text ≡ Ok dump
unfolding whole_of
as-read limit text dump short is =
    ap (λ (b : Bool). if b then whole_read dump_form text else part_read dump_form (take limit text)) (le-leb (length text) limit short)
    ∙ ap (whole dump_form (length (lines text) + 1)) is.read
    ∙ ap (λ (found : Option Dump). ok_or found (missing (length (lines text) + 1))) is.ends

behind : (before : List (List ℕ)) (text : List ℕ) (dump : Dump) → AllByRecursion BeginsNoDump before → ReadAs text dump → ReadAs (text_of_lines before ++ text) dump
behind before text dump all is = record {
  last = is.last;
  read = ap (read_lines dump_form empty_dump_draft 1) (lines-behind before text all) ∙ read-behind before (lines text) is.last 1 1 all is.read;
  ends = is.ends;
}

pub read-behind-lines : (limit : ℕ) → DumpIsReadBehind limit
unfolding dump_of
read-behind-lines limit before text dump all short is =
    let alone : length text ≤ limit = omega (arith, length-append (text_of_lines before) text) in
    as-read limit (text_of_lines before ++ text) dump short (behind before text dump all (read-as limit text dump alone is))
