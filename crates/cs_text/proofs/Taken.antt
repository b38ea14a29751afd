-- What is known of the values of fields that are taken.
use Rattle.std.specs.Prelude.{◌≡◌, ℕ, ◌^◌, ◌<◌, ◌≤◌, ◌==◌, ◌&&◌, nat_lt, nat_le, Bool, true, false, List, [], ◌∷◌, length, Some, Result, Ok, Err, codes, if◌then◌else◌}
use Rattle.std.specs.Option.{ok_or}
use Rattle.std.specs.Result.{result_ok}
use Rattle.std.specs.Str.{bytes_eq}
use Rattle.std.specs.Str.Parse.{digits_value}
use Rattle.std.specs.Fmt.{decimal}
use Rattle.std.proofs.Common.{sym, subst, refl, arith, inl, inr}
use Rattle.std.proofs.lemmas.Bool.{true≢false, cases_Bool, eqb-true, ltb-true, leb-true}
use Rattle.std.proofs.lemmas.Option.{cond_some}
use Rattle.hex.specs.Hex.{decode_of}
use Rattle.hex.specs.declared.error.FromHexError.{FromHexError}
use Rattle.hex.proofs.HexLemmas.{decode_of-ok}
use Rattle.cs_base.specs.Fields.{IsBytes}
use Rattle.cs_base.specs.Codes.{number_of, bytes_of}
use Rattle.cs_text.specs.declared.cause.Cause.TheVariants as cause
use Rattle.cs_text.specs.Values.{number_said, number_within, bytes_within, digest_in, digest_said}
use Rattle.cs_text.proofs.Steps.{step_ok, ok_same, when_ok, some_ok}

-- numbers

number_small : (field : List ℕ) (number : ℕ) → number_of field ≡ Some number → number < 2 ^ 64
number_small field number is =
    let (test, same) = cond_some (nat_lt (digits_value 10 field) (2 ^ 64) && bytes_eq field (decimal (digits_value 10 field))) (digits_value 10 field) number is in
    subst (λ n. n < 2 ^ 64) same (ltb-true (digits_value 10 field) (2 ^ 64) (both (nat_lt (digits_value 10 field) (2 ^ 64)) (bytes_eq field (decimal (digits_value 10 field))) test).0)
  where
    both : (one other : Bool) → (one && other) ≡ true → (one ≡ true) × (other ≡ true)
    both true other all = (refl, all)
    both false other all = absurd (true≢false (sym all))

pub number_said-ok : (fields : List (List ℕ)) (number : ℕ) → number_said fields ≡ Ok number → number < 2 ^ 64
number_said-ok [] number is = absurd cc
number_said-ok (field ∷ []) number is = number_small field number (some_ok (number_of field) cause.Number number is)
number_said-ok (field ∷ another ∷ more) number is = absurd cc

pub number_within-ok : (most : ℕ) (field : List ℕ) (number : ℕ) → number_within most field ≡ Ok number → number ≤ most
number_within-ok most field number is =
    let (n, read, after) = step_ok (ok_or (number_of field) cause.Number) (λ n. if nat_le n most then Ok n else Err cause.Limit) number is in
    let (within, done) = when_ok (nat_le n most) (Ok n) cause.Limit number after in
    subst (λ n. n ≤ most) (ok_same n number done) (leb-true n most within)

-- bytes in hex

result_some : (decoded : Result (List ℕ) FromHexError) (bytes : List ℕ) → result_ok decoded ≡ Some bytes → decoded ≡ Ok bytes
result_some (Ok read) bytes is = cc
result_some (Err error) bytes is = absurd cc

pub bytes_fit : (field bytes : List ℕ) → bytes_of field ≡ Some bytes → IsBytes bytes
bytes_fit field bytes is =
    elim (cases_Bool (bytes_eq field (codes "-"))) [
      | inl dash ↦ let none : Some [] ≡ Some bytes = rw dash at is in subst IsBytes (some_same none) (λ i. omega arith)
      | inr hex ↦ let read : result_ok (decode_of field) ≡ Some bytes = rw hex at is in (decode_of-ok field bytes (result_some (decode_of field) bytes read)).3
    ]
  where
    some_same : {a b : List ℕ} → Some a ≡ Some b → a ≡ b
    some_same same = cc

pub bytes_within-ok : (most : ℕ) (field bytes : List ℕ) → bytes_within most field ≡ Ok bytes → (length bytes ≤ most) × IsBytes bytes
bytes_within-ok most field bytes is =
    let (read, hex, after) = step_ok (ok_or (bytes_of field) cause.Hex) (λ read. if nat_le (length read) most then Ok read else Err cause.Limit) bytes is in
    let (short, done) = when_ok (nat_le (length read) most) (Ok read) cause.Limit bytes after in
    let same : read ≡ bytes = ok_same read bytes done in (
      subst (λ text. length text ≤ most) same (leb-true (length read) most short),
      subst IsBytes same (bytes_fit field read (some_ok (bytes_of field) cause.Hex read hex)),
    )

pub digest_in-ok : (field digest : List ℕ) → digest_in field ≡ Ok digest → (length digest ≡ 32) × IsBytes digest
digest_in-ok field digest is =
    let (bytes, hex, after) = step_ok (ok_or (bytes_of field) cause.Hex) (λ bytes. if length bytes == 32 then Ok bytes else Err cause.Hex) digest is in
    let (long, done) = when_ok (length bytes == 32) (Ok bytes) cause.Hex digest after in
    let same : bytes ≡ digest = ok_same bytes digest done in
    (subst (λ those. length those ≡ 32) same (eqb-true (length bytes) 32 long), subst IsBytes same (bytes_fit field bytes (some_ok (bytes_of field) cause.Hex bytes hex)))

pub digest_said-ok : (fields : List (List ℕ)) (digest : List ℕ) → digest_said fields ≡ Ok digest → (length digest ≡ 32) × IsBytes digest
digest_said-ok [] digest is = absurd cc
digest_said-ok (field ∷ []) digest is = digest_in-ok field digest is
digest_said-ok (field ∷ another ∷ more) digest is = absurd cc
