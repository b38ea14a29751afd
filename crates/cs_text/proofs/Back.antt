-- What is printed in a field is read as that item.
use Rattle.std.specs.Prelude.{◌≡◌, ℕ, ◌<◌, ◌≤◌, ◌^◌, ◌==◌, true, List, [], ◌∷◌, length, Ok}
use Rattle.std.specs.Option.{ok_or}
use Rattle.std.specs.Fmt.{decimal}
use Rattle.std.proofs.Common.{ap, refl}
use Rattle.std.proofs.lemmas.Bool.{le-leb}
use Rattle.cs_base.specs.Codes.{number_of, bytes_text}
use Rattle.cs_base.specs.Fields.{IsBytes}
use Rattle.cs_base.proofs.Numbers.{number_printed}
use Rattle.cs_base.proofs.HexTexts.{bytes_of-bytes_text}
use Rattle.cs_text.specs.Values.{number_within, bytes_within, digest_said}
use Rattle.cs_text.specs.declared.cause.Cause.TheVariants as cause

pub number_back : (n : ℕ) → n < 2 ^ 64 → ok_or (number_of (decimal n)) cause.Number ≡ Ok n
number_back n small = ap (λ found. ok_or found cause.Number) (number_printed n small)

pub within_back : (most n : ℕ) → n ≤ most → n < 2 ^ 64 → number_within most (decimal n) ≡ Ok n
within_back most n within small = rw (number_printed n small, le-leb n most within) refl

pub bytes_back : (most : ℕ) (bytes : List ℕ) → length bytes ≤ most → IsBytes bytes → bytes_within most (bytes_text bytes) ≡ Ok bytes
bytes_back most bytes short fits = rw (bytes_of-bytes_text bytes fits, le-leb (length bytes) most short) refl

pub digest_back : (digest : List ℕ) → (length digest ≡ 32) × IsBytes digest → digest_said (bytes_text digest ∷ []) ≡ Ok digest
digest_back digest fits =
    let test : (length digest == 32) ≡ true = rw (fits.0) refl in
    rw (bytes_of-bytes_text digest fits.1, test) refl
