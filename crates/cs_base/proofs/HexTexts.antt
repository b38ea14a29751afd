-- The hex text of bytes is read as those bytes.
use Rattle.std.specs.Prelude.{◌≡◌, ℕ, List, [], ◌∷◌, length, false, Some, codes}
use Rattle.std.specs.Str.{bytes_eq}
use Rattle.std.specs.Result.{result_ok}
use Rattle.std.proofs.Common.{ap, ◌∙◌, refl, arith, inl, inr}
use Rattle.std.proofs.lemmas.Bool.{cases_Bool}
use Rattle.std.proofs.lemmas.Slice.Eq.{bytes_eq-Decides}
use Rattle.hex.specs.Hex.{decode_of, encode_lower, lower_digits}
use Rattle.hex.proofs.HexLemmas.{decode_of-encode_lower, length-encode_with}
use Rattle.cs_base.specs.Fields.{IsBytes}
use Rattle.cs_base.specs.Codes.{bytes_of, bytes_text}

-- hex has an even number of digits, and `-` is one byte
bytes_eq-encode_lower : (bytes : List ℕ) → bytes_eq (encode_lower bytes) (codes "-") ≡ false
bytes_eq-encode_lower bytes =
    elim (cases_Bool (bytes_eq (encode_lower bytes) (codes "-"))) [
      | inr other ↦ other
      | inl same ↦ absurd (let one = ap length ((bytes_eq-Decides (encode_lower bytes) (codes "-")).0 same) in omega (arith, length-encode_with lower_digits bytes))
    ]

bytes_of-other : (field : List ℕ) → bytes_eq field (codes "-") ≡ false → bytes_of field ≡ result_ok (decode_of field)
bytes_of-other field other = rw other refl

pub bytes_of-bytes_text : (bytes : List ℕ) → IsBytes bytes → bytes_of (bytes_text bytes) ≡ Some bytes
bytes_of-bytes_text [] fits = refl
bytes_of-bytes_text (byte ∷ bytes) fits =
    bytes_of-other (encode_lower (byte ∷ bytes)) (bytes_eq-encode_lower (byte ∷ bytes)) ∙ ap result_ok (decode_of-encode_lower (byte ∷ bytes) fits)
