-- The law of the form of keys.
use Rattle.std.proofs.Common.{◌≡◌, ℕ, zero, suc, ◌<◌, ◌^◌, ◌++◌, List, ◌∷◌, Some, refl, arith}
use Rattle.std.specs.Int.{w16, w64, to_be_bytes}
use Rattle.cs_base.specs.declared.key.Key.{Key}
use Rattle.cs_base.specs.declared.key.Key.TheVariants.{Object, Dummy}
use Rattle.cs_base.specs.Fields.{IsBytes, IsForm, Splits, number_at, pair_at}
use Rattle.cs_base.proofs.Forms.{wide16, wide64, number_form, bytes_form, pair_of}
use Rattle.cs_tx_value.specs.laws.Kinds.{kinds_form, takes_part, part_kinded, Kinded}
use Rattle.cs_tx_value.specs.Key.{key_encoding, KeyFits, dummy_of, key_kind_at, key_at}

dummy_form : IsForm (λ p. to_be_bytes w16 p.0 ++ to_be_bytes w64 p.1) (λ p. (p.0 < 2 ^ 16) × (p.1 < 2 ^ 64)) (pair_at (number_at w16) (number_at w64))
dummy_form = pair_of (number_form w16 (2 ^ 16) wide16) (number_form w64 (2 ^ 64) wide64)

key_takes : (kind : ℕ) (bytes : List ℕ) (k : Key) (rest : List ℕ) → IsBytes bytes
    → key_kind_at kind bytes ≡ Some (k, rest) → Splits (kind ∷ bytes) (key_encoding k) rest × KeyFits k
key_takes zero bytes k rest fits is =
    takes_part key_encoding KeyFits key_kind_at (bytes_form 32) Object 0 (λ d. refl) (λ d h. h) bytes k rest fits is
key_takes (suc zero) bytes k rest fits is =
    takes_part key_encoding KeyFits key_kind_at dummy_form dummy_of 1 (λ p. refl) (λ p h. h) bytes k rest fits is
key_takes (suc (suc kind)) bytes k rest fits is = absurd cc

key_again : (k : Key) (rest : List ℕ) → KeyFits k → Kinded key_encoding key_kind_at k rest
key_again (Object d) rest fits =
    part_kinded key_encoding KeyFits key_kind_at (bytes_form 32) Object 0 (omega arith) (λ d. refl) (λ bytes. refl) d
    rest fits
key_again (Dummy s n) rest fits =
    part_kinded key_encoding KeyFits key_kind_at dummy_form dummy_of 1 (omega arith) (λ p. refl) (λ bytes. refl) (s, n)
    rest fits

pub key_form : IsForm key_encoding KeyFits key_at
key_form = kinds_form key_encoding KeyFits key_kind_at key_takes key_again
