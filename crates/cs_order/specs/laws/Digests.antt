-- The tests of bytes and digests say what they are.
use Rattle.std.proofs.Common.{◌≡◌, ℕ, zero, suc, ◌==◌, true, List, [], ◌∷◌, length, refl, arith, lt-ltb, ltb-true, eqb-true}
use Rattle.std.proofs.lemmas.Bool.{and_parts}
use Rattle.cs_base.specs.Fields.{IsBytes}
use Rattle.cs_order.specs.Digests.{are_bytes, digest_fits}

pub bytes-pass : (numbers : List ℕ) → IsBytes numbers → are_bytes numbers ≡ true
bytes-pass [] are = refl
bytes-pass (number ∷ numbers) are = rw (lt-ltb number 256 (are zero)) (bytes-pass numbers (λ i. are (suc i)))

pub bytes-are : (numbers : List ℕ) → are_bytes numbers ≡ true → IsBytes numbers
bytes-are [] pass i = omega arith
bytes-are (number ∷ numbers) pass zero = ltb-true number 256 (and_parts _ _ pass).0
bytes-are (number ∷ numbers) pass (suc i) = bytes-are numbers (and_parts _ _ pass).1 i

pub digest-passes : (digest : List ℕ) → (length digest ≡ 32) × IsBytes digest → digest_fits digest ≡ true
digest-passes digest is = rw is.0 (bytes-pass digest is.1)

pub digest-is : (digest : List ℕ) → digest_fits digest ≡ true → (length digest ≡ 32) × IsBytes digest
digest-is digest pass =
    let parts = and_parts (length digest == 32) (are_bytes digest) pass in
    (eqb-true (length digest) 32 parts.0, bytes-are digest parts.1)
