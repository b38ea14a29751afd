-- Lists of bytes.
use Rattle.std.proofs.Common.{ℕ, zero, suc, ◌<◌, List, [], ◌∷◌, ◌++◌, arith}
use Rattle.std.specs.Int.{w16, w32, to_be_bytes}
use Rattle.cs_base.specs.Fields.{IsBytes}

pub bytes-nil : IsBytes []
bytes-nil i = omega arith

pub bytes-cons : (byte : ℕ) (bytes : List ℕ) → byte < 256 → IsBytes bytes → IsBytes (byte ∷ bytes)
bytes-cons byte bytes small rest zero = small
bytes-cons byte bytes small rest (suc i) = rest i

pub bytes-append : (a b : List ℕ) → IsBytes a → IsBytes b → IsBytes (a ++ b)
bytes-append [] b of_a of_b = of_b
bytes-append (byte ∷ a) b of_a of_b = bytes-cons byte (a ++ b) (of_a zero) (bytes-append a b (λ i. of_a (suc i)) of_b)

-- numbers of 16 and of 32 bits, whatever the number is
pub bytes-16 : (n : ℕ) → IsBytes (to_be_bytes w16 n)
bytes-16 n zero = omega arith
bytes-16 n (suc zero) = omega arith
bytes-16 n (suc (suc i)) = omega arith

pub bytes-32 : (n : ℕ) → IsBytes (to_be_bytes w32 n)
bytes-32 n zero = omega arith
bytes-32 n (suc zero) = omega arith
bytes-32 n (suc (suc zero)) = omega arith
bytes-32 n (suc (suc (suc zero))) = omega arith
bytes-32 n (suc (suc (suc (suc i)))) = omega arith
