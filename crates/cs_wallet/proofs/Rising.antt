-- Numbers that rise are apart.
use Rattle.std.proofs.Common.{◌≡◌, ℕ, ℤ, pos, negsuc, ◌<ℤ◌, ◌≤ℤ◌, Bool, true, false, List, [], ◌∷◌, refl, ne_eqb, arith}
use Rattle.std.proofs.lemmas.Bool.{and_parts}
use Rattle.std.proofs.lemmas.Int.{ints}
use Rattle.std.specs.Prelude.{int_lt}
use Rattle.cs_wallet.specs.declared.entry.Entry.{Entry}
use Rattle.cs_wallet.specs.File.{same_integer, stands, are_apart}
use Rattle.cs_wallet.specs.Rising.{rise_from}

other_above : (m n : ℤ) → n <ℤ m → same_integer m n ≡ false
other_above (pos m) (pos n) lt = ne_eqb m n (λ e. omega (arith, ints))
other_above (negsuc m) (negsuc n) lt = ne_eqb m n (λ e. omega (arith, ints))
other_above (pos m) (negsuc n) lt = refl
other_above (negsuc m) (pos n) lt = refl

-- none of them is so small a number
none_stands : (last number : ℤ) (entries : List Entry) → number ≤ℤ last → rise_from last entries ≡ true
    → stands number entries ≡ false
none_stands last number [] small rises = refl
none_stands last number (entry ∷ entries) small rises =
    let parts = and_parts (int_lt last entry.number) (rise_from entry.number entries) rises in
    let above : int_lt last entry.number ≡ true = parts.0 in
    let lt : number <ℤ entry.number = omega (arith, ints) in
    let here : same_integer entry.number number ≡ false = other_above entry.number number lt in
    let behind : stands number entries ≡ false = none_stands entry.number number entries (omega (arith, ints)) parts.1 in
    rw (here, behind) refl

pub rising_apart : (last : ℤ) (entries : List Entry) → rise_from last entries ≡ true → are_apart entries ≡ true
rising_apart last [] rises = refl
rising_apart last (entry ∷ entries) rises =
    let parts = and_parts (int_lt last entry.number) (rise_from entry.number entries) rises in
    let none : stands entry.number entries ≡ false =
    none_stands entry.number entry.number entries (omega (arith, ints)) parts.1 in
    let behind : are_apart entries ≡ true = rising_apart entry.number entries parts.1 in
    rw (none, behind) refl
