-- The law of the form of values behind their length.
use Rattle.std.proofs.Common.{◌≡◌, ℕ, ◌+◌, ◌-◌, ◌^◌, ◌<◌, cond, eqb, List, ◌++◌, length, Some, None, refl, ap, subst, ◌∙◌, append_assoc, arith}
use Rattle.std.specs.Int.{w32, to_be_bytes}
use Rattle.std.proofs.lemmas.Bool.{eqb-true, eq-eqb}
use Rattle.std.proofs.lemmas.List.{length-append}
use Rattle.cs_base.specs.Fields.{Found, ◌>>=◌, number_at, Splits, IsForm}
use Rattle.cs_base.proofs.Forms.{wide32, number_form, bind_some, when_some, some_is, Takes-then}
use Rattle.cs_tx_types.specs.Sized.{sized, sized_at}

numbers : IsForm (to_be_bytes w32) (λ n. n < 2 ^ 32) (number_at w32)
numbers = number_form w32 (2 ^ 32) wide32

-- the form of what is always shorter than four bytes can say
pub sized_of : {X : Type 0} {write : X → List ℕ} {Fits : X → Type 0} {read : List ℕ → Found X} → IsForm write Fits read
    → ((x : X) → Fits x → length (write x) < 2 ^ 32)
    → IsForm (sized write) Fits (sized_at read)
unfolding sized_at sized
sized_of {X} {write = write} {Fits = Fits} {read = read} form small = record {
  takes = λ bytes x rest fits e.
      let a =
      bind_some (number_at w32 bytes)
      (λ size. read size.1 >>= λ found. cond (eqb (length size.1 - length found.1) size.0) (Some found) None)
      (x, rest) e in
      let b =
      bind_some (read a.0.1) (λ found. cond (eqb (length a.0.1 - length found.1) a.0.0) (Some found) None) (x, rest)
      a.2 in
      let g = when_some (eqb (length a.0.1 - length b.0.1) a.0.0) (Some b.0) (x, rest) b.2 in
      let first = numbers.takes bytes a.0.0 a.0.1 fits a.1 in
      let second = form.takes a.0.1 b.0.0 b.0.1 first.0.rest_fits b.1 in
      let just : length a.0.1 - length b.0.1 ≡ a.0.0 = eqb-true _ _ g.0 in
      let whole : length a.0.1 ≡ length (write b.0.0) + length b.0.1 =
      ap (λ (r : List ℕ). length r) second.0.parts ∙ length-append (write b.0.0) b.0.1 in
      let is : a.0.0 ≡ length (write b.0.0) = omega (arith, just, whole) in
      let both = Takes-then bytes (to_be_bytes w32 a.0.0) a.0.1 (write b.0.0) b.0.1 first.0 second.0 in
      subst (λ (p : X × List ℕ). Splits bytes (sized write p.0) p.1 × Fits p.0) (some_is b.0 (x, rest) g.1)
      (subst (λ (n : ℕ). Splits bytes (to_be_bytes w32 n ++ write b.0.0) b.0.1) is both, second.1);
  again = λ x rest fits.
      let regrouped : sized write x ++ rest ≡ to_be_bytes w32 (length (write x)) ++ (write x ++ rest) =
      append_assoc (to_be_bytes w32 (length (write x))) (write x) rest in
      let just : length (write x ++ rest) - length rest ≡ length (write x) =
      omega (arith, length-append (write x) rest) in
      ap (sized_at read) regrouped ∙ rw
      (numbers.again (length (write x)) (write x ++ rest) (small x fits), form.again x rest fits, just, eq-eqb (length (write x)) (length (write x)) refl)
      refl;
}

pub length_sized : {X : Type 0} (write : X → List ℕ) (x : X) → length (sized write x) ≡ 4 + length (write x)
unfolding sized
length_sized write x = length-append (to_be_bytes w32 (length (write x))) (write x)
