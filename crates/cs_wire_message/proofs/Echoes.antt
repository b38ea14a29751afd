-- Reading digests that rise, as a loop does.
use Rattle.std.proofs.Common.{◌≡◌, ℕ, suc, ◌-◌, ◌+◌, ◌≤◌, ◌<◌, List, [], ◌∷◌, ◌++◌, Option, Some, None, refl, sym, ap, ◌∙◌, append_assoc, arith}
use Rattle.std.proofs.lemmas.List.{append-nil}
use Rattle.cs_base.specs.Fields.{Found, ◌>>=◌, behind}
use Rattle.cs_base.proofs.Many.{with_front}
use Rattle.cs_tx_value.specs.declared.form.FormError.{FormError}
use Rattle.cs_tx_value.specs.declared.form.FormError.TheVariants as errors
use Rattle.cs_tx_value.specs.Reading.{Misses}
use Rattle.cs_wire_message.specs.Reading.{echo_at, rising_at}

abbrev Echo : Type 0
Echo = List ℕ × ℕ

regroup : (front : List Echo) (n : Echo) (found : Found (List Echo)) → with_front front (found >>= λ x. Some (n ∷ x.0, x.1)) ≡ with_front (front ++ n ∷ []) found
regroup front n (Some x) = ap (λ (ns : List Echo). Some (ns, x.1)) (simp append_assoc)
regroup front n None = refl

behind_more : (x : Echo) (found : Found (List Echo)) → behind (found >>= λ others. Some (x ∷ others.0, others.1)) ≡ behind found
behind_more x (Some xs) = refl
behind_more x None = refl

module _ (view : ℕ) (last : Option (List ℕ)) where
  pub goes_on : (front : List Echo) (count i : ℕ) (bytes : List ℕ) (n : Echo) (after : List ℕ) (total : Found (List Echo)) → i < count → echo_at view last bytes ≡ Some (n, after)
      → with_front front (rising_at view last (count - i) bytes) ≡ total → with_front (front ++ n ∷ []) (rising_at view (Some n.0) (count - (i + 1)) after) ≡ total
  unfolding rising_at
  goes_on front count i bytes n after total lt h so_far =
      let k : count - i ≡ suc (count - (i + 1)) = omega arith in
      let one : with_front front (rising_at view last (count - i) bytes) ≡ with_front (front ++ n ∷ []) (rising_at view (Some n.0) (count - (i + 1)) after) = rw (k, h) (regroup front n (rising_at view (Some n.0) (count - (i + 1)) after)) in
      sym one ∙ so_far

  pub stops : (front : List Echo) (count i : ℕ) (bytes : List ℕ) (total : Found (List Echo)) → i < count → echo_at view last bytes ≡ None
      → with_front front (rising_at view last (count - i) bytes) ≡ total → total ≡ None
  unfolding rising_at
  stops front count i bytes total lt h so_far =
      let k : count - i ≡ suc (count - (i + 1)) = omega arith in
      let one : with_front front (rising_at view last (count - i) bytes) ≡ None = rw (k, h) refl in
      sym so_far ∙ one

  pub is_done : (front : List Echo) (count i : ℕ) (bytes : List ℕ) (total : Found (List Echo)) → count ≤ i → with_front front (rising_at view last (count - i) bytes) ≡ total → total ≡ Some (front, bytes)
  unfolding rising_at
  is_done front count i bytes total le so_far =
      let k : count - i ≡ 0 = omega arith in
      let one : with_front front (rising_at view last (count - i) bytes) ≡ Some (front, bytes) = rw k (ap (λ (ns : List Echo). Some (ns, bytes)) (append-nil front)) in
      sym so_far ∙ one

  pub passes_on : (count i : ℕ) (bytes : List ℕ) (n : Echo) (after : List ℕ) (total : Option (List ℕ)) → i < count → echo_at view last bytes ≡ Some (n, after)
      → behind (rising_at view last (count - i) bytes) ≡ total → behind (rising_at view (Some n.0) (count - (i + 1)) after) ≡ total
  unfolding rising_at
  passes_on count i bytes n after total lt h so_far =
      let k : count - i ≡ suc (count - (i + 1)) = omega arith in
      let one : behind (rising_at view last (count - i) bytes) ≡ behind (rising_at view (Some n.0) (count - (i + 1)) after) = rw (k, h) (behind_more n (rising_at view (Some n.0) (count - (i + 1)) after)) in
      sym one ∙ so_far

  pub passes_not : (count i : ℕ) (bytes : List ℕ) (total : Option (List ℕ)) → i < count → echo_at view last bytes ≡ None → behind (rising_at view last (count - i) bytes) ≡ total → total ≡ None
  unfolding rising_at
  passes_not count i bytes total lt h so_far =
      let k : count - i ≡ suc (count - (i + 1)) = omega arith in
      let one : behind (rising_at view last (count - i) bytes) ≡ None = rw (k, h) refl in
      sym so_far ∙ one

  pub passed_all : (count i : ℕ) (bytes : List ℕ) (total : Option (List ℕ)) → count ≤ i → behind (rising_at view last (count - i) bytes) ≡ total → total ≡ Some bytes
  unfolding rising_at
  passed_all count i bytes total le so_far =
      let k : count - i ≡ 0 = omega arith in
      let one : behind (rising_at view last (count - i) bytes) ≡ Some bytes = rw k refl in
      sym so_far ∙ one

  -- the exits of a loop that was refused
  pub ends : (e : FormError) (front : List Echo) (count i : ℕ) (bytes : List ℕ) (total : Found (List Echo)) → i < count → (e ≡ errors.BadForm) × (echo_at view last bytes ≡ None)
      → with_front front (rising_at view last (count - i) bytes) ≡ total → Misses e total
  ends errors.Memory front count i bytes total lt h so_far = tt
  ends errors.BadForm front count i bytes total lt h so_far = stops front count i bytes total lt h.1 so_far
  ends errors.TooLong front count i bytes total lt h so_far = let is = h.0 in absurd cc
