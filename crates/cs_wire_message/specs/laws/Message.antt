-- The laws of the forms of bodies: what is found was written so, and what fits is found again.
use Rattle.std.proofs.Common.{◌≡◌, ℕ, zero, suc, ◌^◌, ◌<◌, ◌≤◌, ◌++◌, Bool, true, false, cond, List, [], ◌∷◌, length, Option, Some, None, refl, ap, sym, subst, ◌∙◌, append_assoc, arith}
use Rattle.std.specs.Prelude.{nat_le, nat_lt, if◌then◌else◌}
use Rattle.std.specs.Int.{w8, w16, w64, to_be_bytes}
use Rattle.std.proofs.lemmas.Bool.{leb-true, le-leb, ltb-true, lt-ltb}
use Rattle.cs_base.specs.declared.limits.TheConstants.{LAST_VIEW, MOST_ECHOED, MOST_ACTIONS}
use Rattle.cs_base.specs.declared.version.Version.{Version}
use Rattle.cs_base.specs.declared.version.Version.TheVariants.{One, Two}
use Rattle.cs_base.specs.Fields.{IsBytes, ◌>>=◌, ◌<$>◌, each, counted, Splits, IsForm, pair_at}
use Rattle.cs_base.proofs.Forms.{wide16, number_form, byte_form, bytes_form, pair_of, tested_of, mapped_of, weaker_form, upto_form, bind_some, when_some, some_is, Takes-then}
use Rattle.cs_tx_value.specs.Kinds.{kinds_at}
use Rattle.cs_tx_value.specs.laws.Kinds.{kinds_form, takes_part, part_kinded, takes_bare, bare_kinded, Kinded}
use Rattle.cs_tx_value.specs.laws.Key.{key_form}
use Rattle.cs_tx_value.specs.Object.{DigestFits}
use Rattle.cs_tx_value.specs.Key.{key_encoding, KeyFits}
use Rattle.cs_tx_types.specs.Session.{session_encoding, SessionFits, vote_encoding}
use Rattle.cs_tx_types.specs.Entry.{entry_encoding, EntryFits}
use Rattle.cs_tx_types.specs.Log.{place_encoding}
use Rattle.cs_tx_types.specs.State.{state_encoding, StateFits}
use Rattle.cs_tx_types.specs.laws.Session.{session_form, vote_form, state_form}
use Rattle.cs_tx_types.specs.laws.Entry.{entry_form}
use Rattle.cs_tx_types.specs.laws.Log.{given_form, slot_form, checkpoint_form, proof_form}
use Rattle.cs_wire_message.specs.declared.message.Message.{Message}
use Rattle.cs_wire_message.specs.declared.message.Message.TheVariants as message
use Rattle.cs_wire_message.specs.Message.{kind_of, body_of, AskedPlaceFits, MessageFits, IsView, prepared_encoding, PreparedFits, echo_encoding, is_after_last, Rise, change_encoding, ChangeFits, flag_encoding}
use Rattle.cs_wire_message.specs.Reading.{view_number_at, below_at, flag_at, echo_at, rising_at, echoed_at, some_pair, prepared_kind_at, prepared_at, Claim, claim_of_parts, claimed_at, claim_at, propose_at, step_at, voted_at, decided_message_at, done_at, asked_place_at, ask_proof_at, told_message_at, propose_of, echo_of, confirm_of, change_from, voted_of, decided_of, done_of, asked_of, ask_proof_of, told_message, message_at}

-- ---- views and flags

pub view_form : IsForm (to_be_bytes w16) IsView view_number_at
view_form =
    weaker_form (to_be_bytes w16) (λ n. (n < 2 ^ 16) × (nat_le n LAST_VIEW ≡ true)) view_number_at
    (tested_of (number_form w16 (2 ^ 16) wide16) (λ n. nat_le n LAST_VIEW)) IsView
    (λ n h. leb-true n LAST_VIEW h.1) (λ n h. (omega (arith, h), le-leb n LAST_VIEW h))

below_form : (view : ℕ) → view < 2 ^ 16 → IsForm (to_be_bytes w16) (λ n. n < view) (below_at view)
below_form view small =
    weaker_form (to_be_bytes w16) (λ n. (n < 2 ^ 16) × (nat_lt n view ≡ true)) (below_at view)
    (tested_of (number_form w16 (2 ^ 16) wide16) (λ n. nat_lt n view)) (λ n. n < view)
    (λ n h. ltb-true n view h.1) (λ n h. (omega (arith, h, small), lt-ltb n view h))

abbrev bit : Bool → ℕ
bit flag = if flag then 1 else 0

is_bit : (n : ℕ) → nat_le n 1 ≡ true → bit (nat_le 1 n) ≡ n
is_bit n h = grind arith

bit-back : (flag : Bool) → nat_le 1 (bit flag) ≡ flag
bit-back true = refl
bit-back false = refl

bit-small : (flag : Bool) → (bit flag < 256) × (nat_le (bit flag) 1 ≡ true)
bit-small true = (omega arith, refl)
bit-small false = (omega arith, refl)

pub flag_form : IsForm flag_encoding (λ flag. Unit {0}) flag_at
unfolding flag_at
flag_form =
    mapped_of (tested_of byte_form (λ n. nat_le n 1)) (nat_le 1) bit (λ flag. Unit {0}) (λ n h. (is_bit n h.1, tt))
    (λ flag h. (bit-back flag, bit-small flag))

-- ---- what a member claims as it enters a view

module _ (view : ℕ) (small : view < 2 ^ 16) where
  echo_form : (last : Option (List ℕ))
      → IsForm echo_encoding (λ echo. (DigestFits echo.0 × (is_after_last last echo.0 ≡ true)) × (echo.1 < view)) (echo_at view last)
  echo_form last = pair_of (tested_of (bytes_form 32) (is_after_last last)) (below_form view small)

  rising-takes : (last : Option (List ℕ)) (n : ℕ) (bytes : List ℕ) (xs : List (List ℕ × ℕ)) (rest : List ℕ)
      → IsBytes bytes → rising_at view last n bytes ≡ Some (xs, rest)
      → Splits bytes (each echo_encoding xs) rest × ((length xs ≡ n) × Rise view last xs)
  unfolding rising_at
  rising-takes last zero bytes xs rest fits e =
      subst
      (λ (p : List (List ℕ × ℕ) × List ℕ). Splits bytes (each echo_encoding p.0) p.1 × ((length p.0 ≡ 0) × Rise view last p.0))
      (some_is ([], bytes) (xs, rest) e) (record { parts = refl; rest_fits = fits }, (refl, tt))
  rising-takes last (suc n) bytes xs rest fits e =
      let a =
      bind_some (echo_at view last bytes)
      (λ first. rising_at view (Some first.0.0) n first.1 >>= λ others. Some (first.0 ∷ others.0, others.1))
      (xs, rest) e in
      let b =
      bind_some (rising_at view (Some a.0.0.0) n a.0.1) (λ others. Some (a.0.0 ∷ others.0, others.1)) (xs, rest)
      a.2 in
      let first = (echo_form last).takes bytes a.0.0 a.0.1 fits a.1 in
      let others = rising-takes (Some a.0.0.0) n a.0.1 b.0.0 b.0.1 first.0.rest_fits b.1 in
      let both = Takes-then bytes (echo_encoding a.0.0) a.0.1 (each echo_encoding b.0.0) b.0.1 first.0 others.0 in
      subst
      (λ (p : List (List ℕ × ℕ) × List ℕ). Splits bytes (each echo_encoding p.0) p.1 × ((length p.0 ≡ suc n) × Rise view last p.0))
      (some_is (a.0.0 ∷ b.0.0, b.0.1) (xs, rest) b.2) (both, (ap suc others.1.0, (first.1, others.1.1)))

  rising-again : (last : Option (List ℕ)) (n : ℕ) (xs : List (List ℕ × ℕ)) (rest : List ℕ)
      → (length xs ≡ n) × Rise view last xs → rising_at view last n (each echo_encoding xs ++ rest) ≡ Some (xs, rest)
  unfolding rising_at
  rising-again last zero [] rest fits = refl
  rising-again last zero (x ∷ xs) rest fits = absurd (omega (arith, fits.0))
  rising-again last (suc n) [] rest fits = absurd (omega (arith, fits.0))
  rising-again last (suc n) (x ∷ xs) rest fits =
      let regrouped : each echo_encoding (x ∷ xs) ++ rest ≡ echo_encoding x ++ (each echo_encoding xs ++ rest) =
      append_assoc (echo_encoding x) (each echo_encoding xs) rest in
      ap (rising_at view last (suc n)) regrouped ∙ rw
      ((echo_form last).again x (each echo_encoding xs ++ rest) fits.1.0, rising-again (Some x.0) n xs rest (omega (arith, fits.0), fits.1.1))
      refl

  echoed_form : IsForm (counted echo_encoding) (λ xs. (length xs ≤ 16) × Rise view None xs) (echoed_at view)
  echoed_form =
      upto_form w8 256 (λ n. n ∷ []) byte_form MOST_ECHOED (omega arith) length (each echo_encoding) (Rise view None)
      (rising_at view None) (λ n. record { takes = rising-takes None n; again = rising-again None n })

  prepared_takes : (kind : ℕ) (bytes : List ℕ) (p : Option (ℕ × List ℕ)) (rest : List ℕ) → IsBytes bytes
      → prepared_kind_at view kind bytes ≡ Some (p, rest)
      → Splits (kind ∷ bytes) (prepared_encoding p) rest × PreparedFits view p
  prepared_takes zero bytes p rest fits is =
      takes_bare prepared_encoding (PreparedFits view) (prepared_kind_at view) None 0 refl tt bytes p rest fits is
  prepared_takes (suc zero) bytes p rest fits is =
      takes_part prepared_encoding (PreparedFits view) (prepared_kind_at view)
      (pair_of (below_form view small) (bytes_form 32)) some_pair 1 (λ p. refl) (λ p h. h) bytes p rest fits is
  prepared_takes (suc (suc kind)) bytes p rest fits is = absurd cc

  prepared_again : (p : Option (ℕ × List ℕ)) (rest : List ℕ) → PreparedFits view p
      → Kinded prepared_encoding (prepared_kind_at view) p rest
  prepared_again None rest fits =
      bare_kinded prepared_encoding (PreparedFits view) (prepared_kind_at view) None 0 (omega arith) refl
      (λ bytes. refl) rest
  prepared_again (Some p) rest fits =
      part_kinded prepared_encoding (PreparedFits view) (prepared_kind_at view)
      (pair_of (below_form view small) (bytes_form 32)) some_pair 1 (omega arith) (λ p. refl) (λ bytes. refl) p rest
      fits

  prepared_form : IsForm prepared_encoding (PreparedFits view) (prepared_at view)
  prepared_form = kinds_form prepared_encoding (PreparedFits view) (prepared_kind_at view) prepared_takes prepared_again

-- ---- a view, and what is claimed there

abbrev ClaimFits : Claim → Type 0
ClaimFits c = (1 ≤ c.0) × (IsView c.0 × ChangeFits c.0 c.1)

abbrev claim_encoding : Claim → List ℕ
claim_encoding c = change_encoding c.1

at_form : (view : ℕ) → 1 ≤ view → view ≤ LAST_VIEW
    → IsForm claim_encoding (λ c. (c.0 ≡ view) × ClaimFits c) (λ bytes. claim_of_parts view <$> pair_at (prepared_at view) (echoed_at view) bytes)
at_form view low high =
    let small : view < 2 ^ 16 = omega (arith, high) in
    mapped_of (pair_of (prepared_form view small) (echoed_form view small)) (claim_of_parts view)
    (λ c. (c.1.prepared, c.1.echoed)) (λ c. (c.0 ≡ view) × ClaimFits c)
    (λ p h. (refl, (refl, (low, (high, record { prepared = h.0; few = h.1.0; rise = h.1.1 })))))
    (λ c h.
    let f : ChangeFits view c.1 = subst (λ (n : ℕ). ChangeFits n c.1) h.0 h.1.1.1 in
    (ap (λ (n : ℕ). (n, c.1)) (sym h.0), (f.prepared, (f.few, f.rise))))

claimed-takes : (n : ℕ) (bytes : List ℕ) (c : Claim) (rest : List ℕ) → IsBytes bytes
    → claimed_at n bytes ≡ Some (c, rest) → Splits bytes (claim_encoding c) rest × ((c.0 ≡ n) × ClaimFits c)
unfolding claimed_at
claimed-takes n bytes c rest fits e =
    let inner = claim_of_parts n <$> pair_at (prepared_at n) (echoed_at n) bytes in
    let g = when_some (nat_le 1 n) (cond (nat_le n LAST_VIEW) inner None) (c, rest) e in
    let h = when_some (nat_le n LAST_VIEW) inner (c, rest) g.1 in
    (at_form n (leb-true 1 n g.0) (leb-true n LAST_VIEW h.0)).takes bytes c rest fits h.1

claimed-again : (n : ℕ) (c : Claim) (rest : List ℕ) → (c.0 ≡ n) × ClaimFits c
    → claimed_at n (claim_encoding c ++ rest) ≡ Some (c, rest)
unfolding claimed_at
claimed-again n c rest fits =
    let low : 1 ≤ n = omega (arith, fits.0, fits.1.0) in
    let high : n ≤ LAST_VIEW = omega (arith, fits.0, fits.1.1.0) in
    rw (le-leb 1 n low, le-leb n LAST_VIEW high) ((at_form n low high).again c rest fits)

claim_form : IsForm (λ p. to_be_bytes w64 p.0 ++ (to_be_bytes w16 p.1.0 ++ claim_encoding p.1)) (λ p. (p.0 < 2 ^ 62) × (IsView p.1.0 × ClaimFits p.1)) claim_at
unfolding claim_at
claim_form =
    pair_of slot_form
    (upto_form w16 (2 ^ 16) (to_be_bytes w16) (number_form w16 (2 ^ 16) wide16) LAST_VIEW (omega arith) (λ c. c.0) claim_encoding ClaimFits claimed_at (λ n. record { takes = claimed-takes n; again = claimed-again n }))

module _ (version : Version) where
  -- ---- bodies

  propose_form : IsForm (λ p. to_be_bytes w64 p.0 ++ (to_be_bytes w16 p.1.0 ++ entry_encoding version p.1.1)) (λ p. (p.0 < 2 ^ 62) × (IsView p.1.0 × EntryFits version p.1.1)) (propose_at version)
  unfolding propose_at
  propose_form = pair_of slot_form (pair_of view_form (entry_form version))

  step_form : IsForm (λ p. to_be_bytes w64 p.0 ++ (to_be_bytes w16 p.1.0 ++ p.1.1)) (λ p. (p.0 < 2 ^ 62) × (IsView p.1.0 × DigestFits p.1.1)) step_at
  unfolding step_at
  step_form = pair_of slot_form (pair_of view_form (bytes_form 32))

  voted_form : IsForm (λ p. vote_encoding p.0 ++ (flag_encoding p.1.0 ++ session_encoding p.1.1)) (λ p. Unit {0} × (Unit {0} × SessionFits p.1.1)) voted_at
  unfolding voted_at
  voted_form = pair_of vote_form (pair_of flag_form session_form)

  decided_form : IsForm (λ p. p.0 ++ flag_encoding p.1) (λ p. DigestFits p.0 × Unit {0}) decided_message_at
  unfolding decided_message_at
  decided_form = pair_of (bytes_form 32) flag_form

  done_form : IsForm (λ p. to_be_bytes w64 p.0 ++ entry_encoding version p.1) (λ p. (p.0 < 2 ^ 62) × EntryFits version p.1) (done_at version)
  unfolding done_at
  done_form = pair_of slot_form (entry_form version)

  asked_place_form : (edition : Version) → IsForm (place_encoding edition) (AskedPlaceFits edition) (asked_place_at edition)
  asked_place_form One = given_form 0
  asked_place_form Two =
      weaker_form (λ n. n ∷ []) (λ n. (n < 256) × (nat_lt n MOST_ACTIONS ≡ true)) (asked_place_at Two)
      (tested_of byte_form (λ n. nat_lt n MOST_ACTIONS)) (λ n. n < MOST_ACTIONS)
      (λ n h. ltb-true n MOST_ACTIONS h.1) (λ n h. (omega (arith, h), lt-ltb n MOST_ACTIONS h))

  ask_proof_form : IsForm (λ p. to_be_bytes w64 p.0 ++ place_encoding version p.1) (λ p. (p.0 < 2 ^ 62) × AskedPlaceFits version p.1) (ask_proof_at version)
  unfolding ask_proof_at
  ask_proof_form = pair_of slot_form (asked_place_form version)

  told_form : IsForm (λ p. key_encoding p.0 ++ state_encoding p.1) (λ p. KeyFits p.0 × StateFits p.1) told_message_at
  unfolding told_message_at
  told_form = pair_of key_form state_form

  -- the kind and the body
  abbrev pub spelled : Message → List ℕ
  spelled m = kind_of m ∷ body_of version m

  -- a message that fits, and whose body isn't that of asking for a dummy, of no byte
  abbrev pub IsLong : Message → Type 0
  IsLong (message.Ask None) = ⊥
  IsLong m = MessageFits version m

  pub message_takes : (kind : ℕ) (bytes : List ℕ) (m : Message) (rest : List ℕ) → IsBytes bytes
      → message_at version kind bytes ≡ Some (m, rest) → Splits (kind ∷ bytes) (spelled m) rest × IsLong m
  message_takes zero bytes m rest fits is = absurd cc
  message_takes (suc zero) bytes m rest fits is =
      takes_part spelled IsLong (message_at version) session_form message.Submit 1 (λ p. refl) (λ p h. h) bytes m rest fits is
  message_takes (suc (suc zero)) bytes m rest fits is =
      takes_part spelled IsLong (message_at version) propose_form propose_of 2 (λ p. refl) (λ p h. h) bytes m rest fits is
  message_takes (suc (suc (suc zero))) bytes m rest fits is =
      takes_part spelled IsLong (message_at version) step_form echo_of 3 (λ p. refl) (λ p h. h) bytes m rest fits is
  message_takes (suc (suc (suc (suc zero)))) bytes m rest fits is =
      takes_part spelled IsLong (message_at version) step_form confirm_of 4 (λ p. refl) (λ p h. h) bytes m rest fits is
  message_takes (suc (suc (suc (suc (suc zero))))) bytes m rest fits is =
      takes_part spelled IsLong (message_at version) claim_form change_from 5 (λ p. refl)
      (λ p h. (h.0, (h.1.0, (h.1.1.0, h.1.1.1.1)))) bytes m rest fits is
  message_takes (suc (suc (suc (suc (suc (suc zero)))))) bytes m rest fits is =
      takes_part spelled IsLong (message_at version) voted_form voted_of 6 (λ p. refl) (λ p h. h.1.1) bytes m rest fits is
  message_takes (suc (suc (suc (suc (suc (suc (suc zero))))))) bytes m rest fits is =
      takes_part spelled IsLong (message_at version) decided_form decided_of 7 (λ p. refl) (λ p h. h.0) bytes m rest fits is
  message_takes (suc (suc (suc (suc (suc (suc (suc (suc zero)))))))) bytes m rest fits is =
      takes_part spelled IsLong (message_at version) slot_form message.Want 8 (λ p. refl) (λ p h. h) bytes m rest fits is
  message_takes (suc (suc (suc (suc (suc (suc (suc (suc (suc zero))))))))) bytes m rest fits is =
      takes_part spelled IsLong (message_at version) done_form done_of 9 (λ p. refl) (λ p h. h) bytes m rest fits is
  message_takes (suc (suc (suc (suc (suc (suc (suc (suc (suc (suc zero)))))))))) bytes m rest fits is =
      takes_part spelled IsLong (message_at version) key_form asked_of 10 (λ p. refl) (λ p h. h) bytes m rest fits is
  message_takes (suc (suc (suc (suc (suc (suc (suc (suc (suc (suc (suc zero))))))))))) bytes m rest fits is =
      takes_part spelled IsLong (message_at version) told_form told_message 11 (λ p. refl) (λ p h. h) bytes m rest fits is
  message_takes (suc (suc (suc (suc (suc (suc (suc (suc (suc (suc (suc (suc zero)))))))))))) bytes m rest fits is =
      takes_part spelled IsLong (message_at version) (checkpoint_form version) message.Head 12 (λ p. refl) (λ p h. h) bytes m rest fits is
  message_takes (suc (suc (suc (suc (suc (suc (suc (suc (suc (suc (suc (suc (suc zero))))))))))))) bytes m rest fits is =
      takes_part spelled IsLong (message_at version) ask_proof_form ask_proof_of 13 (λ p. refl) (λ p h. h) bytes m rest fits is
  message_takes (suc (suc (suc (suc (suc (suc (suc (suc (suc (suc (suc (suc (suc (suc zero)))))))))))))) bytes m rest fits is =
      takes_part spelled IsLong (message_at version) (proof_form version) message.Proof 14 (λ p. refl) (λ p h. h) bytes m rest fits is
  message_takes (suc (suc (suc (suc (suc (suc (suc (suc (suc (suc (suc (suc (suc (suc (suc kind))))))))))))))) bytes m rest fits is =
      absurd cc

  pub message_again : (m : Message) (rest : List ℕ) → IsLong m → Kinded spelled (message_at version) m rest
  message_again (message.Submit x) rest fits =
      part_kinded spelled IsLong (message_at version) session_form message.Submit 1 (omega arith) (λ p. refl) (λ bytes. refl) x rest
      fits
  message_again (message.Propose slot view entry) rest fits =
      part_kinded spelled IsLong (message_at version) propose_form propose_of 2 (omega arith) (λ p. refl) (λ bytes. refl)
      (slot, (view, entry)) rest fits
  message_again (message.Echo slot view digest) rest fits =
      part_kinded spelled IsLong (message_at version) step_form echo_of 3 (omega arith) (λ p. refl) (λ bytes. refl)
      (slot, (view, digest)) rest fits
  message_again (message.Confirm slot view digest) rest fits =
      part_kinded spelled IsLong (message_at version) step_form confirm_of 4 (omega arith) (λ p. refl) (λ bytes. refl)
      (slot, (view, digest)) rest fits
  message_again (message.Change slot view change) rest fits =
      part_kinded spelled IsLong (message_at version) claim_form change_from 5 (omega arith) (λ p. refl) (λ bytes. refl)
      (slot, (view, change)) rest (fits.0, (fits.1.0, (fits.1.1.0, (fits.1.0, fits.1.1.1))))
  message_again (message.Voted vote asks x) rest fits =
      part_kinded spelled IsLong (message_at version) voted_form voted_of 6 (omega arith) (λ p. refl) (λ bytes. refl)
      (vote, (asks, x)) rest (tt, (tt, fits))
  message_again (message.Decided digest accepted) rest fits =
      part_kinded spelled IsLong (message_at version) decided_form decided_of 7 (omega arith) (λ p. refl) (λ bytes. refl)
      (digest, accepted) rest (fits, tt)
  message_again (message.Want slot) rest fits =
      part_kinded spelled IsLong (message_at version) slot_form message.Want 8 (omega arith) (λ p. refl) (λ bytes. refl) slot rest
      fits
  message_again (message.Done slot entry) rest fits =
      part_kinded spelled IsLong (message_at version) done_form done_of 9 (omega arith) (λ p. refl) (λ bytes. refl) (slot, entry)
      rest fits
  message_again (message.Ask (Some key)) rest fits =
      part_kinded spelled IsLong (message_at version) key_form asked_of 10 (omega arith) (λ p. refl) (λ bytes. refl) key rest fits
  message_again (message.Told key state) rest fits =
      part_kinded spelled IsLong (message_at version) told_form told_message 11 (omega arith) (λ p. refl) (λ bytes. refl) (key, state)
      rest fits
  message_again (message.Head checkpoint) rest fits =
      part_kinded spelled IsLong (message_at version) (checkpoint_form version) message.Head 12 (omega arith) (λ p. refl) (λ bytes. refl)
      checkpoint rest fits
  message_again (message.AskProof slot place) rest fits =
      part_kinded spelled IsLong (message_at version) ask_proof_form ask_proof_of 13 (omega arith) (λ p. refl) (λ bytes. refl)
      (slot, place) rest fits
  message_again (message.Proof proof) rest fits =
      part_kinded spelled IsLong (message_at version) (proof_form version) message.Proof 14 (omega arith) (λ p. refl) (λ bytes. refl) proof
      rest fits
  message_again (message.Ask None) rest fits = absurd fits

  pub message_form : IsForm spelled IsLong (kinds_at (message_at version))
  message_form = kinds_form spelled IsLong (message_at version) message_takes message_again
