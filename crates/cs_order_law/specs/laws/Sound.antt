-- What holds of each member alone, whatever it is given.
use Rattle.std.proofs.Common.{◌≡◌, ◌≢◌, ℕ, ◌+◌, ◌*◌, ◌≤◌, ◌<◌, Bool, true, List, [], ◌∷◌, ◌++◌, Option, Some, ◌⊎◌, inl, inr, refl, sym, ap, ◌∙◌, arith}
use Rattle.cs_base.specs.Lists.{IsIn}
use Rattle.cs_order.specs.Counts.{count_below}
use Rattle.cs_order.specs.Deeds.{Deed}
use Rattle.cs_order.specs.Deeds as deed
use Rattle.cs_order.specs.declared.proposed.Proposed.{Proposed}
use Rattle.cs_order.specs.declared.answers.Outgoing.{Outgoing}
use Rattle.cs_order_rules.specs.declared.message.Change.{Change}
use Rattle.cs_order_rules.specs.declared.message.OrderMessage.{OrderMessage}
use Rattle.cs_order_rules.specs.declared.message.OrderMessage.TheVariants as message
use Rattle.cs_order_rules.specs.Safe.{SafeAt}
use Rattle.cs_order_rules.specs.Slot.{is_digest}
use Rattle.cs_order_rules.specs.Facts.{Sight, open_slot}
use Rattle.cs_order_rules.specs.Rules.{seen_now, change_of, pending, change_told}
use Rattle.cs_order_law.specs.Terms.{IsWithinReach}
use Rattle.cs_order_law.specs.laws.SlotFacts.{pending_is, changes_are_taken}
use Rattle.cs_order_law.specs.laws.RuleFacts.{Chooses, ToConfirm, said_echo, prepared_is, echoed_is}

-- The local facts: one echo in a view, no confirm in a view below a change, and so on.
pub record Sound (s : Sight) : Type 0 where
  pub small : s.view < s.views
  pub within : (m : OrderMessage) → IsIn (s.me, m) s.taken → IsWithinReach s m
  pub no_own_done : (n : ℕ) (e : Proposed) → IsIn (s.me, message.Done n e) s.taken → ⊥
  pub one_echo : (n w : ℕ) (d e : List ℕ) → IsIn (s.me, message.Echo n w d) s.taken → IsIn (s.me, message.Echo n w e) s.taken → d ≡ e
  pub echo_safe : (n w : ℕ) (d : List ℕ) → IsIn (s.me, message.Echo n w d) s.taken → 0 < w → (changes : ℕ → Option Change) × SafeAt s.f changes w d × ((j : ℕ) (c : Change) → changes j ≡ Some c → IsIn (j, message.Change n w c) s.taken)
  pub confirm_echoed : (n v : ℕ) (d : List ℕ) → IsIn (s.me, message.Confirm n v d) s.taken → (echoes : ℕ → Bool) × (2 * s.f + 1 ≤ count_below (3 * s.f + 1) echoes) × ((j : ℕ) → echoes j ≡ true → IsIn (j, message.Echo n v d) s.taken)
  pub change_tells : (n w v : ℕ) (c : Change) (d : List ℕ) → IsIn (s.me, message.Change n w c) s.taken → IsIn (s.me, message.Confirm n v d) s.taken → v < w → (pair : ℕ × List ℕ) × (c.prepared ≡ Some pair) × (v ≤ pair.0) × (pair.0 < w) × IsIn (s.me, message.Confirm n pair.0 pair.1) s.taken
  pub change_lists : (n w u : ℕ) (c : Change) (d : List ℕ) → IsIn (s.me, message.Change n w c) s.taken → IsIn (d, u) c.echoed → IsIn (s.me, message.Echo n u d) s.taken

abbrev pub SlotAct : Type 0
SlotAct = Deed OrderMessage

-- a message that the member may say of its own in the open slot
abbrev pub MayNew : SlotAct → Sight → Sight → OrderMessage → Type 0
MayNew act s t (message.Propose n w e) = (n ≡ open_slot s) × (open_slot t ≡ open_slot s) × (w ≡ t.view) × ((sent : List (Outgoing OrderMessage)) × (act ≡ deed.Proposing e sent))
MayNew act s t (message.Echo n w d) = (n ≡ open_slot s) × (open_slot t ≡ open_slot s) × (w ≡ s.view) × (t.view ≡ s.view) × ((sent : List (Outgoing OrderMessage)) × (act ≡ deed.Echoed sent)) × ((e : Proposed) × (pending s ≡ Some e) × (d ≡ e.digest))
MayNew act s t (message.Confirm n w d) = (n ≡ open_slot s) × (open_slot t ≡ open_slot s) × (w ≡ s.view) × (t.view ≡ s.view) × ToConfirm s d
MayNew act s t (message.Change n w c) = (n ≡ open_slot s) × (open_slot t ≡ open_slot s) × (w ≡ t.view) × (s.view < w) × (c ≡ change_told s)
MayNew act s t (message.Done n e) = ⊥

-- where a new fact comes from
abbrev pub Source : SlotAct → Sight → Sight → ℕ × OrderMessage → Type 0
Source act s t x = ((act ≡ deed.Took_in x.0 x.1) × (x.0 ≢ s.me)) ⊎ ((x.0 ≡ s.me) × MayNew act s t x.1)

-- Any step of a member.
pub record StepOf (act : SlotAct) (s t : Sight) : Type 0 where
  pub same_f : t.f ≡ s.f
  pub same_me : t.me ≡ s.me
  pub kept : (x : ℕ × OrderMessage) → IsIn x s.taken → IsIn x t.taken
  pub adds : (x : ℕ × OrderMessage) → IsIn x t.taken → IsIn x s.taken ⊎ Source act s t x
  pub small : s.view < s.views → t.view < t.views
  pub place : (open_slot s < open_slot t) ⊎ ((open_slot t ≡ open_slot s) × (s.view ≤ t.view))
  pub log : (t.log ≡ s.log) ⊎ ((e : Proposed) × Chooses s e × (t.log ≡ s.log ++ e ∷ []))

module _ (act : SlotAct) (s t : Sight) (one : StepOf act s t) (sound : Sound s) where
  own : (m : OrderMessage) → IsIn (t.me, m) t.taken → IsIn (s.me, m) s.taken ⊎ MayNew act s t m
  own m h =
      elim (one.adds (s.me, m) (rw one.same_me at h)) [
        | inl old ↦ inl old
        | inr source ↦ elim source [ inl foreign ↦ absurd (foreign.1 refl) | inr new ↦ inr new.1 ]
      ]

  keep : (m : OrderMessage) → IsIn (s.me, m) s.taken → IsIn (t.me, m) t.taken
  keep m h = rw one.same_me (one.kept (s.me, m) h)

  within_more : (m : OrderMessage) → IsWithinReach s m → IsWithinReach t m
  within_more m (inl below) = elim one.place [ inl up ↦ inl (omega arith) | inr same ↦ inl (let e = same.0 in omega arith) ]
  within_more m (inr here) = elim one.place [ inl up ↦ inl (let e = here.0 in omega arith) | inr same ↦ inr (here.0 ∙ sym same.0, (let a = here.1 in let b = same.1 in omega arith)) ]

  new_within : (m : OrderMessage) → MayNew act s t m → IsWithinReach t m
  new_within (message.Propose n w e) h = inr (h.0 ∙ sym h.1, (let e = h.2 in omega arith))
  new_within (message.Echo n w d) h = inr (h.0 ∙ sym h.1, (let e = h.2 in let e' = h.3 in omega arith))
  new_within (message.Confirm n w d) h = inr (h.0 ∙ sym h.1, (let e = h.2 in let e' = h.3 in omega arith))
  new_within (message.Change n w c) h = inr (h.0 ∙ sym h.1, (let e = h.2 in omega arith))
  new_within (message.Done n e) h = absurd h

  t_within : (m : OrderMessage) → IsIn (t.me, m) t.taken → IsWithinReach t m
  t_within m h = elim (own m h) [ inl old ↦ within_more m (sound.within m old) | inr new ↦ new_within m new ]

  t_no_done : (n : ℕ) (e : Proposed) → IsIn (t.me, message.Done n e) t.taken → ⊥
  t_no_done n e h = elim (own (message.Done n e) h) [ inl old ↦ sound.no_own_done n e old | inr new ↦ new ]

  -- an echo that is new has no older one beside it
  fresh : (n w : ℕ) (d e : List ℕ) → MayNew act s t (message.Echo n w d) → IsIn (s.me, message.Echo n w e) s.taken → ⊥
  fresh n w d e new old =
      let p = pending_is s new.5.0 new.5.1 in
      p.not_echoed e (let a = new.0 in let b = new.2 in rw (a, b) at old)

  t_one_echo : (n w : ℕ) (d e : List ℕ) → IsIn (t.me, message.Echo n w d) t.taken → IsIn (t.me, message.Echo n w e) t.taken → d ≡ e
  t_one_echo n w d e h k =
      elim (own (message.Echo n w d) h) [
        | inl a ↦ elim (own (message.Echo n w e) k) [ inl b ↦ sound.one_echo n w d e a b | inr b ↦ absurd (fresh n w e d b a) ]
        | inr a ↦ elim (own (message.Echo n w e) k) [ inl b ↦ absurd (fresh n w d e a b) | inr b ↦ (let p = a.5.1 in let q = b.5.1 in let x = a.5.2 in let y = b.5.2 in let same : a.5.0 ≡ b.5.0 = cc in x ∙ ap (λ (z : Proposed). z.digest) same ∙ sym y) ]
      ]

  abbrev SafeEcho : Sight → ℕ → ℕ → List ℕ → Type 0
  SafeEcho u n w d = (changes : ℕ → Option Change) × SafeAt u.f changes w d × ((j : ℕ) (c : Change) → changes j ≡ Some c → IsIn (j, message.Change n w c) u.taken)

  safe_more : (n w : ℕ) (d : List ℕ) → SafeEcho s n w d → SafeEcho t n w d
  safe_more n w d h = (h.0, rw one.same_f h.1, λ j c e. one.kept (j, message.Change n w c) (h.2 j c e))

  new_safe : (n w : ℕ) (d : List ℕ) → MayNew act s t (message.Echo n w d) → 0 < w → SafeEcho s n w d
  new_safe n w d new above =
      let p = pending_is s new.5.0 new.5.1 in
      rw (new.0, new.2, new.5.2)
      (elim p.safe [
        | inl zero_view ↦ absurd (let e = new.2 in omega arith)
        | inr safe ↦ (change_of s s.view, safe, λ j c e. changes_are_taken s s.view j c e)
      ])

  t_echo_safe : (n w : ℕ) (d : List ℕ) → IsIn (t.me, message.Echo n w d) t.taken → 0 < w → SafeEcho t n w d
  t_echo_safe n w d h above = elim (own (message.Echo n w d) h) [ inl old ↦ safe_more n w d (sound.echo_safe n w d old above) | inr new ↦ safe_more n w d (new_safe n w d new above) ]

  abbrev Echoed : Sight → ℕ → ℕ → List ℕ → Type 0
  Echoed u n v d = (echoes : ℕ → Bool) × (2 * u.f + 1 ≤ count_below (3 * u.f + 1) echoes) × ((j : ℕ) → echoes j ≡ true → IsIn (j, message.Echo n v d) u.taken)

  echoed_more : (n v : ℕ) (d : List ℕ) → Echoed s n v d → Echoed t n v d
  echoed_more n v d h = (h.0, rw one.same_f h.1, λ j e. one.kept (j, message.Echo n v d) (h.2 j e))

  new_echoed : (n v : ℕ) (d : List ℕ) → MayNew act s t (message.Confirm n v d) → Echoed s n v d
  new_echoed n v d new =
      rw (new.0, new.2)
      ((λ j. is_digest d ((seen_now s).echo s.view j)), new.4.0, λ j e. said_echo s s.view j d e)

  t_confirm_echoed : (n v : ℕ) (d : List ℕ) → IsIn (t.me, message.Confirm n v d) t.taken → Echoed t n v d
  t_confirm_echoed n v d h = elim (own (message.Confirm n v d) h) [ inl old ↦ echoed_more n v d (sound.confirm_echoed n v d old) | inr new ↦ echoed_more n v d (new_echoed n v d new) ]

  abbrev Told : Sight → ℕ → ℕ → ℕ → Change → Type 0
  Told u n w v c = (pair : ℕ × List ℕ) × (c.prepared ≡ Some pair) × (v ≤ pair.0) × (pair.0 < w) × IsIn (u.me, message.Confirm n pair.0 pair.1) u.taken

  told_more : (n w v : ℕ) (c : Change) → Told s n w v c → Told t n w v c
  told_more n w v c h = (h.0, h.1, h.2, h.3, keep (message.Confirm n h.0.0 h.0.1) h.4)

  -- a change that is new tells of the confirms before
  new_told : (n w v : ℕ) (c : Change) (d : List ℕ) → MayNew act s t (message.Change n w c) → IsIn (s.me, message.Confirm n v d) s.taken → Told s n w v c
  new_told n w v c d new k =
      let own_view : v ≤ s.view = elim (sound.within (message.Confirm n v d) k) [ inl below ↦ absurd (let at = new.0 in omega arith) | inr here ↦ here.1 ] in
      let small = sound.small in
      let told = prepared_is s v d (omega arith) (rw new.0 at k) in
      let inside = sound.within (message.Confirm (open_slot s) told.0.0 told.0.1) told.3 in
      let above = new.3 in
      rw (new.0, new.4)
      (told.0, told.1, told.2, (elim inside [ inl below ↦ absurd (omega arith) | inr here ↦ (let b = here.1 in omega arith) ]), told.3)

  t_change_tells : (n w v : ℕ) (c : Change) (d : List ℕ) → IsIn (t.me, message.Change n w c) t.taken → IsIn (t.me, message.Confirm n v d) t.taken → v < w → Told t n w v c
  t_change_tells n w v c d h k below =
      elim (own (message.Change n w c) h) [
        | inl a ↦ elim (own (message.Confirm n v d) k) [
          | inl b ↦ told_more n w v c (sound.change_tells n w v c d a b below)
          | inr b ↦ absurd (elim (sound.within (message.Change n w c) a) [ inl x ↦ (let y = b.0 in omega arith) | inr x ↦ (let y = x.1 in let z = b.2 in omega arith) ])
        ]
        | inr a ↦ elim (own (message.Confirm n v d) k) [
          | inl b ↦ told_more n w v c (new_told n w v c d a b)
          | inr b ↦ absurd (let x = a.2 in let y = a.3 in let z = b.3 in omega arith)
        ]
      ]

  t_change_lists : (n w u : ℕ) (c : Change) (d : List ℕ) → IsIn (t.me, message.Change n w c) t.taken → IsIn (d, u) c.echoed → IsIn (t.me, message.Echo n u d) t.taken
  t_change_lists n w u c d h k =
      elim (own (message.Change n w c) h) [
        | inl a ↦ keep (message.Echo n u d) (sound.change_lists n w u c d a k)
        | inr a ↦ keep (message.Echo n u d) (rw a.0 (echoed_is s.me (open_slot s) s.taken d u (rw a.4 at k)))
      ]

  -- a step keeps the local facts
  pub sound_step : Sound t
  sound_step =
      record {
        small = one.small sound.small;
        within = t_within;
        no_own_done = t_no_done;
        one_echo = t_one_echo;
        echo_safe = t_echo_safe;
        confirm_echoed = t_confirm_echoed;
        change_tells = t_change_tells;
        change_lists = t_change_lists;
      }
