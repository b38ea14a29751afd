-- The laws of an order.
use Rattle.std.specs.Prelude.{◌≡◌, ℕ, ◌≤◌, ◌<◌, ◌^◌, Bool, true, List, [], ◌∷◌, ◌++◌, Some, None, IsSome, ◌⊎◌, slice_get}
use Rattle.cs_order.specs.declared.proposed.Proposed.{Proposed}
use Rattle.cs_order.specs.declared.answers.Outgoing.{Outgoing}
use Rattle.cs_order.specs.declared.answers.Step.TheVariants.{Chosen, Quiet}
use Rattle.cs_order.specs.declared.answers.May.TheVariants.{Only}
use Rattle.cs_base.specs.Lists.{IsIn}
use Rattle.cs_order.specs.Digests.{HaveDigests}
use Rattle.cs_order.specs.Deeds.{Deed, Took_in, Advanced, Echoed, Proposing, Ticked, Resent, Replied, Cut, Member, Machine, did, sent_by, chosen_in, entry_of_slot}
use Rattle.cs_order.specs.Calls.{Proposable}
use Rattle.cs_order.specs.Runs.{Act, AllKeepRules, IsFor, deeds_of, member_of, log_of, IsRun, FewLiars, held_in, handed_in, EntriesToldApart}

-- a member admitted the entry: it proposed it, or echoed it while it was pending
abbrev pub Admits : {M : Type 0} → Machine M → Proposed → Member M → Deed M → Type 0
Admits {M} m entry h (Took_in from message) = ⊥
Admits {M} m entry h (Advanced step sent) = ⊥
Admits {M} m entry h (Echoed sent) = m.pending h ≡ Some entry
Admits {M} m entry h (Proposing proposed sent) = proposed ≡ entry
Admits {M} m entry h (Ticked due sent) = ⊥
Admits {M} m entry h (Resent sent) = ⊥
Admits {M} m entry h (Replied slot to sent) = ⊥
Admits {M} m entry h (Cut slot) = ⊥

abbrev pub Admitted : {M : Type 0} → Machine M → ℕ → Proposed → List (Act M) → Type 0
Admitted {M} m f entry [] = ⊥
Admitted {M} m f entry (act ∷ past) = Admits m entry (member_of f act.member past) act.deed ⊎ Admitted m f entry past

-- a member has chosen the entry in the slot; members that are liars have no deeds
abbrev pub HasChosen : {M : Type 0} → ℕ → ℕ → Proposed → List (Act M) → Type 0
HasChosen {M} i slot entry past = slice_get (log_of i past) slot ≡ Some entry

pub record IsLawful {M : Type 0} (m : Machine M) (f : ℕ) (honest : ℕ → Bool) (past : List (Act M)) : Type 0 where
  -- no two honest members have different entries chosen for one slot
  pub agree : (i j slot : ℕ) (a b : Proposed) → HasChosen i slot a past → HasChosen j slot b past → a ≡ b
  -- each chosen entry is one that an honest member admitted before
  pub admitted : (i slot : ℕ) (a : Proposed) → HasChosen i slot a past → Admitted m f a past

-- The law of an order: every run with few enough liars is lawful.
abbrev pub Law : {M : Type 0} → Machine M → Type 0
Law {M} m =
    (f : ℕ) (honest : ℕ → Bool) (past : List (Act M))
    → m.serves f ≡ true → FewLiars f honest → IsRun m f honest past → EntriesToldApart (handed_in m past)
    → IsLawful m f honest past

-- What is sent again, and what is given up, changes no step.
pub record Undisturbed {M : Type 0} (m : Machine M) : Type 0 where
  pub by_resend : (h : Member M) (sent : List (Outgoing M)) → m.step (did (Resent sent) h) ≡ m.step h
  pub by_reply : (h : Member M) (slot to : ℕ) (sent : List (Outgoing M))
      → m.step (did (Replied slot to sent) h) ≡ m.step h
  pub by_cut : (h : Member M) (slot : ℕ) → m.step (did (Cut slot) h) ≡ m.step h

-- A member that has done nothing has no step to take, and what a member has to do comes to an end: what it advances,
-- echoes or proposes lowers a number, which no cut raises.
pub record ComesToRest {M : Type 0} (m : Machine M) (left : Member M → ℕ) : Type 0 where
  pub start : (f me : ℕ) → m.step (record { f = f; me = me; deeds = [] }) ≡ Quiet
  pub advanced : (h : Member M) → (m.step h ≡ Quiet → ⊥)
      → left (did (Advanced (m.step h) (m.advancing h)) h) < left h
  pub echoed : (h : Member M) → IsSome (m.pending h) → left (did (Echoed (m.echoing h)) h) < left h
  pub proposed : (h : Member M) (entry : Proposed) → Proposable (m.may_propose h) entry
      → left (did (Proposing entry (m.proposing h entry)) h) < left h
  pub cut : (h : Member M) (slot : ℕ) → left (did (Cut slot) h) ≤ left h
  pub bounded : (h : Member M) → left h < 2 ^ 80

-- Each entry that a member gives was handed in at it, and each message that it hands out is proper,
-- where the entries that were handed in have digests.
pub record Holds {M : Type 0} (m : Machine M) : Type 0 where
  pub chosen : (f me : ℕ) (deeds : List (Deed M)) → AllKeepRules m f me deeds
      → (entry : Proposed) → m.step (record { f = f; me = me; deeds = deeds }) ≡ Chosen entry
      → IsIn entry (held_in m deeds)
  pub pending : (f me : ℕ) (deeds : List (Deed M)) → AllKeepRules m f me deeds
      → (entry : Proposed) → m.pending (record { f = f; me = me; deeds = deeds }) ≡ Some entry
      → IsIn entry (held_in m deeds)
  pub offered : (f me : ℕ) (deeds : List (Deed M)) → AllKeepRules m f me deeds
      → (entries : List Proposed) (entry : Proposed)
      → m.may_propose (record { f = f; me = me; deeds = deeds }) ≡ Only entries
      → IsIn entry entries → IsIn entry (held_in m deeds)
  pub logged : (f me : ℕ) (deeds : List (Deed M)) → AllKeepRules m f me deeds
      → (slot : ℕ) (entry : Proposed) → slice_get (chosen_in deeds) slot ≡ Some entry → IsIn entry (held_in m deeds)
  pub sent : (f me : ℕ) (deed : Deed M) (deeds : List (Deed M)) → AllKeepRules m f me (deed ∷ deeds)
      → (message : M) (to : ℕ) → IsFor message to (sent_by deed)
      → (entry : Proposed) → IsIn entry (m.carried message) → IsIn entry (held_in m (deed ∷ deeds))
  pub proper : (f me : ℕ) (deed : Deed M) (deeds : List (Deed M)) → AllKeepRules m f me (deed ∷ deeds)
      → HaveDigests (held_in m (deed ∷ deeds))
      → (message : M) (to : ℕ) → IsFor message to (sent_by deed) → m.proper message ≡ true

-- the list is the beginning of the other
abbrev pub IsPrefix : {A : Type 0} → List A → List A → Type 0
IsPrefix {A} short long = (rest : List A) × (long ≡ short ++ rest)

-- In every run the logs of two members are prefixes of one another.
abbrev pub LogsAgree : {M : Type 0} → Machine M → Type 0
LogsAgree {M} m =
    (f : ℕ) (honest : ℕ → Bool) (past : List (Act M))
    → m.serves f ≡ true → FewLiars f honest → IsRun m f honest past → EntriesToldApart (handed_in m past)
    → (i j : ℕ) → IsPrefix (log_of i past) (log_of j past) ⊎ IsPrefix (log_of j past) (log_of i past)

-- What was chosen stays.
abbrev pub LogsStay : Type 0 → Type 0
LogsStay M = (act : Act M) (past : List (Act M)) (i : ℕ) → IsPrefix (log_of i past) (log_of i (act ∷ past))

-- the act is a cut of the member's above the slot
abbrev pub IsCutAbove : {M : Type 0} → ℕ → ℕ → Act M → Type 0
IsCutAbove {M} i slot act = (act.member ≡ i) × (bound : ℕ) × (act.deed ≡ Cut bound) × (slot < bound)

-- An entry that a member gives stays, or is gone by a cut above its slot.
abbrev pub EntriesStay : Type 0 → Type 0
EntriesStay M =
    (act : Act M) (past : List (Act M)) (i slot : ℕ) (entry : Proposed)
    → entry_of_slot (deeds_of i past) slot ≡ Some entry
    → (entry_of_slot (deeds_of i (act ∷ past)) slot ≡ Some entry)
    ⊎ ((entry_of_slot (deeds_of i (act ∷ past)) slot ≡ None) × IsCutAbove i slot act)
