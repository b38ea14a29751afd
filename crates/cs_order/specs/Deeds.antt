-- What one member of an order has done, as a list, and what an order does next, read off that list.
use Rattle.std.specs.Prelude.{ℕ, max, nat_lt, Bool, if◌then◌else◌, List, [], ◌∷◌, ◌++◌, Option, None, slice_get}
use Rattle.cs_order.specs.declared.proposed.Proposed.{Proposed}
use Rattle.cs_order.specs.declared.answers.Outgoing.{Outgoing}
use Rattle.cs_order.specs.declared.answers.Took.{Took}
use Rattle.cs_order.specs.declared.answers.Step.{Step}
use Rattle.cs_order.specs.declared.answers.Step.TheVariants.{Chosen, Moved, Quiet}
use Rattle.cs_order.specs.declared.answers.May.{May}

-- one call that changed the member or handed something out
pub data Deed (M : Type 0) : Type 0 where
  Took_in : (from : ℕ) → (message : M) → Deed M
  Advanced : (step : Step) → (sent : List (Outgoing M)) → Deed M
  Echoed : (sent : List (Outgoing M)) → Deed M
  Proposing : (entry : Proposed) → (sent : List (Outgoing M)) → Deed M
  Ticked : (due : Bool) → (sent : List (Outgoing M)) → Deed M
  Resent : (sent : List (Outgoing M)) → Deed M
  Replied : (slot : ℕ) → (to : ℕ) → (sent : List (Outgoing M)) → Deed M
  Cut : (slot : ℕ) → Deed M  -- the entries of the slots below it are given up

-- a member: the number of liars its shard may have, its index, and its deeds, the newest first
pub record Member (M : Type 0) : Type 0 where
  pub f : ℕ
  pub me : ℕ
  pub deeds : List (Deed M)

-- the member with one more deed
abbrev pub did : {M : Type 0} → Deed M → Member M → Member M
did {M} deed h = record { f = h.f; me = h.me; deeds = deed ∷ h.deeds }

-- what a deed handed out
abbrev pub sent_by : {M : Type 0} → Deed M → List (Outgoing M)
sent_by {M} (Took_in from message) = []
sent_by {M} (Advanced step sent) = sent
sent_by {M} (Echoed sent) = sent
sent_by {M} (Proposing entry sent) = sent
sent_by {M} (Ticked due sent) = sent
sent_by {M} (Resent sent) = sent
sent_by {M} (Replied slot to sent) = sent
sent_by {M} (Cut slot) = []

-- the log after a step
abbrev pub chosen_by : Step → List Proposed → List Proposed
chosen_by (Chosen entry) log = log ++ entry ∷ []
chosen_by Moved log = log
chosen_by Quiet log = log

-- the log of a member: the entries chosen, in the order of slots, with those that it gave up
abbrev pub chosen_in : {M : Type 0} → List (Deed M) → List Proposed
chosen_in {M} [] = []
chosen_in {M} (Took_in from message ∷ past) = chosen_in past
chosen_in {M} (Advanced step sent ∷ past) = chosen_by step (chosen_in past)
chosen_in {M} (Echoed sent ∷ past) = chosen_in past
chosen_in {M} (Proposing entry sent ∷ past) = chosen_in past
chosen_in {M} (Ticked due sent ∷ past) = chosen_in past
chosen_in {M} (Resent sent ∷ past) = chosen_in past
chosen_in {M} (Replied slot to sent ∷ past) = chosen_in past
chosen_in {M} (Cut slot ∷ past) = chosen_in past

-- the slot from which on a member keeps its log: the greatest at which it was cut
abbrev pub kept_from : {M : Type 0} → List (Deed M) → ℕ
kept_from {M} [] = 0
kept_from {M} (Took_in from message ∷ past) = kept_from past
kept_from {M} (Advanced step sent ∷ past) = kept_from past
kept_from {M} (Echoed sent ∷ past) = kept_from past
kept_from {M} (Proposing entry sent ∷ past) = kept_from past
kept_from {M} (Ticked due sent ∷ past) = kept_from past
kept_from {M} (Resent sent ∷ past) = kept_from past
kept_from {M} (Replied slot to sent ∷ past) = kept_from past
kept_from {M} (Cut slot ∷ past) = max slot (kept_from past)

-- the entry of a slot in a log that is kept from a slot on
abbrev pub entry_from : ℕ → List Proposed → ℕ → Option Proposed
entry_from first log slot = if nat_lt slot first then None else slice_get log slot

-- the entry that a member gives of a slot: the one chosen in it, unless it was cut
abbrev pub entry_of_slot : {M : Type 0} → List (Deed M) → ℕ → Option Proposed
entry_of_slot {M} deeds slot = entry_from (kept_from deeds) (chosen_in deeds) slot

-- An order, as functions of what its member has done.
pub record Machine (M : Type 0) : Type 0 where
  pub serves : ℕ → Bool  -- the numbers of liars for which it is an order
  pub proper : M → Bool  -- what may be taken
  pub carried : M → List Proposed  -- the entries that stand in a message
  pub view : Member M → ℕ
  pub taking : Member M → ℕ → M → Took
  pub step : Member M → Step
  pub advancing : Member M → List (Outgoing M)
  pub pending : Member M → Option Proposed
  pub echoing : Member M → List (Outgoing M)
  pub may_propose : Member M → May
  pub proposing : Member M → Proposed → List (Outgoing M)
  pub ticking : Member M → Bool → List (Outgoing M)
  pub resending : Member M → List (Outgoing M)
  pub replying : Member M → ℕ → ℕ → Option (Outgoing M)
