-- The order of a single member: it chooses what is proposed.
use Rattle.std.specs.Prelude.{◌≡◌, ℕ, ◌==◌, nat_lt, false, if◌then◌else◌, List, [], ◌∷◌, length, Option, Some, None}
use Rattle.cs_order.specs.declared.proposed.Proposed.{Proposed}
use Rattle.cs_order.specs.declared.answers.Took.TheVariants.{Old}
use Rattle.cs_order.specs.declared.answers.Step.{Step}
use Rattle.cs_order.specs.declared.answers.Step.TheVariants.{Chosen, Quiet}
use Rattle.cs_order.specs.declared.answers.May.{May}
use Rattle.cs_order.specs.declared.answers.May.TheVariants.{No, Free}
use Rattle.cs_order.specs.Kept.{KeepsFrom}
use Rattle.cs_order.specs.Deeds.{Deed, Took_in, Advanced, Echoed, Proposing, Ticked, Resent, Replied, Cut, Member, Machine, chosen_in, kept_from}
use Rattle.cs_order.specs.Limits.{last_slot, rest_at}

-- the entry that was proposed and isn't chosen yet
abbrev pub waiting_of : {M : Type 0} → List (Deed M) → Option Proposed
waiting_of {M} [] = None
waiting_of {M} (Took_in from message ∷ past) = waiting_of past
waiting_of {M} (Advanced step sent ∷ past) = None
waiting_of {M} (Echoed sent ∷ past) = waiting_of past
waiting_of {M} (Proposing entry sent ∷ past) = Some entry
waiting_of {M} (Ticked due sent ∷ past) = waiting_of past
waiting_of {M} (Resent sent ∷ past) = waiting_of past
waiting_of {M} (Replied slot to sent ∷ past) = waiting_of past
waiting_of {M} (Cut slot ∷ past) = waiting_of past

-- it is chosen, but in the last slot
abbrev pub solo_step_at : ℕ → Option Proposed → Step
solo_step_at slot None = Quiet
solo_step_at slot (Some entry) = if nat_lt slot last_slot then Chosen entry else Quiet

-- one entry at a time
abbrev pub may_at : Option Proposed → May
may_at None = Free
may_at (Some entry) = No

abbrev pub solo : {M : Type 0} → Machine M
solo {M} = record {
  serves = λ f. f == 0;
  proper = λ m. false;
  carried = λ m. [];
  view = λ h. 0;
  taking = λ h from message. Old;
  step = λ h. solo_step_at (length (chosen_in h.deeds)) (waiting_of h.deeds);
  advancing = λ h. [];
  pending = λ h. None;
  echoing = λ h. [];
  may_propose = λ h. may_at (waiting_of h.deeds);
  proposing = λ h entry. [];
  ticking = λ h due. [];
  resending = λ h. [];
  replying = λ h slot to. None;
}

-- A single member that keeps these entries of its log, from a slot on, and this entry proposed has done these deeds.
pub record SoloStands {M : Type 0} (first : ℕ) (entries : List Proposed) (waiting : Option Proposed) (h : Member M)
    : Type 0 where
  pub f : h.f ≡ 0
  pub me : h.me ≡ 0
  pub first_is : kept_from h.deeds ≡ first
  pub keeps : KeepsFrom first entries (chosen_in h.deeds)
  pub waiting_is : waiting_of h.deeds ≡ waiting

-- nothing is chosen, cut or proposed
pub record SoloStarts (first : ℕ) (entries : List Proposed) (waiting : Option Proposed) : Type 0 where
  pub none_cut : first ≡ 0
  pub no_log : entries ≡ []
  pub none_waits : waiting ≡ None

-- proposing, echoing and confirming are left, but what waits was proposed
abbrev pub solo_left : Option Proposed → ℕ
solo_left None = 3
solo_left (Some entry) = 2

abbrev pub solo_rest : ℕ → Option Proposed → ℕ
solo_rest slot waiting = rest_at slot 0 (solo_left waiting)

abbrev pub solo_turns : {M : Type 0} → Member M → ℕ
solo_turns {M} h = solo_rest (length (chosen_in h.deeds)) (waiting_of h.deeds)
