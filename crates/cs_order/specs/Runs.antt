-- The runs of one shard: deeds of its honest members that keep the rules.
use Rattle.std.specs.Prelude.{◌≡◌, ◌≢◌, ℕ, ◌+◌, ◌*◌, ◌≤◌, ◌<◌, ◌==◌, Bool, true, not, if◌then◌else◌, List, [], ◌∷◌, ◌++◌, length, Some, None, IsSome, ◌⊎◌}
use Rattle.cs_order.specs.declared.proposed.Proposed.{Proposed}
use Rattle.cs_order.specs.declared.answers.Outgoing.{Outgoing}
use Rattle.cs_order.specs.declared.answers.Took.TheVariants.{Taken}
use Rattle.cs_order.specs.declared.answers.Step.TheVariants.{Quiet}
use Rattle.cs_base.specs.Lists.{IsIn}
use Rattle.cs_order.specs.Counts.{count_below}
use Rattle.cs_order.specs.Deeds.{Deed, Took_in, Advanced, Echoed, Proposing, Ticked, Resent, Replied, Cut, Member, Machine, sent_by, chosen_in}
use Rattle.cs_order.specs.Calls.{Proposable}

-- a deed that the rules give after what the member did before
abbrev pub KeepsRules : {M : Type 0} → Machine M → Member M → Deed M → Type 0
KeepsRules {M} m h (Took_in from message) =
    (from ≤ 3 * h.f) × (from ≢ h.me) × (m.proper message ≡ true) × (m.taking h from message ≡ Taken)
KeepsRules {M} m h (Advanced step sent) = (m.step h ≡ step) × (step ≡ Quiet → ⊥) × (m.advancing h ≡ sent)
KeepsRules {M} m h (Echoed sent) = IsSome (m.pending h) × (m.echoing h ≡ sent)
KeepsRules {M} m h (Proposing entry sent) = Proposable (m.may_propose h) entry × (m.proposing h entry ≡ sent)
KeepsRules {M} m h (Ticked due sent) = m.ticking h due ≡ sent
KeepsRules {M} m h (Resent sent) = m.resending h ≡ sent
KeepsRules {M} m h (Replied slot to sent) =
    (outgoing : Outgoing M) × (m.replying h slot to ≡ Some outgoing) × (sent ≡ outgoing ∷ [])
KeepsRules {M} m h (Cut slot) = slot ≤ length (chosen_in h.deeds)

-- all deeds of a member keep the rules
abbrev pub AllKeepRules : {M : Type 0} → Machine M → ℕ → ℕ → List (Deed M) → Type 0
AllKeepRules {M} m f me [] = Unit {0}
AllKeepRules {M} m f me (deed ∷ past) = KeepsRules m (record { f = f; me = me; deeds = past }) deed × AllKeepRules m f me past

-- a deed of a member; a run is a list of them, the newest first
pub record Act (M : Type 0) : Type 0 where
  pub member : ℕ
  pub deed : Deed M

-- the deeds of one member
abbrev pub deeds_of : {M : Type 0} → ℕ → List (Act M) → List (Deed M)
deeds_of {M} i [] = []
deeds_of {M} i (act ∷ past) = if act.member == i then act.deed ∷ deeds_of i past else deeds_of i past

abbrev pub member_of : {M : Type 0} → ℕ → ℕ → List (Act M) → Member M
member_of {M} f i past = record { f = f; me = i; deeds = deeds_of i past }

abbrev pub log_of : {M : Type 0} → ℕ → List (Act M) → List Proposed
log_of {M} i past = chosen_in (deeds_of i past)

-- the message is handed out for the member, or for all
abbrev pub IsFor : {M : Type 0} → M → ℕ → List (Outgoing M) → Type 0
IsFor {M} message member [] = ⊥
IsFor {M} message member (out ∷ outs) =
    ((out.message ≡ message) × ((out.to ≡ None) ⊎ (out.to ≡ Some member))) ⊎ IsFor message member outs

abbrev pub HandedOut : {M : Type 0} → ℕ → M → ℕ → List (Act M) → Type 0
HandedOut {M} from message to [] = ⊥
HandedOut {M} from message to (act ∷ past) =
    ((act.member ≡ from) × IsFor message to (sent_by act.deed)) ⊎ HandedOut from message to past

-- what is taken as from an honest member was handed out by it; a liar's message is any message
abbrev pub Genuine : {M : Type 0} → (ℕ → Bool) → ℕ → Deed M → List (Act M) → Type 0
Genuine {M} honest i (Took_in from message) past = honest from ≡ true → HandedOut from message i past
Genuine {M} honest i (Advanced step sent) past = Unit {0}
Genuine {M} honest i (Echoed sent) past = Unit {0}
Genuine {M} honest i (Proposing entry sent) past = Unit {0}
Genuine {M} honest i (Ticked due sent) past = Unit {0}
Genuine {M} honest i (Resent sent) past = Unit {0}
Genuine {M} honest i (Replied slot to sent) past = Unit {0}
Genuine {M} honest i (Cut slot) past = Unit {0}

-- an act that may come after these
pub record Follows {M : Type 0} (m : Machine M) (f : ℕ) (honest : ℕ → Bool) (past : List (Act M)) (act : Act M)
    : Type 0 where
  pub is_member : act.member < 3 * f + 1
  pub is_honest : honest act.member ≡ true
  pub keeps : KeepsRules m (member_of f act.member past) act.deed
  pub genuine : Genuine honest act.member act.deed past

abbrev pub IsRun : {M : Type 0} → Machine M → ℕ → (ℕ → Bool) → List (Act M) → Type 0
IsRun {M} m f honest [] = Unit {0}
IsRun {M} m f honest (act ∷ past) = Follows m f honest past act × IsRun m f honest past

-- at most f of the 3f+1 members are liars
abbrev pub FewLiars : ℕ → (ℕ → Bool) → Type 0
FewLiars f honest = count_below (3 * f + 1) (λ i. not (honest i)) ≤ f

-- the entries that a deed handed in
abbrev pub entries_handed_in : {M : Type 0} → Machine M → Deed M → List Proposed
entries_handed_in {M} m (Took_in from message) = m.carried message
entries_handed_in {M} m (Advanced step sent) = []
entries_handed_in {M} m (Echoed sent) = []
entries_handed_in {M} m (Proposing entry sent) = entry ∷ []
entries_handed_in {M} m (Ticked due sent) = []
entries_handed_in {M} m (Resent sent) = []
entries_handed_in {M} m (Replied slot to sent) = []
entries_handed_in {M} m (Cut slot) = []

-- the entries that were handed in at one member
abbrev pub held_in : {M : Type 0} → Machine M → List (Deed M) → List Proposed
held_in {M} m [] = []
held_in {M} m (deed ∷ past) = entries_handed_in m deed ++ held_in m past

-- the entries that were handed in at all members
abbrev pub handed_in : {M : Type 0} → Machine M → List (Act M) → List Proposed
handed_in {M} m [] = []
handed_in {M} m (act ∷ past) = entries_handed_in m act.deed ++ handed_in m past

-- equal digests have equal bytes
abbrev pub EntriesToldApart : List Proposed → Type 0
EntriesToldApart entries = (a b : Proposed) → IsIn a entries → IsIn b entries → a.digest ≡ b.digest → a.bytes ≡ b.bytes
