-- What the call of a member that stood for h answered and handed out, and what it stands for now.
use Rattle.std.specs.Prelude.{◌≡◌, ℕ, ◌≤◌, ◌<◌, Bool, true, false, List, [], ◌∷◌, ◌++◌, Option, Some, None}
use Rattle.cs_order.specs.declared.proposed.Proposed.{Proposed}
use Rattle.cs_order.specs.declared.answers.Outgoing.{Outgoing}
use Rattle.cs_order.specs.declared.answers.Took.{Took}
use Rattle.cs_order.specs.declared.answers.Took.TheVariants.{Taken, Old, Far, Leader, Repeat}
use Rattle.cs_order.specs.declared.answers.Step.{Step}
use Rattle.cs_order.specs.declared.answers.Step.TheVariants.{Chosen, Moved, Quiet}
use Rattle.cs_order.specs.declared.answers.May.{May}
use Rattle.cs_order.specs.declared.answers.May.TheVariants.{No, Free, Only}
use Rattle.cs_order.specs.Deeds.{Took_in, Advanced, Echoed, Proposing, Ticked, Resent, Replied, Cut, Member, Machine, did}
use Rattle.cs_base.specs.Lists.{IsIn}

-- this entry may be proposed
abbrev pub Proposable : May → Proposed → Type 0
Proposable No entry = ⊥
Proposable Free entry = Unit {0}
Proposable (Only entries) entry = IsIn entry entries

-- a refused message leaves no trace
abbrev pub taken_in : {M : Type 0} → Took → ℕ → M → Member M → Member M
taken_in {M} Taken from message h = did (Took_in from message) h
taken_in {M} Old from message h = h
taken_in {M} Far from message h = h
taken_in {M} Leader from message h = h
taken_in {M} Repeat from message h = h

-- the call that takes a message in: it answers by the rules, and the member stands for what follows
abbrev pub TakesIn : {M : Type 0} → Machine M → Member M → ℕ → M → Took → (Member M → Type 0) → Type 0
TakesIn {M} m h from message answer Stands =
    (answer ≡ m.taking h from message)
    × Stands (taken_in (m.taking h from message) from message h)

-- a quiet step leaves no trace and hands nothing out
abbrev pub advanced : {M : Type 0} → Step → List (Outgoing M) → Member M → Member M
advanced {M} (Chosen entry) sent h = did (Advanced (Chosen entry) sent) h
advanced {M} Moved sent h = did (Advanced Moved sent) h
advanced {M} Quiet sent h = h

abbrev pub sent_at : {M : Type 0} → Step → List (Outgoing M) → List (Outgoing M)
sent_at {M} (Chosen entry) sent = sent
sent_at {M} Moved sent = sent
sent_at {M} Quiet sent = []

abbrev pub Advances : {M : Type 0} → Machine M → Member M → Step
    → List (Outgoing M) → List (Outgoing M) → (Member M → Type 0) → Type 0
Advances {M} m h answer old new Stands =
    (answer ≡ m.step h)
    × (new ≡ old ++ sent_at (m.step h) (m.advancing h))
    × Stands (advanced (m.step h) (m.advancing h) h)

abbrev pub Echoes : {M : Type 0} → Machine M → Member M
    → List (Outgoing M) → List (Outgoing M) → (Member M → Type 0) → Type 0
Echoes {M} m h old new Stands = (new ≡ old ++ m.echoing h) × Stands (did (Echoed (m.echoing h)) h)

abbrev pub Proposes : {M : Type 0} → Machine M → Member M → Proposed
    → List (Outgoing M) → List (Outgoing M) → (Member M → Type 0) → Type 0
Proposes {M} m h entry old new Stands =
    (new ≡ old ++ m.proposing h entry)
    × Stands (did (Proposing entry (m.proposing h entry)) h)

abbrev pub Ticks : {M : Type 0} → Machine M → Member M → Bool
    → List (Outgoing M) → List (Outgoing M) → (Member M → Type 0) → Type 0
Ticks {M} m h due old new Stands = (new ≡ old ++ m.ticking h due) × Stands (did (Ticked due (m.ticking h due)) h)

abbrev pub Resends : {M : Type 0} → Machine M → Member M
    → List (Outgoing M) → List (Outgoing M) → (Member M → Type 0) → Type 0
Resends {M} m h old new Stands = (new ≡ old ++ m.resending h) × Stands (did (Resent (m.resending h)) h)

abbrev pub RepliesWith : {M : Type 0} → Option (Outgoing M) → Member M → ℕ → ℕ → Bool
    → List (Outgoing M) → List (Outgoing M) → (Member M → Type 0) → Type 0
RepliesWith {M} None h slot to answer old new Stands = (answer ≡ false) × (new ≡ old)
RepliesWith {M} (Some out) h slot to answer old new Stands =
    (answer ≡ true)
    × (new ≡ old ++ out ∷ [])
    × Stands (did (Replied slot to (out ∷ [])) h)

abbrev pub Replies : {M : Type 0} → Machine M → Member M → ℕ → ℕ → Bool
    → List (Outgoing M) → List (Outgoing M) → (Member M → Type 0) → Type 0
Replies {M} m h slot to answer old new Stands = RepliesWith (m.replying h slot to) h slot to answer old new Stands

-- the call that cuts the log answers nothing and hands nothing out
abbrev pub Cuts : {M : Type 0} → Member M → ℕ → (Member M → Type 0) → Type 0
Cuts {M} h slot Stands = Stands (did (Cut slot) h)

-- a step lowered the number by which a caller's loop ends
abbrev pub Lowers : ℕ → ℕ → Step → Type 0
Lowers before now (Chosen entry) = now < before
Lowers before now Moved = now < before
Lowers before now Quiet = now ≤ before
