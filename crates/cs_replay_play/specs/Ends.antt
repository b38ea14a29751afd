-- How the calls of a replay end.
use Rattle.std.specs.Prelude.{◌≡◌, ℕ, ◌<◌, ◌≤◌, Bool, false, List, ◌++◌, map, Option, Result, Ok, Err, String, string_bytes}
use Rattle.std.specs.declared.alloc.Global.{Global}
use Rattle.std.specs.Io.KnownBytes.{Appends}
use Rattle.cs_base.specs.Answers.{AppendsFront}
use Rattle.cs_base.specs.declared.node_id.NodeId.{NodeId}
use Rattle.cs_base.specs.declared.printing.WriteError.{WriteError}
use Rattle.cs_base.specs.declared.printing.WriteError.TheVariants as write
use Rattle.cs_tx_types.specs.declared.transaction.Tx.{Tx}
use Rattle.cs_order.specs.Deeds.{Member, Machine}
use Rattle.cs_ledger.specs.Ledger.{Bytes}
use Rattle.cs_wire.specs.declared.input.Out.{Out}
use Rattle.cs_node_rules.specs.Lines.{Parcel}
use Rattle.cs_node_rules.specs.Site.{Carriers, Site}
use Rattle.cs_replay_rules.specs.Play.{Played, Course, Goes, Stops, Forges, played_by, size_of, most_sent}
use Rattle.cs_replay_play.specs.declared.play.Replay.{Replay}
use Rattle.cs_replay_play.specs.declared.halt.Halt.{Halt}
use Rattle.cs_replay_play.specs.declared.halt.Halt.TheVariants as halt
use Rattle.cs_replay_play.specs.Standing.{Setting, site_in, Stands, StandsPrinted}

abbrev pub halt_of_write : WriteError → Halt
halt_of_write write.Failed = halt.Failed
halt_of_write write.Memory = halt.Memory

-- ---- datagrams that go out

abbrev pub parcel_from : NodeId → Out → Parcel
parcel_from me out = record { from = me; to = out.to; bytes = out.bytes; arrived = false }

abbrev pub parcels_from : NodeId → List Out → List Parcel
parcels_from me outs = map (parcel_from me) outs

-- they were sent, or would have been too many bytes, by the line of this number
abbrev pub Sends : ℕ → NodeId → List Out → List Parcel → List Parcel → Result (Unit {0}) Halt → Type 0
Sends line me outs old new (Ok done) =
    (new ≡ old ++ parcels_from me outs) × (size_of old ≤ most_sent → size_of new ≤ most_sent)
Sends line me outs old new (Err (halt.Limit by)) = (by ≡ line) × (most_sent < size_of (old ++ parcels_from me outs))
Sends line me outs old new (Err (halt.Forged by)) = ⊥
Sends line me outs old new (Err halt.Failed) = ⊥
Sends line me outs old new (Err halt.Memory) = Unit {0}

-- ---- events

-- an event was taken in, and this text is to be printed; or it would have passed a limit
abbrev pub TakesEvent : {O J M : Type 0} → (O → Member M → Type 0) → (J → Tx → Bool) → Machine M → Carriers M
    → Setting → Course M → Played M → Replay O J M → Result (String Global) Halt → Type 0
TakesEvent {O} {J} {M} stands approves rules carrier s course p r (Ok text) =
    (q : Played M) × (course ≡ Goes q) × Stands stands approves rules carrier s r q
    × (q.text ≡ p.text ++ string_bytes text)
TakesEvent {O} {J} {M} stands approves rules carrier s course p r (Err (halt.Limit line)) = course ≡ Stops p line
TakesEvent {O} {J} {M} stands approves rules carrier s course p r (Err (halt.Forged line)) = ⊥
TakesEvent {O} {J} {M} stands approves rules carrier s course p r (Err halt.Failed) = ⊥
TakesEvent {O} {J} {M} stands approves rules carrier s course p r (Err halt.Memory) = Unit {0}

-- It went on; or it stopped at a limit, or at a forged datagram, with the lines of the events before; or what was
-- written is a front of all lines.
abbrev pub ReplayEnds : {O J M : Type 0} → (O → Member M → Type 0) → (J → Tx → Bool) → Machine M → Carriers M
    → Setting → Course M → Replay O J M → Option Bytes → Result (Unit {0}) Halt → Type 0
ReplayEnds {O} {J} {M} stands approves rules carrier s course r written (Ok done) =
    (p : Played M) × (course ≡ Goes p) × StandsPrinted stands approves rules carrier s r written p
ReplayEnds {O} {J} {M} stands approves rules carrier s course r written (Err (halt.Limit line)) =
    (p : Played M) × (course ≡ Stops p line) × Appends s.before written p.text
ReplayEnds {O} {J} {M} stands approves rules carrier s course r written (Err (halt.Forged line)) =
    (p : Played M) × (course ≡ Forges p line) × Appends s.before written p.text
ReplayEnds {O} {J} {M} stands approves rules carrier s course r written (Err halt.Failed) =
    AppendsFront s.before written (played_by course).text
ReplayEnds {O} {J} {M} stands approves rules carrier s course r written (Err halt.Memory) =
    AppendsFront s.before written (played_by course).text

-- ---- calls

-- what an event or several make of what was played
abbrev pub PlayStep : Type 0 → Type 0
PlayStep M = Site M → Bool → Played M → Course M

-- nothing is asked of a setting
abbrev pub Always : Setting → Type 0
Always s = Unit {0}

-- Whatever a replay stands for before a call, it ends as this step of that says, in each setting that has what the
-- call needs.
abbrev pub Plays : {O J M : Type 0} → (O → Member M → Type 0) → (J → Tx → Bool) → Machine M → Carriers M
    → Replay O J M → Option Bytes → Replay O J M → Option Bytes → Result (Unit {0}) Halt
    → (Setting → Type 0) → PlayStep M → Type 0
Plays {O} {J} {M} stands approves rules carrier old before new after result Needs step =
    (s : Setting) (p : Played M) → StandsPrinted stands approves rules carrier s old before p → Needs s
    → ReplayEnds stands approves rules carrier s (step (site_in rules carrier s) s.traced p) new after result

-- the same of a call that takes an event in, and hands out the text that is to be printed
abbrev pub ReplayTakesIn : {O J M : Type 0} → (O → Member M → Type 0) → (J → Tx → Bool) → Machine M → Carriers M
    → Replay O J M → Replay O J M → Result (String Global) Halt → (Setting → Type 0) → PlayStep M → Type 0
ReplayTakesIn {O} {J} {M} stands approves rules carrier old new result Needs step =
    (s : Setting) (p : Played M) → Stands stands approves rules carrier s old p → Needs s
    → TakesEvent stands approves rules carrier s (step (site_in rules carrier s) s.traced p) p new result

-- a fact of whatever a replay stands for
abbrev pub WhereStands : {O J M : Type 0} → (O → Member M → Type 0) → (J → Tx → Bool) → Machine M → Carriers M
    → Replay O J M → (Setting → Played M → Type 0) → Type 0
WhereStands {O} {J} {M} stands approves rules carrier r Fact =
    (s : Setting) (p : Played M) → Stands stands approves rules carrier s r p → Fact s p
