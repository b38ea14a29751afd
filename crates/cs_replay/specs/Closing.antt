-- How a replay ends.
use Rattle.std.specs.Prelude.{◌≡◌, Bool, List, ◌++◌, length, Option, Result, Ok, Err}
use Rattle.std.specs.Io.KnownBytes.{Appends}
use Rattle.cs_base.specs.Answers.{AppendsFront}
use Rattle.cs_tx_types.specs.declared.transaction.Tx.{Tx}
use Rattle.cs_ledger.specs.Ledger.{Bytes}
use Rattle.cs_order.specs.Deeds.{Member, Machine}
use Rattle.cs_sched.specs.declared.schedule.Schedule.{Schedule}
use Rattle.cs_replay_rules.specs.Aborts.{aborted}
use Rattle.cs_node_rules.specs.Site.{Carriers, Site}
use Rattle.cs_node_rules.specs.World.{Happening, recorded_history}
use Rattle.cs_replay_rules.specs.Lines.{history_text, limit_line, forged_line}
use Rattle.cs_replay_rules.specs.Play.{Played, Course, Goes, Stops, Forges, size_of, closing_text}
use Rattle.cs_replay_play.specs.declared.halt.Halt.{Halt}
use Rattle.cs_replay_play.specs.declared.halt.Halt.TheVariants as halt
use Rattle.cs_replay_play.specs.declared.play.Replay.{Replay}
use Rattle.cs_replay_play.specs.Standing.{site_in}
use Rattle.cs_replay_play.specs.Ends.{WhereStands}
use Rattle.cs_replay.specs.Settled.{IsSetupOf}
use Rattle.cs_replay.specs.Answers.{dump_if, dump_behind}
use Rattle.cs_replay.specs.declared.outcome.Summary.{Summary}
use Rattle.cs_replay.specs.declared.outcome.ReplayError.{ReplayError}
use Rattle.cs_replay.specs.declared.outcome.ReplayError.TheVariants.{Forged, Limit, WriteFault, Memory}

-- the numbers of what was played
abbrev pub summary_of : {M : Type 0} → Site M → Played M → Summary
summary_of {M} site p = record {
  accepted = length (recorded_history site p.world);
  aborted = length (aborted site.setup p.world);
  events = length p.world;
  sent = size_of p.parcels;
}

-- the same, by what is kept
abbrev pub sums_of : {O J M : Type 0} → Replay O J M → Summary
sums_of {O} {J} {M} r = record {
  accepted = length r.history.told;
  aborted = length r.history.aborted;
  events = r.events;
  sent = size_of r.post;
}

-- the history, and where it is wanted the dump
abbrev pub end_text : {M : Type 0} → Bool → Site M → List Bytes → List (Happening M) → Bytes
end_text {M} dumps site contracts world =
    history_text (recorded_history site world) ++ dump_if dumps site contracts world

-- a text is that of what a replay of the schedule stands for
abbrev pub EndsWith : {O J M : Type 0} → (O → Member M → Type 0) → (J → Tx → Bool) → Machine M → Carriers M
    → Replay O J M → Schedule → Bool → Bytes → Type 0
EndsWith {O} {J} {M} stands approves rules carrier r schedule dumps text =
    WhereStands stands approves rules carrier r
    (λ s p. IsSetupOf schedule s.setup → text ≡ end_text dumps (site_in rules carrier s) schedule.contracts p.world)

-- what stands behind the lines of the events, and what is answered, by how these ended: the history, and the dump where
-- it is wanted, or the line of the event that was refused
abbrev pub IsLast : {O J M : Type 0} → (O → Member M → Type 0) → (J → Tx → Bool) → Machine M → Carriers M
    → Replay O J M → Schedule → Bool → Result (Unit {0}) Halt → Bytes → Result Summary ReplayError → Type 0
IsLast {O} {J} {M} stands approves rules carrier r schedule dumps (Ok done) text answer =
    EndsWith stands approves rules carrier r schedule dumps text × (answer ≡ Ok (sums_of r))
IsLast {O} {J} {M} stands approves rules carrier r schedule dumps (Err (halt.Limit line)) text answer =
    (text ≡ limit_line line) × (answer ≡ Err (Limit line))
IsLast {O} {J} {M} stands approves rules carrier r schedule dumps (Err (halt.Forged line)) text answer =
    (text ≡ forged_line line) × (answer ≡ Err (Forged line))
IsLast {O} {J} {M} stands approves rules carrier r schedule dumps (Err halt.Failed) text answer = ⊥
IsLast {O} {J} {M} stands approves rules carrier r schedule dumps (Err halt.Memory) text answer = ⊥

-- the sink failed, or memory ran out
abbrev pub IsCutShort : ReplayError → Type 0
IsCutShort (Forged line) = ⊥
IsCutShort (Limit line) = ⊥
IsCutShort WriteFault = Unit {0}
IsCutShort Memory = Unit {0}

-- all lines of a course, and the dump behind them
abbrev pub whole_text : {M : Type 0} → Site M → Bool → List Bytes → Course M → Bytes
whole_text {M} site dumps contracts course = closing_text site course ++ dump_behind dumps site contracts course

-- they were all written, and how it ended is answered; or a front of them was
abbrev pub Closes : {M : Type 0} → Option Bytes → Option Bytes → Site M → Bool → List Bytes → Course M
    → Result Summary ReplayError → Type 0
Closes {M} before written site dumps contracts course (Ok summary) =
    (p : Played M) × (course ≡ Goes p) × (summary ≡ summary_of site p)
    × Appends before written (whole_text site dumps contracts course)
Closes {M} before written site dumps contracts course (Err (Limit line)) =
    (p : Played M) × (course ≡ Stops p line) × Appends before written (whole_text site dumps contracts course)
Closes {M} before written site dumps contracts course (Err (Forged line)) =
    (p : Played M) × (course ≡ Forges p line) × Appends before written (whole_text site dumps contracts course)
Closes {M} before written site dumps contracts course (Err WriteFault) =
    AppendsFront before written (whole_text site dumps contracts course)
Closes {M} before written site dumps contracts course (Err Memory) =
    AppendsFront before written (whole_text site dumps contracts course)
