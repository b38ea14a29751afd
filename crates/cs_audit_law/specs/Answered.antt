-- The answer to the dump of a replay.
use Rattle.std.specs.Prelude.{◌≡◌, ℕ, ◌≤◌, Bool, List, ◌++◌, length, map, Ok}
use Rattle.cs_tx_types.specs.declared.transaction.Tx.{Tx}
use Rattle.cs_ledger.specs.Ledger.{Bytes, Transaction}
use Rattle.cs_sched.specs.declared.schedule.Schedule.{Schedule}
use Rattle.cs_node_rules.specs.Collisions.{NoCollision}
use Rattle.cs_replay_rules.specs.Dumps.{dump_text}
use Rattle.cs_replay_rules.specs.Play.{lines}
use Rattle.cs_replay.specs.Site.{site_of_schedule}
use Rattle.cs_replay.specs.Played.{world_of, history_of}
use Rattle.cs_audit_dump.specs.declared.dump.Dump.{Dump}
use Rattle.cs_audit_dump.specs.Text.{dump_of}
use Rattle.cs_audit_rules.specs.declared.verdict.Verdict.TheVariants.{Yes}
use Rattle.cs_audit_rules.specs.Verdicts.{verdict_of}

abbrev pub digests : List Transaction → List Bytes
digests txs = map (λ tx. tx.digest) txs

-- a text is read as a dump of these contracts, to which yes is answered with this history
pub record IsYes (limit : ℕ) (approves : Tx → Bool) (contracts history : List Bytes) (text : Bytes) : Type 0 where
  pub dump : Dump
  pub read : dump_of limit text ≡ Ok dump
  pub contracts_are : dump.contracts ≡ contracts
  pub verdict : verdict_of approves dump ≡ Yes history

-- within the limit that is so of a text alone, and behind this one
pub record AreYes (limit : ℕ) (approves : Tx → Bool) (contracts history : List Bytes) (before text : Bytes)
    : Type 0 where
  pub alone : length text ≤ limit → IsYes limit approves contracts history text
  pub behind : length (before ++ text) ≤ limit → IsYes limit approves contracts history (before ++ text)

-- Where no hashed strings collide, that is so of what a replay dumps, alone and behind all that it prints before, with
-- the history of the replay.
abbrev pub IsAnsweredYes : ℕ → (Tx → Bool) → Schedule → Type 0
IsAnsweredYes limit approves schedule =
    (traced : Bool) →
    let site = site_of_schedule approves schedule in
    let world = world_of approves traced schedule in
    NoCollision site schedule.genesis world
    → AreYes limit approves schedule.contracts (digests (history_of approves traced schedule))
    (lines site traced schedule.events) (dump_text site schedule.contracts world)
