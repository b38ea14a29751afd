-- Dumps that are read of their own text.
use Rattle.std.specs.Prelude.{◌≡◌, ℕ, ◌<◌, ◌≤◌, ◌^◌, length, Ok}
use Rattle.std.specs.List.{AllByRecursion}
use Rattle.cs_base.specs.Fields.{IsBytes}
use Rattle.cs_tx_value.specs.Object.{object_encoding, DigestFits}
use Rattle.cs_base.specs.declared.version.Version.TheVariants.{One}
use Rattle.cs_tx_types.specs.Log.{leaf_encoding}
use Rattle.cs_audit_dump.specs.Formed.{IsFormed}
use Rattle.cs_audit_dump.specs.Text.{dump_of}
use Rattle.cs_audit_dump.specs.declared.dump.Dump.{Dump}
use Rattle.cs_audit_dump.specs.declared.dump.Log.{Log}
use Rattle.cs_audit_dump.specs.Printed.{printed_dump}

-- what is encoded of a log are bytes, its heads are digests, and its slots fit into 64 bits
pub record IsEncodedLog (log : Log) : Type 0 where
  pub leaves : AllByRecursion (λ leaf. IsBytes (leaf_encoding One leaf)) log.leaves
  pub heads : AllByRecursion DigestFits log.heads
  pub slots : length log.leaves < 2 ^ 64

pub record IsEncoded (dump : Dump) : Type 0 where
  pub objects : AllByRecursion (λ object. IsBytes (object_encoding object)) dump.genesis
  pub logs : AllByRecursion IsEncodedLog dump.logs
  pub history : AllByRecursion DigestFits dump.history
  pub txs : length dump.history < 2 ^ 64

-- a dump is read of its text, where that is within the limit
abbrev pub DumpIsReadAgain : ℕ → Type 0
DumpIsReadAgain limit =
    (dump : Dump) → IsFormed dump → IsEncoded dump → length (printed_dump dump) ≤ limit
    → dump_of limit (printed_dump dump) ≡ Ok dump
