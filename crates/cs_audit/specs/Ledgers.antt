-- The plain ledger as it is kept, and what its calls come to.
use Rattle.std.specs.Prelude.{◌≡◌, ◌&&◌, Bool, List, ◌++◌, bytes_eq, if◌then◌else◌, option_map, Some, None, IfSome}
use Rattle.std.specs.List.{list_any}
use Rattle.std.specs.Map.{lookup}
use Rattle.sha2.specs.Sha256.{sha256}
use Rattle.cs_base.specs.Options.{or_else}
use Rattle.cs_tx_value.specs.Object.{object_encoding, ObjectFits}
use Rattle.cs_tx_types.specs.declared.transaction.Tx.{Tx}
use Rattle.cs_tx.specs.Sessions.{written_tx}
use Rattle.cs_ledger.specs.Strings.{transaction_of}
use Rattle.cs_ledger.specs.Ledger.{Bytes, Item, Transaction, Ledger as Plain, names, has, apart, all_differ, object_named}
use Rattle.cs_audit_rules.specs.History.{holds_all}
use Rattle.cs_audit.specs.declared.ledger.Ledger.{Ledger}

-- it shows this ledger, and the objects in it have encodings
pub record ShowsLedger (kept : Ledger) (ledger : Plain) : Type 0 where
  pub active : (name : Bytes) → option_map object_encoding (lookup (bytes_eq name) kept.active.entries)
      ≡ ledger.active name
  pub created : (name : Bytes) → list_any (bytes_eq name) kept.created.keys ≡ has name ledger.created
  pub fits : (name : Bytes) → IfSome (lookup (bytes_eq name) kept.active.entries) ObjectFits

-- ---- parts of what a transaction does

-- without objects
abbrev pub without : List Bytes → Plain → Plain
without gone ledger = record ledger { active = λ name. if has name gone then None else ledger.active name }

-- with names that were created
abbrev pub with_created : List Bytes → Plain → Plain
with_created new ledger = record ledger { created = ledger.created ++ new }

-- with objects
abbrev pub with_objects : List Item → Plain → Plain
with_objects items ledger = record ledger { active = λ name. or_else (object_named items name) (ledger.active name) }

-- whether the ledger takes a transaction that is well formed and approved
abbrev pub has_room_for : Plain → Transaction → Bool
has_room_for ledger tx =
    (holds_all ledger tx.inputs && holds_all ledger tx.references)
    && (apart (names tx.outputs) ledger.created && all_differ (names tx.outputs))

-- with an object, unless one is there under its name
abbrev pub with_appeared : Bytes → Bytes → Plain → Plain
with_appeared name object ledger = record ledger {
  active = λ other. or_else (ledger.active other) (if bytes_eq other name then Some object else None);
}

-- a transaction as the ledger sees it, where these are approved
abbrev pub seen_tx : (Tx → Bool) → Tx → Transaction
seen_tx approves tx = transaction_of sha256 (written_tx approves tx)
