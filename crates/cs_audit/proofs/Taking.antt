-- A transaction that is taken: its outputs have the names that its digest gives them.
use Rattle.std.proofs.Common.{◌≡◌, Bool, ◌&&◌, ◌++◌, List, map, None, ap, sym, ◌∙◌}
use Rattle.std.specs.Prelude.{if◌then◌else◌}
use Rattle.std.specs.List.{flat_map}
use Rattle.cs_base.specs.Options.{or_else}
use Rattle.cs_tx_types.specs.declared.transaction.Tx.{Tx}
use Rattle.cs_tx_types.specs.Transaction.{Keyed}
use Rattle.cs_tx.specs.Digest.{digest_of_tx, outputs_from}
use Rattle.cs_tx.specs.Sessions.{item_of}
use Rattle.cs_tx.specs.Uses.{inputs_of, references_of, names as names_in}
use Rattle.cs_tx.proofs.OutputsNamed.{named-from}
use Rattle.cs_ledger.specs.Ledger.{Bytes, Item, Ledger as Plain, names, has, apart, all_differ, object_named, ledger_after}
use Rattle.cs_audit_rules.specs.History.{holds_all}
use Rattle.cs_audit.specs.declared.ledger.Ledger.{Ledger}
use Rattle.cs_audit.specs.Ledgers.{ShowsLedger, without, with_created, with_objects, has_room_for, seen_tx}
use Rattle.cs_audit.proofs.Shown.{names-items, shows-same}

module _ (approves : Tx → Bool) (ledger : Plain) (tx : Tx) (digest : Bytes) (named : digest ≡ digest_of_tx tx) (outputs : List Keyed) (is : outputs ≡ flat_map (λ items. items) (outputs_from digest 0 tx.traces)) where
  items : map item_of outputs ≡ (seen_tx approves tx).outputs
  items = ap (map item_of) (is ∙ ap (λ d. flat_map (λ items. items) (outputs_from d 0 tx.traces)) named) ∙ sym (named-from approves tx 0 tx.traces)

  new-names : names_in outputs ≡ names (seen_tx approves tx).outputs
  new-names = sym (names-items outputs) ∙ ap names items

  pub room : (used new : Bool) → used ≡ (holds_all ledger (map item_of (inputs_of tx)) && holds_all ledger (map item_of (references_of tx)))
      → new ≡ (apart (names_in outputs) ledger.created && all_differ (names_in outputs)) → (used && new) ≡ has_room_for ledger (seen_tx approves tx)
  room used new used_is new_is =
      (λ i. used_is i && new_is i)
      ∙ ap (λ xs. (holds_all ledger (map item_of (inputs_of tx)) && holds_all ledger (map item_of (references_of tx))) && (apart xs ledger.created && all_differ xs)) new-names

  pub after : (kept : Ledger) → ShowsLedger kept (with_objects (map item_of outputs) (without (names_in (inputs_of tx)) (with_created (names_in outputs) ledger))) → ShowsLedger kept (ledger_after ledger (seen_tx approves tx))
  after kept shows =
      shows-same kept (with_objects (map item_of outputs) (without (names_in (inputs_of tx)) (with_created (names_in outputs) ledger))) (ledger_after ledger (seen_tx approves tx))
      (λ q.
      ap (λ (xs : List Item). or_else (object_named xs q) (if has q (names_in (inputs_of tx)) then None else ledger.active q)) items
      ∙ ap (λ xs. or_else (object_named (seen_tx approves tx).outputs q) (if has q xs then None else ledger.active q)) (sym (names-items (inputs_of tx))))
      (λ q. ap (λ xs. has q (ledger.created ++ xs)) new-names) shows
