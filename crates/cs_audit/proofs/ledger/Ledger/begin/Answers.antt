use Rattle.std.proofs.Common.{List, ◌++◌, [], map, refl, sym, subst, append-nil}
use Rattle.cs_base.specs.declared.key.Key.{Key}
use Rattle.cs_tx_types.specs.Transaction.{Keyed}
use Rattle.cs_tx.specs.Sessions.{item_of}
use Rattle.cs_table.specs.Genesis.{with_keyed}
use Rattle.cs_ledger.specs.Ledger.{genesis_ledger}
use Rattle.cs_audit.specs.declared.ledger.Ledger.{Ledger}
use Rattle.cs_audit.specs.Ledgers.{ShowsLedger}
use Rattle.cs_audit.proofs.Shown.{begins}
use Rattle.cs_audit.proofs.ledger.Ledger.begin.Goals as goal

pub returns-in_ok-insert-in-Object : goal.returns-in_ok-insert-in-Object
returns-in_ok-insert-in-Object c items shows =
    let mid : Ledger = c.appear.new.self in
    let new : Ledger = record mid { created = c.insert.new.self } in
    let Says : Key → Type 0 = λ key. ShowsLedger new (genesis_ledger (map item_of (items ++ with_keyed key c.args.object.now []))) in
    subst Says (sym c.in-Object.is)
    (begins mid new items c.in-Object.name c.args.object.now (c.in_ok-appear-in-Object.ensures (genesis_ledger (map item_of items)) shows) c.in_ok-insert-in-Object.ensures.keys refl)

pub returns-in-Dummy : goal.returns-in-Dummy
returns-in-Dummy c items shows =
    let Says : Key → Type 0 = λ key. ShowsLedger c.args.self.now (genesis_ledger (map item_of (items ++ with_keyed key c.args.object.now []))) in
    subst Says (sym c.in-Dummy.is) (subst (λ (xs : List Keyed). ShowsLedger c.args.self.now (genesis_ledger (map item_of xs))) (sym (append-nil items)) shows)
