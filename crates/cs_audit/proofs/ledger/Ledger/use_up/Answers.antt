use Rattle.std.proofs.Common.{refl, take}
use Rattle.cs_tx.specs.Uses.{names}
use Rattle.cs_audit.specs.declared.ledger.Ledger.{Ledger}
use Rattle.cs_audit.specs.Ledgers.{without}
use Rattle.cs_audit.proofs.Shown.{goes, one-gone}
use Rattle.cs_audit.proofs.ledger.Ledger.use_up.Goals as goal

pub loop-item-preserved : goal.loop-item-preserved
loop-item-preserved c ledger shows =
    let old : Ledger = c.loop-item.self in
    let new : Ledger = record old { active = c.swap_remove.new.self } in
    one-gone ledger new c.args.items.now c.loop-item.item-index c.item-item.result c.loop-item-test.true c.item-item.is
    (goes old new (without (names (take c.loop-item.item-index c.args.items.now)) ledger) c.item-item.result.0 (c.loop-item.invariant ledger shows) c.swap_remove.ensures.updates.0 refl)
