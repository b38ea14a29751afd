use Rattle.std.proofs.Common.{◌≡◌, ◌∙◌, true, false, sym, rules}
use Rattle.cs_audit.proofs.Shown.{all-held, one-missing}
use Rattle.cs_audit.proofs.ledger.Ledger.holds_all.Goals as goal

pub loop-item-preserved : goal.loop-item-preserved
loop-item-preserved c ledger shows =
    let yes : c.holds.result ≡ true = search rules in
    sym (all-held ledger c.args.items.now c.loop-item.item-index c.item-item.result c.loop-item-test.true c.item-item.is (sym (c.holds.ensures ledger shows) ∙ yes)) ∙ c.loop-item.invariant ledger shows

pub returns-then-not-holds : goal.returns-then-not-holds
returns-then-not-holds c ledger shows =
    let no : c.holds.result ≡ false = search rules in
    sym (one-missing ledger c.args.items.now c.loop-item.item-index c.item-item.result c.loop-item-test.true c.item-item.is (sym (c.holds.ensures ledger shows) ∙ no)) ∙ c.loop-item.invariant ledger shows
