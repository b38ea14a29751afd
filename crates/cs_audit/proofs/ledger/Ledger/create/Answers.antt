use Rattle.std.proofs.Common.{◌≡◌, ◌∙◌, ◌++◌, List, true, false, refl, sym, ap, take, rules}
use Rattle.std.proofs.Math.ListN.{drop_of_length-le}
use Rattle.cs_tx_types.specs.Transaction.{Keyed}
use Rattle.cs_tx.specs.Uses.{names}
use Rattle.cs_audit.specs.declared.ledger.Ledger.{Ledger}
use Rattle.cs_audit.specs.Ledgers.{with_created}
use Rattle.cs_audit.proofs.Shown.{creates, one-created, rest-new, rest-old, all-new, is-new, is-old, all_new}
use Rattle.cs_audit.proofs.ledger.Ledger.create.Goals as goal

pub loop-item-preserved : goal.loop-item-preserved
loop-item-preserved c ledger shows =
    let k = c.loop-item.item-index in
    let outputs = c.args.outputs.now in
    let item = c.item-item.result in
    let old : Ledger = c.loop-item.self in
    let new : Ledger = record old { created = c.insert.new.self } in
    let inv = c.loop-item.invariant ledger shows in
    let yes : c.in_ok-insert.field-0 ≡ true = search rules in
    record {
      shows = one-created ledger new outputs k item c.loop-item-test.true c.item-item.is (creates old new (with_created (names (take k outputs)) ledger) item.0 inv.shows c.in_ok-insert.ensures.keys refl);
      left = sym (rest-new ledger.created outputs k item c.loop-item-test.true c.item-item.is
          (sym (inv.shows.created item.0) ∙ is-new _ (sym c.in_ok-insert.ensures.added ∙ yes))) ∙ inv.left;
    }

pub returns-then-not-branch-clause-new : goal.returns-then-not-branch-clause-new
returns-then-not-branch-clause-new c ledger shows =
    let k = c.loop-item.item-index in
    let outputs = c.args.outputs.now in
    let item = c.item-item.result in
    let inv = c.loop-item.invariant ledger shows in
    let no : c.in_ok-insert.field-0 ≡ false = search rules in
    sym (rest-old ledger.created outputs k item c.loop-item-test.true c.item-item.is (sym (inv.shows.created item.0) ∙ is-old _ (sym c.in_ok-insert.ensures.added ∙ no)))
    ∙ inv.left ∙ all-new ledger.created (names outputs)

pub returns-clause-new : goal.returns-clause-new
returns-clause-new c ledger shows =
    let k = c.loop-item.item-index in
    let outputs = c.args.outputs.now in
    let inv = c.loop-item.invariant ledger shows in
    sym (ap (λ (xs : List Keyed). all_new (ledger.created ++ names (take k outputs)) (names xs)) (drop_of_length-le outputs c.loop-item-test.false))
    ∙ inv.left ∙ all-new ledger.created (names outputs)
