use Rattle.std.proofs.Common.{◌≡◌, ◌∙◌, ◌&&◌, List, true, false, sym, ap, map, rules, subst}
use Rattle.std.specs.List.{flat_map}
use Rattle.cs_tx_types.specs.declared.trace.Trace.{Trace}
use Rattle.cs_tx_types.specs.Transaction.{Keyed}
use Rattle.cs_tx.specs.Sessions.{item_of}
use Rattle.cs_tx.specs.Uses.{names as names_in}
use Rattle.cs_ledger.specs.Ledger.{names, apart, all_differ}
use Rattle.cs_audit.specs.Ledgers.{ShowsLedger, without, with_created, with_objects, seen_tx}
use Rattle.cs_audit.proofs.Shown.{uses_held}
use Rattle.cs_audit.proofs.Taking.{room, after}
use Rattle.cs_audit.proofs.ledger.Ledger.take.Goals as goal

pub returns-then-not-holds_used-clause-takes : goal.returns-then-not-holds_used-clause-takes
returns-then-not-holds_used-clause-takes c approves ledger named shows =
    let no : c.holds_used.result ≡ false = search rules in
    let tx = seen_tx approves c.args.tx.now in
    ap (λ b. b && (apart (names tx.outputs) ledger.created && all_differ (names tx.outputs)))
    (sym no ∙ c.holds_used.ensures ledger shows ∙ ap (λ (xs : List Trace). uses_held ledger xs) c.as_slice.ensures)

pub returns-then-not-branch-clause-takes : goal.returns-then-not-branch-clause-takes
returns-then-not-branch-clause-takes c approves ledger named shows =
    let yes : c.holds_used.result ≡ true = search rules in
    let no : c.in_ok-create.field-0 ≡ false = search rules in
    let both : (c.holds_used.result && c.in_ok-create.field-0) ≡ false = λ i. yes i && no i in
    sym both
    ∙ room approves ledger c.args.tx.now c.args.digest.now named c.in_ok-outputs.outputs.items c.in_ok-outputs.ensures.outputs c.holds_used.result c.in_ok-create.field-0
    (c.holds_used.ensures ledger shows ∙ ap (λ (xs : List Trace). uses_held ledger xs) c.as_slice.ensures)
    (c.in_ok-create.ensures.new ledger shows ∙ ap (λ (xs : List Keyed). apart (names_in xs) ledger.created && all_differ (names_in xs)) c.as_slice-2.ensures.value)

pub returns-clause-takes : goal.returns-clause-takes
returns-clause-takes c approves ledger named shows =
    let yes : c.holds_used.result ≡ true = search rules in
    let new : c.in_ok-create.field-0 ≡ true = search rules in
    let both : (c.holds_used.result && c.in_ok-create.field-0) ≡ true = λ i. yes i && new i in
    sym both
    ∙ room approves ledger c.args.tx.now c.args.digest.now named c.in_ok-outputs.outputs.items c.in_ok-outputs.ensures.outputs c.holds_used.result c.in_ok-create.field-0
    (c.holds_used.ensures ledger shows ∙ ap (λ (xs : List Trace). uses_held ledger xs) c.as_slice.ensures)
    (c.in_ok-create.ensures.new ledger shows ∙ ap (λ (xs : List Keyed). apart (names_in xs) ledger.created && all_differ (names_in xs)) c.as_slice-2.ensures.value)

pub returns-clause-after : goal.returns-clause-after
returns-clause-after c approves ledger named shows taken =
    let new : c.in_ok-create.field-0 ≡ true = search rules in
    let created = with_created (names_in c.as_slice-2.result.now) ledger in
    let used = without (names_in (flat_map (λ trace. trace.inputs) c.as_slice-3.result.now)) created in
    let Says : List Keyed × List Trace → Type 0 = λ x.
    ShowsLedger c.bring.new.self (with_objects (map item_of c.in_ok-outputs.outputs.items) (without (names_in (flat_map (λ trace. trace.inputs) x.1)) (with_created (names_in x.0) ledger))) in
    after approves ledger c.args.tx.now c.args.digest.now named c.in_ok-outputs.outputs.items c.in_ok-outputs.ensures.outputs c.bring.new.self
    (subst Says (λ i. (c.as_slice-2.ensures.value i, c.as_slice-3.ensures i))
    (c.in_ok-bring.ensures used (c.use_inputs_up.ensures created (c.in_ok-create.ensures.shows ledger shows new))))
