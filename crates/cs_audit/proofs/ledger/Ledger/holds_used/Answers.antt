use Rattle.std.proofs.Common.{◌≡◌, ◌∙◌, List, true, false, sym, ap, map, rules}
use Rattle.cs_tx_types.specs.Transaction.{Keyed}
use Rattle.cs_tx.specs.Sessions.{item_of}
use Rattle.cs_audit_rules.specs.History.{holds_all}
use Rattle.cs_audit.proofs.Shown.{uses-go-on, no-inputs, no-references}
use Rattle.cs_audit.proofs.ledger.Ledger.holds_used.Goals as goal

pub loop-trace-preserved : goal.loop-trace-preserved
loop-trace-preserved c ledger shows =
    let one : c.holds_all.result ≡ true = search rules in
    let two : c.holds_all-in-loop-trace.result ≡ true = search rules in
    sym (uses-go-on ledger c.args.traces.now c.loop-trace.trace-index c.trace-item.result c.loop-trace-test.true c.trace-item.is
    (sym (ap (λ (xs : List Keyed). holds_all ledger (map item_of xs)) c.as_slice.ensures) ∙ sym (c.holds_all.ensures ledger shows) ∙ one)
    (sym (ap (λ (xs : List Keyed). holds_all ledger (map item_of xs)) c.as_slice-in-loop-trace.ensures) ∙ sym (c.holds_all-in-loop-trace.ensures ledger shows) ∙ two))
    ∙ c.loop-trace.invariant ledger shows

pub returns-then-not-holds_all : goal.returns-then-not-holds_all
returns-then-not-holds_all c ledger shows =
    let no : c.holds_all.result ≡ false = search rules in
    sym (no-inputs ledger c.args.traces.now c.loop-trace.trace-index c.trace-item.result c.loop-trace-test.true c.trace-item.is
    (sym (ap (λ (xs : List Keyed). holds_all ledger (map item_of xs)) c.as_slice.ensures) ∙ sym (c.holds_all.ensures ledger shows) ∙ no))
    ∙ c.loop-trace.invariant ledger shows

pub returns-then-not-holds_all-2 : goal.returns-then-not-holds_all-2
returns-then-not-holds_all-2 c ledger shows =
    let no : c.holds_all-in-loop-trace.result ≡ false = search rules in
    sym (no-references ledger c.args.traces.now c.loop-trace.trace-index c.trace-item.result c.loop-trace-test.true c.trace-item.is
    (sym (ap (λ (xs : List Keyed). holds_all ledger (map item_of xs)) c.as_slice-in-loop-trace.ensures) ∙ sym (c.holds_all-in-loop-trace.ensures ledger shows) ∙ no))
    ∙ c.loop-trace.invariant ledger shows
