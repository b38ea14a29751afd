use Rattle.std.proofs.Common.{◌≡◌, ◌∙◌, ◌++◌, List, [], drop, sym, ap, subst, append-nil}
use Rattle.std.specs.List.{flat_map, AllByRecursion}
use Rattle.std.proofs.Math.ListN.{drop_of_length-le}
use Rattle.cs_tx_value.specs.Object.{ObjectFits}
use Rattle.cs_tx_types.specs.declared.trace.Trace.{Trace}
use Rattle.cs_tx_types.specs.Transaction.{Keyed}
use Rattle.cs_tx.specs.Digest.{outputs_from}
use Rattle.cs_audit.proofs.Shown.{outputs-fit}
use Rattle.cs_audit.proofs.ledger.named_outputs.Goals as goal

pub returns-clause-fit : goal.returns-clause-fit
returns-clause-fit c =
    let found : List Keyed = c.loop-number.found.items in
    let traces : List Trace = c.as_slice-traces.result.now in
    let all : List Trace → List Keyed = λ xs. flat_map (λ items. items) (outputs_from c.args.digest.now 0 xs) in
    let none : drop c.loop-number.number traces ≡ [] = drop_of_length-le traces c.loop-number-test.false in
    let is : found ≡ all c.args.tx.now.traces =
    sym (append-nil found) ∙ sym (ap (λ (xs : List Trace). found ++ flat_map (λ items. items) (outputs_from c.args.digest.now c.loop-number.number xs)) none) ∙ c.loop-number.invariant ∙ ap all c.as_slice-traces.ensures in
    subst (λ (xs : List Keyed). AllByRecursion (λ item. ObjectFits item.1) xs) (sym is) (outputs-fit c.args.digest.now 0 c.args.tx.now.traces c.requires.traces.1)
