use Rattle.std.proofs.Common.{sym, ap, ◌∙◌, arith}
use Rattle.cs_tx.specs.WellFormed.{wrong_dummies}
use Rattle.cs_tx.proofs.FirstFault.{at_input, at_use, at_owner, at_dep, at_dummies}
use Rattle.cs_tx.proofs.formation.well_formed.Goals as goal

pub returns-then-len-eq0 : goal.returns-then-len-eq0
returns-then-len-eq0 c =
    let found = c.in_ok-names.names in let e = c.in_ok-names.ensures in
    at_input c.args.config.now c.args.session.now found.inputs found.references found.outputs e.inputs e.references e.outputs (omega arith)

pub returns-in-Some : goal.returns-in-Some
returns-in-Some c =
    let found = c.in_ok-names.names in let e = c.in_ok-names.ensures in
    at_use c.args.config.now c.args.session.now found.inputs found.references found.outputs e.inputs e.references e.outputs (omega arith) c.in-Some.name (sym c.twice_used.ensures ∙ c.in-Some.is)

pub returns-in-Some-foreign_trace : goal.returns-in-Some-foreign_trace
returns-in-Some-foreign_trace c =
    let found = c.in_ok-names.names in let e = c.in_ok-names.ensures in
    at_owner c.args.config.now c.args.session.now found.inputs found.references found.outputs e.inputs e.references e.outputs (omega arith)
    (sym c.twice_used.ensures ∙ c.in_default.is) c.in-Some-foreign_trace.trace (sym c.foreign_trace.ensures ∙ c.in-Some-foreign_trace.is)

pub returns-in-Some-trace_with_late_dep : goal.returns-in-Some-trace_with_late_dep
returns-in-Some-trace_with_late_dep c =
    let found = c.in_ok-names.names in let e = c.in_ok-names.ensures in
    at_dep c.args.config.now c.args.session.now found.inputs found.references found.outputs e.inputs e.references e.outputs (omega arith)
    (sym c.twice_used.ensures ∙ c.in_default.is) (sym c.foreign_trace.ensures ∙ c.in_default-foreign_trace.is)
    c.in-Some-trace_with_late_dep.trace (sym c.trace_with_late_dep.ensures ∙ c.in-Some-trace_with_late_dep.is)

pub returns-then-not-fit_dummies : goal.returns-then-not-fit_dummies
returns-then-not-fit_dummies c =
    let found = c.in_ok-names.names in let e = c.in_ok-names.ensures in
    at_dummies c.args.config.now c.args.session.now found.inputs found.references found.outputs e.inputs e.references e.outputs (omega arith)
    (sym c.twice_used.ensures ∙ c.in_default.is) (sym c.foreign_trace.ensures ∙ c.in_default-foreign_trace.is)
    c.fit_dummies.result (sym c.trace_with_late_dep.ensures ∙ c.in_default-trace_with_late_dep.is) c.fit_dummies.ensures
    ∙ ap wrong_dummies c.if-not-fit_dummies.true

pub returns : goal.returns
returns c =
    let found = c.in_ok-names.names in let e = c.in_ok-names.ensures in
    at_dummies c.args.config.now c.args.session.now found.inputs found.references found.outputs e.inputs e.references e.outputs (omega arith)
    (sym c.twice_used.ensures ∙ c.in_default.is) (sym c.foreign_trace.ensures ∙ c.in_default-foreign_trace.is)
    c.fit_dummies.result (sym c.trace_with_late_dep.ensures ∙ c.in_default-trace_with_late_dep.is) c.fit_dummies.ensures
    ∙ ap wrong_dummies c.if-not-fit_dummies.false
