use Rattle.std.proofs.Common.{List, Some, None, subst, arith}
use Rattle.cs_transact.specs.Fitting.{IsFirstPast}
use Rattle.cs_transact.specs.declared.refusal.TraceField.{TraceField}
use Rattle.cs_transact.proofs.Limits.{past-here, past-later}
use Rattle.cs_transact.proofs.fitting.+limit_past.Goals as goal

pub returns-in-Some : goal.returns-in-Some
returns-in-Some t c =
    past-here c.args.number c.args.traces.now c.first-item.result c.in-Some.field (omega (arith, c.in-len1-up.len_at_least)) c.first-item.is
    (subst (λ (fields : List TraceField). IsFirstPast c.first-item.result fields (Some c.in-Some.field)) c.as_slice.ensures c.in-Some.ensures)

pub returns-in-None : goal.returns-in-None
returns-in-None t c =
    past-later c.args.number c.args.traces.now c.first-item.result c.limit_past.result (omega (arith, c.in-len1-up.len_at_least)) c.first-item.is
    (subst (λ (fields : List TraceField). IsFirstPast c.first-item.result fields None) c.as_slice.ensures c.in-None.ensures) c.limit_past.ensures
