use Rattle.std.proofs.Common.{List, Some, None, inl, subst}
use Rattle.cs_tx_types.specs.declared.trace.Trace.{Trace}
use Rattle.cs_transact.specs.Fitting.{IsPast}
use Rattle.cs_transact.proofs.fitting.fitting.Goals as goal

pub returns-in-Some-clause-comes : goal.returns-in-Some-clause-comes
returns-in-Some-clause-comes c =
    inl (subst (λ (traces : List Trace). IsPast 0 traces (Some c.in-Some.refusal)) c.as_slice.ensures c.in-Some.ensures)

pub small_enough-requires-clause-within : goal.small_enough-requires-clause-within
small_enough-requires-clause-within c = subst (λ (traces : List Trace). IsPast 0 traces None) c.as_slice.ensures c.in-None.ensures
