use Rattle.std.proofs.Common.{inl, inr, refl, arith}
use Rattle.cs_transact.proofs.Limits.{tx-fits, formed-comes}
use Rattle.cs_transact.proofs.fitting.small_enough.Goals as goal

pub formed-requires : goal.formed-requires
formed-requires c = tx-fits c.args.traces c.requires.few c.requires.within (omega (arith, c.in-Some.ensures))

pub returns-in-Some-clause-comes : goal.returns-in-Some-clause-comes
returns-in-Some-clause-comes c =
    formed-comes c.args.traces c.formed.result c.requires.within (tx-fits c.args.traces c.requires.few c.requires.within (omega (arith, c.in-Some.ensures))) c.formed.ensures.passes

pub returns-in-None-clause-comes : goal.returns-in-None-clause-comes
returns-in-None-clause-comes c = inr (c.requires.within, inl (c.in-None.ensures, refl))
