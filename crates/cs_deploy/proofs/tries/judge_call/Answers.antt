use Rattle.std.proofs.Common.{Option, None, refl, subst}
use Rattle.cs_io.specs.Outside.{Faulty, beside}
use Rattle.cs_io.specs.laws.Told.{stays-same}
use Rattle.cs_judge.specs.declared.fault.CallFault.{CallFault}
use Rattle.cs_deploy.specs.Tries.{TriesGoBy}
use Rattle.cs_deploy.proofs.Answered.{printed-as}
use Rattle.cs_deploy.proofs.tries.judge_call.Goals as goal

pub returns-in-Some-clause-goes : goal.returns-in-Some-clause-goes
returns-in-Some-clause-goes g c =
    let link = g.L.Link.told c.args.link.now in
    subst
    (λ (fault : Option CallFault). TriesGoBy fault c.args.setup c.args.call None c.args.hosts c.args.wishes c.args.until (Faulty g.L.Link.faults c.args.link.now c.args.link.now) (beside link (g.K.Sink.written c.args.out.now)) (beside link (g.K.Sink.written c.tell.new.out)) c.tell.result)
    c.in-Some.ensures (
      record {
        bound = stays-same link.bound;
        placed = stays-same link.placed;
        quiet = record { left = stays-same link.left; offered = stays-same link.offered; missed = refl };
      },
      printed-as 3 _ _ _ _ c.tell.result c.fault_line.ensures c.tell.ensures.answers,
    )

pub returns-in-None-clause-goes : goal.returns-in-None-clause-goes
returns-in-None-clause-goes g c =
    subst
    (λ (fault : Option CallFault). TriesGoBy fault c.args.setup c.args.call None c.args.hosts c.args.wishes c.args.until (Faulty g.L.Link.faults c.args.link.now c.try_call.new.link) (beside (g.L.Link.told c.args.link.now) (g.K.Sink.written c.args.out.now)) (beside (g.L.Link.told c.try_call.new.link) (g.K.Sink.written c.try_call.new.out)) c.try_call.result)
    c.in-None.ensures c.try_call.ensures.goes
