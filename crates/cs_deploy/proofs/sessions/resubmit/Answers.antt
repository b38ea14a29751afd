use Rattle.std.proofs.Common.{Option, Some, None, refl, sym, subst}
use Rattle.cs_io.specs.Outside.{Faulty, beside}
use Rattle.cs_io.specs.laws.Told.{stays-same}
use Rattle.cs_tx_types.specs.declared.session.Session.{Session}
use Rattle.cs_deploy.specs.declared.wishes.Wishes.{Wishes}
use Rattle.cs_deploy.specs.Tries.{TriesGoBy}
use Rattle.cs_deploy.specs.Session.{Resumes}
use Rattle.cs_deploy.proofs.sessions.resubmit.Goals as goal

pub returns-in-None-clause-goes : goal.returns-in-None-clause-goes
returns-in-None-clause-goes g c =
    let link = g.L.Link.told c.args.link.now in
    subst
    (λ (session : Option Session). Resumes c.args.setup c.args.call c.args.hosts c.args.details c.args.until (Faulty g.L.Link.faults c.args.link.now c.args.link.now) session (beside link (g.K.Sink.written c.args.out.now)) (beside link (g.K.Sink.written c.tell.new.out)) c.tell.result)
    (sym c.in-None.is) (
      record {
        bound = stays-same link.bound;
        placed = stays-same link.placed;
        quiet = record { left = stays-same link.left; offered = stays-same link.offered; missed = refl };
      },
      c.tell.ensures.answers,
    )

pub returns-in-Some-clause-goes : goal.returns-in-Some-clause-goes
returns-in-Some-clause-goes g c =
    let old = beside (g.L.Link.told c.args.link.now) (g.K.Sink.written c.args.out.now) in
    let new = beside (g.L.Link.told c.try_call.new.link) (g.K.Sink.written c.try_call.new.out) in
    let failed = Faulty g.L.Link.faults c.args.link.now c.try_call.new.link in
    subst
    (λ (session : Option Session). Resumes c.args.setup c.args.call c.args.hosts c.args.details c.args.until failed session old new c.try_call.result)
    (sym c.in-Some.is)
    (subst (λ (wishes : Wishes). TriesGoBy None c.args.setup c.args.call (Some c.in-Some.session) c.args.hosts wishes c.args.until failed old new c.try_call.result) c.wishes_of-wishes.ensures c.try_call.ensures.goes)
