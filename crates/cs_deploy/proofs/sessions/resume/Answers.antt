use Rattle.std.proofs.Common.{Option, inl, inr, refl, subst}
use Rattle.cs_io.specs.Outside.{Faulty, beside}
use Rattle.cs_io.specs.laws.Told.{stays-same}
use Rattle.cs_tx_types.specs.declared.session.Session.{Session}
use Rattle.cs_deploy.specs.Session.{Resumes}
use Rattle.cs_deploy.proofs.Answered.{keeps}
use Rattle.cs_deploy.proofs.sessions.resume.Goals as goal

pub returns-in-Ok-clause-goes : goal.returns-in-Ok-clause-goes
returns-in-Ok-clause-goes g c =
    inr
    (subst
    (λ (session : Option Session). Resumes c.args.setup c.args.call c.args.hosts c.args.details c.args.until (Faulty g.L.Link.faults c.args.link.now c.resubmit.new.link) session (beside (g.L.Link.told c.args.link.now) (g.K.Sink.written c.args.out.now)) (beside (g.L.Link.told c.resubmit.new.link) (g.K.Sink.written c.resubmit.new.out)) c.resubmit.result)
    c.in-Ok.ensures.given c.resubmit.ensures.goes)

pub returns-in-Err-clause-goes : goal.returns-in-Err-clause-goes
returns-in-Err-clause-goes g c = inl (record {
  untouched = record {
    bound = stays-same (g.L.Link.told c.args.link.now).bound;
    placed = stays-same (g.L.Link.told c.args.link.now).placed;
    quiet = record {
      left = stays-same (g.L.Link.told c.args.link.now).left;
      offered = stays-same (g.L.Link.told c.args.link.now).offered;
      missed = refl;
    };
  };
  silent = (refl, keeps (g.K.Sink.written c.args.out.now));
})
