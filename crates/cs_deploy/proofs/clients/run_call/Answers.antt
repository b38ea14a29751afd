use Rattle.std.proofs.Common.{ℕ, List, Option, None, Err, inl, inr, refl, ap, subst}
use Rattle.cs_io.specs.laws.Told.{stays-same}
use Rattle.cs_deploy.proofs.Answered.{keeps, rose-later, cause-later}
use Rattle.cs_deploy.specs.Client.{errand_of, TellsEnding}
use Rattle.cs_deploy.proofs.Bound.{bound-later, placed-later, unbound-as}
use Rattle.cs_deploy.proofs.Later.{attends-later}
use Rattle.cs_deploy.proofs.clients.run_call.Goals as goal

pub returns-in_default-clause-goes : goal.returns-in_default-clause-goes
returns-in_default-clause-goes g c = inl (record {
  untouched = record {
    bound = stays-same (g.L.Link.told c.args.link.now).bound;
    placed = stays-same (g.L.Link.told c.args.link.now).placed;
    quiet = record {
      left = stays-same (g.L.Link.told c.args.link.now).left;
      offered = stays-same (g.L.Link.told c.args.link.now).offered;
      missed = refl;
    };
  };
  silent = (refl, keeps (g.K.Sink.written c.args.out.now));
})

pub returns-clause-goes : goal.returns-clause-goes
returns-clause-goes g c =
    elim c.in-Err.ensures.binds [
      | inl short ↦ inl short
      | inr unbound ↦ inr (inl (unbound-as _ _ _ _ _ _ _ _ c.me-me.ensures unbound))
    ]

pub returns-in-Ok-bind_or_tell-clause-goes : goal.returns-in-Ok-bind_or_tell-clause-goes
returns-in-Ok-bind_or_tell-clause-goes g c =
    let setup = c.args.setup in
    let e = errand_of setup c.args.call None None in
    let bound = c.in-Ok-bind_or_tell.ensures.binds in
    inr (inr (record {
      placed = placed-later c.args.hosts _ _ _ bound.placed c.attend.ensures.placed;
      bound = bound-later _ _ _ _ _ setup.site.base_port c.me-me.ensures bound.bound c.attend.ensures.bound;
      ending = c.attend.result;
      attends = attends-later e c.args.until (g.L.Link.told c.args.link.now) (g.L.Link.told c.bind_or_tell.new.link) (g.L.Link.told c.attend.new.link) c.attend.result bound.quiet.left bound.quiet.offered bound.quiet.missed (c.attend.ensures.attends e c.in-Ok.ensures refl);
      failed = λ is. rose-later _ _ _ c.in-Ok-bind_or_tell.ensures.link (c.attend.ensures.cause.cause is);
      told = subst (λ (written : Option (List ℕ)). TellsEnding c.attend.result written (g.K.Sink.written c.tell_ending.new.out) c.tell_ending.result) bound.unwritten c.tell_ending.ensures.tells;
    }))

pub returns-in-Ok-bind_or_tell-clause-write_fault : goal.returns-in-Ok-bind_or_tell-clause-write_fault
returns-in-Ok-bind_or_tell-clause-write_fault g c = cause-later _ _ _ c.in-Ok-bind_or_tell.ensures.write_fault.later c.tell_ending.ensures.cause

pub returns-clause-write_fault : goal.returns-clause-write_fault
returns-clause-write_fault g c = record {
  later = c.in-Err.ensures.write_fault.later;
  cause = λ six. c.in-Err.ensures.write_fault.cause (ap Err six);
}
