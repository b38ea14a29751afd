use Rattle.std.proofs.Common.{ℕ, List, Option, Err, inl, inr, refl, ap, subst}
use Rattle.cs_io.specs.laws.Told.{stays-same}
use Rattle.cs_deploy.specs.Show.{lookup_of, TellsLook}
use Rattle.cs_deploy.proofs.Answered.{keeps, rose-later, cause-later}
use Rattle.cs_deploy.proofs.Bound.{bound-later, placed-later, unbound-as}
use Rattle.cs_deploy.proofs.Shown.{looks-later}
use Rattle.cs_deploy.proofs.shows.run_lookup.Goals as goal

pub returns-in_default-clause-goes : goal.returns-in_default-clause-goes
returns-in_default-clause-goes g c = inl (record {
  untouched = record {
    bound = stays-same (g.L.Link.told c.args.link.now).bound;
    placed = stays-same (g.L.Link.told c.args.link.now).placed;
    quiet = record {
      left = stays-same (g.L.Link.told c.args.link.now).left;
      offered = stays-same (g.L.Link.told c.args.link.now).offered;
      missed = refl;
    };
  };
  silent = (refl, keeps (g.K.Sink.written c.args.out.now));
})

pub returns-clause-goes : goal.returns-clause-goes
returns-clause-goes g c =
    elim c.in-Err.ensures.binds [
      | inl short ↦ inl short
      | inr unbound ↦ inr (inl (unbound-as _ _ _ _ _ _ _ _ c.me-me.ensures unbound))
    ]

pub returns-in-Ok-bind_or_tell-clause-goes : goal.returns-in-Ok-bind_or_tell-clause-goes
returns-in-Ok-bind_or_tell-clause-goes g c =
    let l = lookup_of c.args.site c.args.keys c.args.key in
    let bound = c.in-Ok-bind_or_tell.ensures.binds in
    inr (inr (record {
      placed = placed-later c.args.hosts (g.L.Link.told c.args.link.now) (g.L.Link.told c.bind_or_tell.new.link) (g.L.Link.told c.look.new.link) bound.placed c.look.ensures.placed;
      bound = bound-later _ _ _ _ _ c.args.site.base_port c.me-me.ensures bound.bound c.look.ensures.bound;
      ending = c.look.result;
      looks = looks-later l c.args.until (g.L.Link.told c.args.link.now) (g.L.Link.told c.bind_or_tell.new.link) (g.L.Link.told c.look.new.link) c.look.result bound.quiet.left bound.quiet.offered bound.quiet.missed (c.look.ensures.looks l c.in-Ok.ensures);
      failed = λ is. rose-later _ _ _ c.in-Ok-bind_or_tell.ensures.link (c.look.ensures.cause.cause is);
      told = subst (λ (written : Option (List ℕ)). TellsLook c.look.result written (g.K.Sink.written c.tell_look.new.out) c.tell_look.result) bound.unwritten c.tell_look.ensures.tells;
    }))

pub returns-in-Ok-bind_or_tell-clause-write_fault : goal.returns-in-Ok-bind_or_tell-clause-write_fault
returns-in-Ok-bind_or_tell-clause-write_fault g c = cause-later _ _ _ c.in-Ok-bind_or_tell.ensures.write_fault.later c.tell_look.ensures.cause

pub returns-clause-write_fault : goal.returns-clause-write_fault
returns-clause-write_fault g c = record {
  later = c.in-Err.ensures.write_fault.later;
  cause = λ six. c.in-Err.ensures.write_fault.cause (ap Err six);
}
