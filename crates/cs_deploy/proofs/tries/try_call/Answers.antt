use Rattle.std.proofs.Common.{Err, inl, inr, refl, ap, arith}
use Rattle.cs_deploy.proofs.Answered.{keeps, rose-later, rose-sooner, cause-later}
use Rattle.cs_io.specs.Outside.{beside}
use Rattle.cs_io.specs.laws.Told.{stays-same}
use Rattle.cs_tries.specs.Tries.{try_begun}
use Rattle.cs_deploy.specs.Client.{errand_of}
use Rattle.cs_deploy.proofs.Bound.{bound-later, placed-later, unbound-as}
use Rattle.cs_deploy.proofs.Tried.{tries-later}
use Rattle.cs_deploy.proofs.Unknown.{knows-nothing}
use Rattle.cs_deploy.proofs.tries.try_call.Goals as goal

pub returns-in_default-clause-goes : goal.returns-in_default-clause-goes
returns-in_default-clause-goes g c = inl (record {
  untouched = record {
    bound = stays-same (g.L.Link.told c.args.link.now).bound;
    placed = stays-same (g.L.Link.told c.args.link.now).placed;
    quiet = record {
      left = stays-same (g.L.Link.told c.args.link.now).left;
      offered = stays-same (g.L.Link.told c.args.link.now).offered;
      missed = refl;
    };
  };
  silent = (refl, keeps (g.K.Sink.written c.args.out.now));
})

pub returns-clause-goes : goal.returns-clause-goes
returns-clause-goes g c =
    elim c.in-Err.ensures.binds [
      | inl short ↦ inl short
      | inr unbound ↦ inr (inl (unbound-as _ _ _ _ _ _ _ _ c.me-me.ensures unbound))
    ]

pub returns-in-Ok-bind_or_tell-clause-goes : goal.returns-in-Ok-bind_or_tell-clause-goes
returns-in-Ok-bind_or_tell-clause-goes g c =
    let setup = c.args.setup in
    let e = errand_of setup c.args.call c.args.session c.args.wishes.dummy in
    let bound = c.in-Ok-bind_or_tell.ensures.binds in
    let new = beside (g.L.Link.told c.attend_tries-ending.new.link) (g.K.Sink.written c.attend_tries-ending.new.out) in
    inr (inr (record {
      placed = placed-later c.args.hosts (g.L.Link.told c.args.link.now) (g.L.Link.told c.bind_or_tell.new.link) (g.L.Link.told c.attend_tries-ending.new.link) bound.placed c.attend_tries-ending.ensures.placed;
      bound = bound-later _ _ _ _ _ setup.site.base_port c.me-me.ensures bound.bound c.attend_tries-ending.ensures.bound;
      ending = c.attend_tries-ending.result;
      written = g.K.Sink.written c.attend_tries-ending.new.out;
      attends =
          tries-later (try_begun c.args.wishes.details e c.args.wishes.tries) c.args.until (g.L.Link.told c.args.link.now) (g.L.Link.told c.bind_or_tell.new.link) (g.K.Sink.written c.args.out.now) (g.K.Sink.written c.bind_or_tell.new.out) new c.attend_tries-ending.result
          bound.quiet.left bound.quiet.offered bound.quiet.missed bound.unwritten (c.attend_tries-ending.ensures.attends e c.in-Ok.ensures (knows-nothing e c.requires.formed));
      failed = λ is. rose-later _ _ _ c.in-Ok-bind_or_tell.ensures.link (c.attend_tries-ending.ensures.link.cause is);
      told = c.tell_tries.ensures.tells;
    }))

pub returns-in-Ok-bind_or_tell-clause-write_fault : goal.returns-in-Ok-bind_or_tell-clause-write_fault
returns-in-Ok-bind_or_tell-clause-write_fault g c = cause-later _ _ _ c.in-Ok-bind_or_tell.ensures.write_fault.later (record {
  later = let first = c.attend_tries-ending.ensures.sink.later in let next = c.tell_tries.ensures.faults in omega arith;
  cause = λ six. elim (c.tell_tries.ensures.cause six) [
    | inl failed ↦ rose-sooner _ _ _ (c.attend_tries-ending.ensures.sink.cause failed) c.tell_tries.ensures.faults
    | inr rose ↦ rose-later _ _ _ c.attend_tries-ending.ensures.sink.later rose
  ];
})

pub returns-clause-write_fault : goal.returns-clause-write_fault
returns-clause-write_fault g c = record {
  later = c.in-Err.ensures.write_fault.later;
  cause = λ six. c.in-Err.ensures.write_fault.cause (ap Err six);
}
