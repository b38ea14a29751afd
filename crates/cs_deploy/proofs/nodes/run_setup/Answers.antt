use Rattle.std.proofs.Common.{Err, inl, inr, refl, ap, arith}
use Rattle.cs_native.specs.contracts.ruling.RuledBookJudge.TheImpl as judge
use Rattle.cs_node_rules.specs.Site.{start_view}
use Rattle.cs_node_pool.specs.Deployed.{deployed_setup}
use Rattle.cs_native.specs.Approval.{is_approved_with_rules}
use Rattle.cs_node.specs.Cores.{CoreStandsFor}
use Rattle.cs_log.specs.contracts.slot_order.SlotOrderOrder.TheImpl as order
use Rattle.cs_deploy.proofs.Answered.{keeps, rose-later, rose-sooner, cause-later}
use Rattle.cs_io.specs.Outside.{beside}
use Rattle.cs_io.specs.laws.Told.{stays-same}
use Rattle.cs_deploy.specs.Node.{site_of_setup}
use Rattle.cs_deploy.proofs.Bound.{bound-later, placed-later, unbound-as}
use Rattle.cs_deploy.proofs.Later.{serves-later, serves-alone}
use Rattle.cs_deploy.proofs.nodes.run_setup.Goals as goal

pub returns-in_default-clause-goes : goal.returns-in_default-clause-goes
returns-in_default-clause-goes g c = inl (record {
  untouched = record {
    bound = stays-same (g.L.Link.told c.args.link.now).bound;
    placed = stays-same (g.L.Link.told c.args.link.now).placed;
    quiet = record {
      left = stays-same (g.L.Link.told c.args.link.now).left;
      offered = stays-same (g.L.Link.told c.args.link.now).offered;
      missed = refl;
    };
  };
  silent = (refl, keeps (g.K.Sink.written c.args.out.now));
})

pub returns-clause-goes : goal.returns-clause-goes
returns-clause-goes g c =
    elim c.in-Err.ensures.binds [
      | inl short ↦ inl short
      | inr unbound ↦ inr (inl (unbound-as _ _ _ _ _ _ _ _ c.me-me.ensures unbound))
    ]

pub returns-in-Ok-bind_or_tell-clause-goes : goal.returns-in-Ok-bind_or_tell-clause-goes
returns-in-Ok-bind_or_tell-clause-goes g c =
    let setup = c.args.setup in
    let bound = c.in-Ok-bind_or_tell.ensures.binds in
    let new = beside (g.L.Link.told c.serve-end.new.link) (g.K.Sink.written c.serve-end.new.out) in
    inr (inr (record {
      placed = placed-later c.args.hosts _ _ _ bound.placed c.serve-end.ensures.placed;
      bound = bound-later _ _ _ _ _ setup.site.base_port c.me-me.ensures bound.bound c.serve-end.ensures.bound;
      end = c.serve-end.result.0;
      written = g.K.Sink.written c.serve-end.new.out;
      serves = λ net speaks.
          let site = site_of_setup setup net in
          let v = start_view site setup.keys.me in
          serves-later site v c.args.until new (g.L.Link.told c.args.link.now) (g.L.Link.told c.bind_or_tell.new.link) (g.K.Sink.written c.args.out.now) (g.K.Sink.written c.bind_or_tell.new.out) c.serve-end.result.0 bound.quiet.left bound.quiet.offered bound.quiet.missed bound.unwritten
          (serves-alone (CoreStandsFor order.ghosts.stands judge.ghosts.is_approved site) site v c.args.until _ new c.serve-end.result
          (c.serve-end.ensures.serves (deployed_setup setup.site.config setup.site.genesis (is_approved_with_rules setup.book)) net v (c.in-Ok.ensures net speaks)));
      failed = λ is. rose-later _ _ _ c.in-Ok-bind_or_tell.ensures.link (c.serve-end.ensures.link.cause is);
      told = c.tell_end.ensures.tells;
    }))

pub returns-in-Ok-bind_or_tell-clause-write_fault : goal.returns-in-Ok-bind_or_tell-clause-write_fault
returns-in-Ok-bind_or_tell-clause-write_fault g c = cause-later _ _ _ c.in-Ok-bind_or_tell.ensures.write_fault.later (record {
  later = let first = c.serve-end.ensures.sink.later in let next = c.tell_end.ensures.faults in omega arith;
  cause = λ six. elim (c.tell_end.ensures.cause six) [
    | inl failed ↦ rose-sooner _ _ _ (c.serve-end.ensures.sink.cause failed) c.tell_end.ensures.faults
    | inr rose ↦ rose-later _ _ _ c.serve-end.ensures.sink.later rose
  ];
})

pub returns-clause-write_fault : goal.returns-clause-write_fault
returns-clause-write_fault g c = record {
  later = c.in-Err.ensures.write_fault.later;
  cause = λ six. c.in-Err.ensures.write_fault.cause (ap Err six);
}
