use Rattle.std.proofs.Common.{◌≡◌, inl, inr, refl, subst}
use Rattle.cs_base.specs.Outside.{Rose}
use Rattle.cs_io.specs.declared.link.Bound.TheVariants.{Done, Failed}
use Rattle.cs_deploy.proofs.Answered.{keeps}
use Rattle.cs_deploy.proofs.Bound.{placed-later, bound-behind, quiet-both}
use Rattle.cs_deploy.proofs.binding.bind_or_tell.Goals as goal

pub returns-in_default-clause-binds : goal.returns-in_default-clause-binds
returns-in_default-clause-binds g c = inl (record {
  untouched = c.in_default.ensures.untouched;
  silent = (refl, keeps (g.K.Sink.written c.args.out.now));
})

pub returns-in-Done-clause-binds : goal.returns-in-Done-clause-binds
returns-in-Done-clause-binds g c =
    let hosts = c.args.hosts.now in
    let a = g.L.Link.told c.args.link.now in
    let b = g.L.Link.told c.place.new.link in
    let d = g.L.Link.told c.bind.new.self in
    record {
      placed = placed-later hosts a b d c.in-Ok.ensures.placed c.in-Done.ensures.placed;
      bound = bound-behind hosts a b d c.args.me c.args.base_port Done c.in-Ok.ensures.freed c.in-Done.ensures.place;
      quiet = quiet-both a b d c.in-Ok.ensures.quiet (record {
        left = c.in-Done.ensures.left;
        offered = c.in-Done.ensures.offered;
        missed = c.in-Done.ensures.missed;
      });
      unwritten = refl;
    }

pub returns-in-Failed-clause-binds : goal.returns-in-Failed-clause-binds
returns-in-Failed-clause-binds g c =
    let hosts = c.args.hosts.now in
    let a = g.L.Link.told c.args.link.now in
    let b = g.L.Link.told c.place.new.link in
    let d = g.L.Link.told c.bind.new.self in
    inr (record {
      failed = subst (λ n. Rose n (g.L.Link.faults c.bind.new.self)) c.in-Ok.ensures.faults (c.in-Failed.ensures.cause.cause refl);
      placed = placed-later hosts a b d c.in-Ok.ensures.placed c.in-Failed.ensures.placed;
      bound = bound-behind hosts a b d c.args.me c.args.base_port Failed c.in-Ok.ensures.freed c.in-Failed.ensures.place;
      quiet = quiet-both a b d c.in-Ok.ensures.quiet (record {
        left = c.in-Failed.ensures.left;
        offered = c.in-Failed.ensures.offered;
        missed = c.in-Failed.ensures.missed;
      });
      told = c.tell.ensures.answers;
    })

pub returns-in-Failed-clause-write_fault : goal.returns-in-Failed-clause-write_fault
returns-in-Failed-clause-write_fault g c = record {
  later = c.tell.ensures.faults;
  cause = λ is. let six : c.tell.result ≡ 6 = cc in c.tell.ensures.cause (λ p. absurd (cc)) six;
}
