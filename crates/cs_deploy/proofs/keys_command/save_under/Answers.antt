use Rattle.std.specs.Prelude.{None}
use Rattle.std.proofs.Common.{Some}
use Rattle.cs_base.specs.Outside.{Rose}
use Rattle.cs_io.specs.Outside.{beside}
use Rattle.cs_io.specs.laws.Told.{stays-same}
use Rattle.cs_deploy.proofs.Reading.{under-other}
use Rattle.cs_deploy.proofs.keys_command.save_under.Goals as goal

pub returns-in-Some-clause-saves : goal.returns-in-Some-clause-saves
returns-in-Some-clause-saves g c = rw c.in-Some.is c.save_site.ensures.saved

pub returns-in-Some-clause-store : goal.returns-in-Some-clause-store
returns-in-Some-clause-store g c = c.save_site.ensures.store

pub returns-in-Some-clause-other : goal.returns-in-Some-clause-other
returns-in-Some-clause-other g c =
    let Failed : Type 0 = Rose (g.E.Store.faults c.args.store.now) (g.E.Store.faults c.save_site.new.store) in
    under-other Failed Failed None None
    (beside (g.E.Store.files c.args.store.now) (g.K.Sink.written c.args.out.now)) (beside (g.E.Store.files c.save_site.new.store) (g.K.Sink.written c.save_site.new.out)) c.save_site.result
    (Some c.in-Some.master) c.args.site.now 5 c.save_site.ensures.saved (λ is. absurd (cc)) (λ is. absurd (cc)) (λ is. absurd (cc)) (λ is. absurd (cc)) (λ is. absurd (cc))

pub returns-in-Some-clause-write_fault : goal.returns-in-Some-clause-write_fault
returns-in-Some-clause-write_fault g c = c.save_site.ensures.write_fault

pub returns-in-None-clause-saves : goal.returns-in-None-clause-saves
returns-in-None-clause-saves g c = rw c.in-None.is (stays-same (g.E.Store.files c.args.store.now), c.tell.ensures.answers)

pub returns-in-None-clause-other : goal.returns-in-None-clause-other
returns-in-None-clause-other g c =
    let Failed : Type 0 = Rose (g.E.Store.faults c.args.store.now) (g.E.Store.faults c.args.store.now) in
    under-other Failed Failed None None
    (beside (g.E.Store.files c.args.store.now) (g.K.Sink.written c.args.out.now)) (beside (g.E.Store.files c.args.store.now) (g.K.Sink.written c.tell.new.out)) c.tell.result
    None c.args.site.now 5 (stays-same (g.E.Store.files c.args.store.now), c.tell.ensures.answers) (λ is. absurd (cc)) (λ is. absurd (cc)) (λ is. absurd (cc)) (λ is. absurd (cc)) (λ is. absurd (cc))

pub returns-in-None-clause-write_fault : goal.returns-in-None-clause-write_fault
returns-in-None-clause-write_fault g c = record { later = c.tell.ensures.faults; cause = c.tell.ensures.cause (λ is. absurd (cc)) }
