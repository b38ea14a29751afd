use Rattle.std.specs.Prelude.{Option}
use Rattle.std.proofs.Common.{inl, inr, ℕ, List, Err, ap, refl, subst, ◌∙◌}
use Rattle.cs_base.specs.Outside.{Rose}
use Rattle.cs_io.specs.Outside.{beside}
use Rattle.cs_io.specs.laws.Told.{stays-same}
use Rattle.cs_deploy.specs.Master.{master_of}
use Rattle.cs_deploy.specs.ReadKeys.{SavesUnder}
use Rattle.cs_deploy.proofs.Answered.{keeps}
use Rattle.cs_deploy.proofs.keys_command.save_read.Goals as goal

pub returns-in-Ok-clause-saves : goal.returns-in-Ok-clause-saves
returns-in-Ok-clause-saves g c =
    let Failed : Type 0 = Rose (g.E.Store.faults c.args.store.now) (g.E.Store.faults c.save_under.new.store) in
    inr (record {
      text = c.in-Ok.text.items;
      is_text = c.in-Ok.ensures.text;
      saves = subst (λ (master : Option (List ℕ)). SavesUnder master c.args.site.now Failed
          (beside (g.E.Store.files c.args.store.now) (g.K.Sink.written c.args.out.now)) (beside (g.E.Store.files c.save_under.new.store) (g.K.Sink.written c.save_under.new.out)) c.save_under.result)
          (c.master_of.ensures ∙ ap master_of c.deref.ensures.value) c.save_under.ensures.saves;
    })

pub returns-in-Ok-clause-store : goal.returns-in-Ok-clause-store
returns-in-Ok-clause-store g c = c.save_under.ensures.store

pub returns-in-Ok-clause-read_fault : goal.returns-in-Ok-clause-read_fault
returns-in-Ok-clause-read_fault g c = record { later = c.in-Ok.ensures.cause.later; cause = λ five. absurd (c.save_under.ensures.other five) }

pub returns-in-Ok-clause-write_fault : goal.returns-in-Ok-clause-write_fault
returns-in-Ok-clause-write_fault g c = c.save_under.ensures.write_fault

pub returns-in-Err-Failed-clause-saves : goal.returns-in-Err-Failed-clause-saves
returns-in-Err-Failed-clause-saves g c =
    inl (record {
      kept = stays-same (g.E.Store.files c.args.store.now);
      told = inl (c.in-Err-Failed.ensures.cause.cause (ap Err c.in-Err-Failed.field-0-is), c.tell.ensures.answers);
    })

pub returns-in-Err-Failed-clause-read_fault : goal.returns-in-Err-Failed-clause-read_fault
returns-in-Err-Failed-clause-read_fault g c = record {
  later = c.in-Err-Failed.ensures.cause.later;
  cause = λ five. c.in-Err-Failed.ensures.cause.cause (ap Err c.in-Err-Failed.field-0-is);
}

pub returns-in-Err-Failed-clause-write_fault : goal.returns-in-Err-Failed-clause-write_fault
returns-in-Err-Failed-clause-write_fault g c = record { later = c.tell.ensures.faults; cause = c.tell.ensures.cause (λ is. absurd (cc)) }

pub returns-in-Err-Memory-clause-saves : goal.returns-in-Err-Memory-clause-saves
returns-in-Err-Memory-clause-saves g c =
    inl (record { kept = stays-same (g.E.Store.files c.args.store.now); told = inr (refl, keeps (g.K.Sink.written c.args.out.now)) })
