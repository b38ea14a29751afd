use Rattle.std.proofs.lemmas.Result.{on_ok_weaker}
use Rattle.cs_order_rules.specs.Facts.{open_slot}
use Rattle.cs_log.specs.Replicas.{kept}
use Rattle.cs_log.proofs.Acting.{view_entered}
use Rattle.cs_log.proofs.replica.Replica.enter.Goals as goal

pub returns-clause-call : goal.returns-clause-call
returns-clause-call c = λ s p. on_ok_weaker c.say.result (λ out. view_entered (kept c.args.self.now) s c.change_own.new.self c.enter.new.self c.args.view c.in_ok-change.change c.in_ok-told.told c.in_ok-change_own.field-0 c.open_slot-slot.result c.args.out.now.items c.say.new.out.items p c.requires.later c.requires.small c.in_ok-change.ensures c.in_ok-told.ensures (c.in_ok-change_own.ensures.call s (open_slot s) s.view p.shows) c.enter.ensures.shows c.open_slot-slot.ensures.slot out) c.say.ensures.said
