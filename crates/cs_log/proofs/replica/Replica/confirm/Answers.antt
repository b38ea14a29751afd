use Rattle.std.proofs.lemmas.Result.{on_ok_weaker}
use Rattle.cs_order_rules.specs.Facts.{open_slot}
use Rattle.cs_log.specs.Replicas.{kept}
use Rattle.cs_log.proofs.Acting.{confirmed}
use Rattle.cs_log.proofs.replica.Replica.confirm.Goals as goal

pub returns-clause-call : goal.returns-clause-call
returns-clause-call c = λ s p. on_ok_weaker c.say.result (λ out. confirmed (kept c.args.self.now) s c.confirm_own.new.self c.args.digest c.in_ok-confirm_own.field-0 c.open_slot-slot.result c.args.out.now.items c.say.new.out.items p c.requires.due (c.in_ok-confirm_own.ensures.call s (open_slot s) s.view p.shows) c.open_slot-slot.ensures.slot out) c.say.ensures.said
