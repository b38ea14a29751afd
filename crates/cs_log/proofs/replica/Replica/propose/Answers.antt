use Rattle.std.proofs.lemmas.Result.{on_ok_weaker}
use Rattle.cs_order_rules.specs.Facts.{open_slot}
use Rattle.cs_log.specs.Replicas.{kept}
use Rattle.cs_log.proofs.Acting.{proposed}
use Rattle.cs_log.proofs.replica.Replica.propose.Goals as goal

pub returns-clause-call : goal.returns-clause-call
returns-clause-call c = λ s p. on_ok_weaker c.say.result (λ out. proposed (kept c.args.self.now) s c.propose_own.new.self c.args.entry c.in_ok-propose_own.field-0 c.open_slot-slot.result c.args.out.now.items c.say.new.out.items p c.requires.may (rw c.in_ok-own.ensures at c.in_ok-propose_own.ensures.call s (open_slot s) s.view p.shows) c.open_slot-slot.ensures.slot out) c.say.ensures.said
