use Rattle.std.proofs.lemmas.Result.{on_ok_weaker}
use Rattle.cs_order_rules.specs.Facts.{open_slot}
use Rattle.cs_log.specs.Replicas.{kept}
use Rattle.cs_log.proofs.Acting.{echo_none, echoed}
use Rattle.cs_log.proofs.replica.Replica.echo.Goals as goal

pub returns-in_default-clause-call : goal.returns-in_default-clause-call
returns-in_default-clause-call c = λ s p. echo_none (kept c.args.self.now) s c.args.out.now.items p c.in_default.ensures

pub returns-clause-call : goal.returns-clause-call
returns-clause-call c = λ s p. on_ok_weaker c.say.result (λ out. echoed (kept c.args.self.now) s c.echo_own.new.self c.in-Some.entry.now c.in_ok-echo_own.field-0 c.open_slot-slot.result c.args.out.now.items c.say.new.out.items p c.in-Some.ensures (c.in_ok-echo_own.ensures.call s (open_slot s) s.view p.shows) c.open_slot-slot.ensures.slot out) c.say.ensures.said
