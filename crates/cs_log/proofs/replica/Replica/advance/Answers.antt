use Rattle.cs_log.specs.Replicas.{kept}
use Rattle.cs_log.proofs.Acting.{entering_later, entered_by, confirmed_by, quiet_by}
use Rattle.cs_log.proofs.replica.Replica.advance.Goals as goal

pub enter-requires-clause-later : goal.enter-requires-clause-later
enter-requires-clause-later c = (entering_later (kept c.args.self.now) c.in-Some-entering.view c.requires c.in-Some-entering.ensures).0

pub enter-requires-clause-small : goal.enter-requires-clause-small
enter-requires-clause-small c = (entering_later (kept c.args.self.now) c.in-Some-entering.view c.requires c.in-Some-entering.ensures).1

pub returns-in-Some-entering-clause-call : goal.returns-in-Some-entering-clause-call
returns-in-Some-entering-clause-call c = λ s p. entered_by (kept c.args.self.now) (kept c.enter.new.self) s c.in-Some-entering.view c.args.out.now.items c.enter.new.out.items p c.in_default.ensures c.in-Some-entering.ensures (c.in_ok-enter.ensures.call s p)

pub returns-in-Some-to_confirm-clause-call : goal.returns-in-Some-to_confirm-clause-call
returns-in-Some-to_confirm-clause-call c = λ s p. confirmed_by (kept c.args.self.now) (kept c.confirm.new.self) s c.in-Some-to_confirm.digest c.args.out.now.items c.confirm.new.out.items p c.in_default.ensures c.in_default-entering.ensures c.in-Some-to_confirm.ensures (c.in_ok-confirm.ensures.call s p)

pub returns-clause-call : goal.returns-clause-call
returns-clause-call c = λ s p. quiet_by (kept c.args.self.now) s c.args.out.now.items p c.in_default.ensures c.in_default-entering.ensures c.in_default-to_confirm.ensures
