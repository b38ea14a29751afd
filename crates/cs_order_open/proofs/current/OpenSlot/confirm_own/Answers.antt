use Rattle.std.proofs.Common.{refl}
use Rattle.cs_order_open.proofs.Taking.{new_confirm}
use Rattle.cs_order_open.proofs.current.OpenSlot.confirm_own.Goals as goal

pub returns-clause-call : goal.returns-clause-call
returns-clause-call c = λ s n v shows. new_confirm c.args.self.now _ s n v c.args.me c.args.view c.args.digest c.in_ok-fresh.fresh shows (rw (← c.self.view_is) c.in_ok-fresh.ensures.fresh) (rw (← c.self.view_is) c.in_ok-fresh.ensures.now) (rw (← c.self.view_is) refl) (rw (← c.self.view_is) refl)
