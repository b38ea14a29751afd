use Rattle.std.proofs.Common.{refl}
use Rattle.cs_order_open.proofs.Taking.{takes_proposal, takes_echo, takes_confirm, takes_change, takes_done}
use Rattle.cs_order_open.proofs.current.OpenSlot.take.Goals as goal

pub returns-in_ok-fresh-in-Propose-clause-call : goal.returns-in_ok-fresh-in-Propose-clause-call
returns-in_ok-fresh-in-Propose-clause-call c = λ s n view shows. takes_proposal c.args.self.now _ s n view c.args.from c.in-Propose.slot c.in-Propose.view c.in-Propose.entry c.args.message c.in_ok-fresh-in-Propose.fresh c.in-Propose.is c.requires.slot c.requires.led shows (rw (← c.self.view_is) c.in_ok-fresh-in-Propose.ensures.fresh) (rw (← c.self.view_is) c.in_ok-fresh-in-Propose.ensures.now) (rw (← c.self.view_is) refl) (rw (← c.self.view_is) refl)

pub returns-in_ok-fresh-in-Echo-clause-call : goal.returns-in_ok-fresh-in-Echo-clause-call
returns-in_ok-fresh-in-Echo-clause-call c = λ s n view shows. takes_echo c.args.self.now _ s n view c.args.from c.in-Echo.slot c.in-Echo.view c.in-Echo.digest c.args.message c.in_ok-fresh-in-Echo.fresh c.in-Echo.is c.requires.slot c.requires.other shows (rw (← c.self.view_is) c.in_ok-fresh-in-Echo.ensures.fresh) (rw (← c.self.view_is) c.in_ok-fresh-in-Echo.ensures.now) (rw (← c.self.view_is) refl) (rw (← c.self.view_is) refl)

pub returns-in_ok-fresh-in-Confirm-clause-call : goal.returns-in_ok-fresh-in-Confirm-clause-call
returns-in_ok-fresh-in-Confirm-clause-call c = λ s n view shows. takes_confirm c.args.self.now _ s n view c.args.from c.in-Confirm.slot c.in-Confirm.view c.in-Confirm.digest c.args.message c.in_ok-fresh-in-Confirm.fresh c.in-Confirm.is c.requires.slot shows (rw (← c.self.view_is) c.in_ok-fresh-in-Confirm.ensures.fresh) (rw (← c.self.view_is) c.in_ok-fresh-in-Confirm.ensures.now) (rw (← c.self.view_is) refl) (rw (← c.self.view_is) refl)

pub returns-in_ok-fresh-in-Change-clause-call : goal.returns-in_ok-fresh-in-Change-clause-call
returns-in_ok-fresh-in-Change-clause-call c = λ s n view shows. takes_change c.args.self.now _ s n view c.args.from c.in-Change.slot c.in-Change.view c.in-Change.change c.args.message c.in_ok-fresh-in-Change.fresh c.in-Change.is c.requires.slot shows (rw (← c.self.view_is) c.in_ok-fresh-in-Change.ensures.fresh) (rw (← c.self.view_is) refl) (rw (← c.self.view_is) c.in_ok-fresh-in-Change.ensures.now) (rw (← c.self.view_is) c.in_ok-fresh-in-Change.ensures.reached) (rw (← c.self.view_is) c.in_ok-fresh-in-Change.ensures.same) (rw (← c.self.view_is) refl)

pub returns-in_ok-fresh-in-Done-clause-call : goal.returns-in_ok-fresh-in-Done-clause-call
returns-in_ok-fresh-in-Done-clause-call c = λ s n view shows. takes_done c.args.self.now _ s n view c.args.from c.in-Done.slot c.in-Done.entry c.args.message c.in_ok-fresh-in-Done.fresh c.in-Done.is c.requires.slot shows (rw (← c.self.view_is) c.in_ok-fresh-in-Done.ensures.fresh) (rw (← c.self.view_is) c.in_ok-fresh-in-Done.ensures.now) (rw (← c.self.view_is) refl) (rw (← c.self.view_is) refl)
