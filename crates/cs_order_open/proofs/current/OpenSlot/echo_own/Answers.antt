use Rattle.std.proofs.Common.{refl, sym, ap, ◌∙◌}
use Rattle.cs_order_rules.specs.Rules.{insert_line}
use Rattle.cs_order_open.proofs.Taking.{says_echo}
use Rattle.cs_order_open.proofs.current.OpenSlot.echo_own.Goals as goal

pub returns-then-not-fresh-clause-call : goal.returns-then-not-fresh-clause-call
returns-then-not-fresh-clause-call c = λ s n v shows.
    let repeat = c.if-not-fresh.true in
    says_echo c.args.self.now _ s n v c.args.me c.args.view c.args.digest _ shows c.requires.own (rw (← c.self.view_is) (sym repeat ∙ c.in_ok-fresh.ensures.fresh)) (rw (← c.self.view_is) (rw repeat at c.in_ok-fresh.ensures.now)) (rw (← c.self.view_is) refl) (rw (← c.self.view_is) refl)

pub returns-clause-call : goal.returns-clause-call
returns-clause-call c = λ s n v shows.
    let first = c.if-not-fresh.false in
    says_echo c.args.self.now _ s n v c.args.me c.args.view c.args.digest _ shows c.requires.own (rw (← c.self.view_is) (sym first ∙ c.in_ok-fresh.ensures.fresh)) (rw (← c.self.view_is) (rw first at c.in_ok-fresh.ensures.now)) (rw (← c.self.view_is) refl) (rw (← c.self.view_is) (c.in_ok-self-inside.ensures ∙ ap (insert_line (c.args.digest, c.args.view)) c.as_slice.ensures.value))
