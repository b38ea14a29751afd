use Rattle.std.proofs.Common.{refl, ap, ◌∙◌}
use Rattle.std.specs.Ordering.{is_lt}
use Rattle.cs_order_open.proofs.Placing.{line_before, line_after}
use Rattle.cs_order_open.proofs.lines.place.Goals as goal

pub returns-then-is_lt : goal.returns-then-is_lt
returns-then-is_lt c = λ rest. rw c.in-Some.is (line_before c.args.out.now.items c.push-then-is_lt-2.new.self.items rest c.in-Some.line c.args.other (rw (c.in_ok-push-4.ensures.items, c.in_ok-push-3.ensures.items) refl) c.if-eq.ensures (c.if-is_lt.ensures ∙ ap is_lt c.cmp.ensures))

pub returns : goal.returns
returns c = λ rest. rw c.in-Some.is (line_after c.args.out.now.items c.push-2.new.self.items rest c.in-Some.line c.args.other (rw c.in_ok-push-5.ensures.items refl) c.if-eq.ensures (c.if-is_lt.ensures ∙ ap is_lt c.cmp.ensures))
