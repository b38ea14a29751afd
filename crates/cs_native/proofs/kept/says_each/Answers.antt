use Rattle.std.proofs.Common.{sym, ◌∙◌, arith}
use Rattle.cs_approve.specs.Approval.{is_said_of_each}
use Rattle.cs_native.proofs.Saying.{says_on, says_no}
use Rattle.cs_native.proofs.kept.says_each.Goals as goal

pub returns-then-not-yes : goal.returns-then-not-yes
returns-then-not-yes g c =
    let said = g.C.Clerk.is_said c.args.clerk.now in
    says_no (said c.args.tx.now) c.loop-place.place c.args.tx.now.traces (is_said_of_each said c.args.tx.now)
    (omega (arith, c.len-place-end.ensures)) c.loop-place.invariant (sym c.in_ok-yes.ensures ∙ c.if-not-yes.true)

pub loop-place-preserved : goal.loop-place-preserved
loop-place-preserved g c =
    let said = g.C.Clerk.is_said c.args.clerk.now in
    says_on (said c.args.tx.now) c.loop-place.place c.args.tx.now.traces (is_said_of_each said c.args.tx.now)
    (omega (arith, c.len-place-end.ensures)) c.loop-place.invariant (sym c.in_ok-yes.ensures ∙ c.if-not-yes.false)
