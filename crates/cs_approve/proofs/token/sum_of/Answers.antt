use Rattle.std.proofs.Common.{◌+◌, ◌∙◌, drop, sym, ap, arith}
use Rattle.cs_tx.specs.Token.{sum_from}
use Rattle.cs_approve.proofs.Sums.{goes_on, stops}
use Rattle.cs_approve.proofs.token.sum_of.Goals as goal

pub returns-in_err-amount : goal.returns-in_err-amount
returns-in_err-amount c =
    c.from_residual-in_err-amount.ensures
    ∙ stops c.args.coins.now c.loop-place.place c.loop-place.sum c.in_ok-get.field-0.now c.in_ok-get.ensures (sum_from c.args.coins.now 0) (sym c.in_err-amount.ensures.amount) c.loop-place.invariant.sum

pub loop-place-preserved : goal.loop-place-preserved
loop-place-preserved c = record {
  sum = ap (λ n. sum_from (drop (c.loop-place.place + 1) c.args.coins.now) (c.loop-place.sum + n)) c.from.ensures
      ∙ goes_on c.args.coins.now c.loop-place.place c.loop-place.sum c.in_ok-get.field-0.now c.in_ok-get.ensures c.in_ok-amount.amount (sum_from c.args.coins.now 0) (sym c.in_ok-amount.ensures.amount) c.loop-place.invariant.sum;
  small = omega (arith, c.from.ensures, c.in_ok-amount.ensures.small, c.loop-place.invariant.small);
}
