use Rattle.std.proofs.Common.{List, ◌≡◌, ◌-◌, ◌<◌, rules, arith, sym, ap, ◌∙◌}
use Rattle.std.proofs.lemmas.Result.{err_from_is_err_and}
use Rattle.cs_lang.proofs.Onward.{below_and, below_product, ranked_done, ranked_full, ranked_step, ranked_fail, post_done, post_full, post_step, post_fail, items_done, items_full, items_step, items_fail}
use Rattle.cs_lang.proofs.expressions.+expression.Goals as goal

pub rights-returns-then-not-at_rank : goal.rights-returns-then-not-at_rank
rights-returns-then-not-at_rank t c = ranked_done _ _ _ _ _ _ _ _ c.loop.invariant (sym c.at_rank.ensures ∙ c.if-not-at_rank.true)

pub rights-loop-preserved : goal.rights-loop-preserved
rights-loop-preserved t c = ranked_step _ _ _ _ _ _ _ _ _ _ _ c.loop.invariant (omega arith) (omega arith) (sym c.at_rank.ensures ∙ c.if-not-at_rank.false) c.in_ok-all.ensures

pub rights-returns-in_err-all : goal.rights-returns-in_err-all
rights-returns-in_err-all t c =
    let p = err_from_is_err_and c.from_residual.result c.from_residual.ensures.1 in
    rw (p.1, p.2) (ranked_fail _ _ _ _ _ _ _ _ _ c.in_err-all.field-0.0 c.loop.invariant (omega arith) (sym c.at_rank.ensures ∙ c.if-not-at_rank.false) c.in_err-all.ensures)

pub rights-returns-then-at_rank : goal.rights-returns-then-at_rank
rights-returns-then-at_rank t c = ranked_full _ _ _ _ _ _ _ _ c.loop.invariant (omega arith) (sym c.at_rank-2.ensures ∙ c.if-at_rank.true)

pub rights-returns : goal.rights-returns
rights-returns t c = ranked_done _ _ _ _ _ _ _ _ c.loop.invariant (sym c.at_rank-2.ensures ∙ c.if-at_rank.false)

pub steps-returns-then-not-at_step : goal.steps-returns-then-not-at_step
steps-returns-then-not-at_step t c = post_done _ _ _ _ _ _ _ c.loop.invariant (sym c.at_step.ensures ∙ c.if-not-at_step.true)

pub steps-loop-preserved : goal.steps-loop-preserved
steps-loop-preserved t c = post_step _ _ _ _ _ _ _ _ _ _ c.loop.invariant (omega arith) (omega arith) (sym c.at_step.ensures ∙ c.if-not-at_step.false) c.in_ok-all.ensures

pub steps-returns-in_err-all : goal.steps-returns-in_err-all
steps-returns-in_err-all t c =
    let p = err_from_is_err_and c.from_residual.result c.from_residual.ensures.1 in
    rw (p.1, p.2) (post_fail _ _ _ _ _ _ _ _ c.in_err-all.field-0.0 c.loop.invariant (omega arith) (sym c.at_step.ensures ∙ c.if-not-at_step.false) c.in_err-all.ensures)

pub steps-returns-then-at_step : goal.steps-returns-then-at_step
steps-returns-then-at_step t c = post_full _ _ _ _ _ _ _ c.loop.invariant (omega arith) (sym c.at_step-2.ensures ∙ c.if-at_step.true)

pub steps-returns : goal.steps-returns
steps-returns t c = post_done _ _ _ _ _ _ _ c.loop.invariant (sym c.at_step-2.ensures ∙ c.if-at_step.false)

pub other_items-returns-then-not-at : goal.other_items-returns-then-not-at
other_items-returns-then-not-at t c = items_done _ _ _ _ _ _ _ c.loop.invariant (sym c.at.ensures ∙ c.if-not-at.true)

pub other_items-loop-preserved : goal.other_items-loop-preserved
other_items-loop-preserved t c = items_step _ _ _ _ _ _ _ _ _ _ c.loop.invariant (omega arith) (omega arith) (sym c.at.ensures ∙ c.if-not-at.false) c.in_ok-all.ensures

pub other_items-returns-in_err-all : goal.other_items-returns-in_err-all
other_items-returns-in_err-all t c =
    let p = err_from_is_err_and c.from_residual.result c.from_residual.ensures.1 in
    rw (p.1, p.2) (items_fail _ _ _ _ _ _ _ _ c.in_err-all.field-0.0 c.loop.invariant (omega arith) (sym c.at.ensures ∙ c.if-not-at.false) c.in_err-all.ensures)

pub other_items-returns-then-at : goal.other_items-returns-then-at
other_items-returns-then-at t c = items_full _ _ _ _ _ _ _ c.loop.invariant (omega arith) (sym c.at-2.ensures ∙ c.if-at.true)

pub other_items-returns : goal.other_items-returns
other_items-returns t c = items_done _ _ _ _ _ _ _ c.loop.invariant (sym c.at-2.ensures ∙ c.if-at.false)

pub operand-returns-in-Or : goal.operand-returns-in-Or
operand-returns-in-Or t c = rw (c.in-Or.is, below_and) c.chain.ensures

pub operand-returns-in-Sum : goal.operand-returns-in-Sum
operand-returns-in-Sum t c = rw (c.in-Sum.is, below_product) c.chain-in-Sum.ensures
