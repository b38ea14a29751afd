use Rattle.std.proofs.Common.{List, ◌≡◌, ◌-◌, ◌<◌, rules, arith, sym, ap, ◌∙◌}
use Rattle.std.proofs.lemmas.Result.{err_from_is_err_and}
use Rattle.cs_lang.proofs.Onward.{methods_done, methods_full, methods_step, methods_fail}
use Rattle.cs_lang.proofs.methods.other_methods.Goals as goal

pub returns-then-not-at : goal.returns-then-not-at
returns-then-not-at c = methods_done _ _ _ _ _ _ c.loop.invariant (sym c.at.ensures ∙ c.if-not-at.true)

pub loop-preserved : goal.loop-preserved
loop-preserved c = methods_step _ _ _ _ _ _ _ _ _ c.loop.invariant (omega arith) (omega arith) (sym c.at.ensures ∙ c.if-not-at.false) c.in_ok-all.ensures

pub returns-in_err-all : goal.returns-in_err-all
returns-in_err-all c =
    let p = err_from_is_err_and c.from_residual.result c.from_residual.ensures.1 in
    rw (p.1, p.2) (methods_fail _ _ _ _ _ _ _ c.in_err-all.field-0.0 c.loop.invariant (omega arith) (sym c.at.ensures ∙ c.if-not-at.false) c.in_err-all.ensures)

pub returns-then-at : goal.returns-then-at
returns-then-at c = methods_full _ _ _ _ _ _ c.loop.invariant (omega arith) (sym c.at-2.ensures ∙ c.if-at.true)

pub returns : goal.returns
returns c = methods_done _ _ _ _ _ _ c.loop.invariant (sym c.at-2.ensures ∙ c.if-at.false)
