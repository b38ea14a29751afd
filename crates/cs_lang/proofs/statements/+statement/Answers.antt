use Rattle.std.proofs.Common.{List, ◌≡◌, ◌-◌, ◌<◌, rules, arith, sym, ap, ◌∙◌}
use Rattle.std.proofs.lemmas.Result.{err_from_is_err_and}
use Rattle.cs_lang.proofs.Onward.{statements_done, statements_full, statements_step, statements_fail}
use Rattle.cs_lang.proofs.statements.+statement.Goals as goal

pub other_statements-returns-then-not-at_statement : goal.other_statements-returns-then-not-at_statement
other_statements-returns-then-not-at_statement t c = statements_done _ _ _ _ _ _ _ c.loop.invariant (sym c.at_statement.ensures ∙ c.if-not-at_statement.true)

pub other_statements-loop-preserved : goal.other_statements-loop-preserved
other_statements-loop-preserved t c = statements_step _ _ _ _ _ _ _ _ _ _ c.loop.invariant (omega arith) (omega arith) (sym c.at_statement.ensures ∙ c.if-not-at_statement.false) c.in_ok-all.ensures

pub other_statements-returns-in_err-all : goal.other_statements-returns-in_err-all
other_statements-returns-in_err-all t c =
    let p = err_from_is_err_and c.from_residual.result c.from_residual.ensures.1 in
    rw (p.1, p.2) (statements_fail _ _ _ _ _ _ _ _ c.in_err-all.field-0.0 c.loop.invariant (omega arith) (sym c.at_statement.ensures ∙ c.if-not-at_statement.false) c.in_err-all.ensures)

pub other_statements-returns-then-at_statement : goal.other_statements-returns-then-at_statement
other_statements-returns-then-at_statement t c = statements_full _ _ _ _ _ _ _ c.loop.invariant (omega arith) (sym c.at_statement-2.ensures ∙ c.if-at_statement.true)

pub other_statements-returns : goal.other_statements-returns
other_statements-returns t c = statements_done _ _ _ _ _ _ _ c.loop.invariant (sym c.at_statement-2.ensures ∙ c.if-at_statement.false)
