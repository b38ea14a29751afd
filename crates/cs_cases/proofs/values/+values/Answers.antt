use Rattle.std.proofs.Common.{◌+◌, ◌-◌, sym, ◌∙◌, arith}
use Rattle.std.proofs.lemmas.Result.{err_from_is_err_and}
use Rattle.cs_lang_token.specs.declared.limits.TheConstants.{MOST_ITEMS}
use Rattle.cs_cases.specs.Grammar.{row_onward, value_level}
use Rattle.cs_cases.proofs.Rows.{row_step, row_fails}
use Rattle.cs_cases.proofs.values.+values.Goals as goal

pub row_behind-loop-preserved : goal.row_behind-loop-preserved
row_behind-loop-preserved t c =
    row_step c.args.close (value_level c.args.left) (MOST_ITEMS - c.loop.counter) (MOST_ITEMS - (c.loop.counter + 1)) c.loop.all c.in_ok-all.all c.loop.cursor c.one_more.new.cursor
    (row_onward c.args.close (value_level c.args.left) MOST_ITEMS c.args.first c.args.cursor.now)
    c.loop.invariant (omega arith) (omega arith) (sym c.at.ensures ∙ c.if-at.false) c.in_ok-all.ensures

pub row_behind-returns-in_err-all : goal.row_behind-returns-in_err-all
row_behind-returns-in_err-all t c =
    let passed = err_from_is_err_and c.from_residual-in_err-all.result c.from_residual-in_err-all.ensures.1 in
    rw (passed.1, passed.2) (row_fails c.args.close (value_level c.args.left) (MOST_ITEMS - c.loop.counter) c.loop.all c.loop.cursor c.one_more.new.cursor
    (row_onward c.args.close (value_level c.args.left) MOST_ITEMS c.args.first c.args.cursor.now) c.in_err-all.field-0.0
    c.loop.invariant (omega arith) (sym c.at.ensures ∙ c.if-at.false) c.in_err-all.ensures)
