use Rattle.std.proofs.Common.{sym, ◌∙◌}
use Rattle.std.proofs.lemmas.Result.{err_from_is_err_and}
use Rattle.cs_eval_place.specs.Locating.{block_located}
use Rattle.cs_eval_place.proofs.Loops.{next_statement, statement_ends, next_turn, if_ends, if_else_ends, if_true, if_false, if_else_true, if_else_false, for_in_ends, for_in_goes}
use Rattle.cs_eval_place.proofs.statements.+block.Goals as goal

-- ---- statements

pub statements-loop-statement-preserved : goal.statements-loop-statement-preserved
statements-loop-statement-preserved t c =
    next_statement c.args.scene.now.contract.now c.args.scene.now.view.now c.args.statements.now c.loop-statement.statement-index c.statement-item.result c.loop-statement.names _
    c.loop-statement-test.true c.statement-item.is c.loop-statement.invariant c.act.new.names c.in_ok-act.ensures

pub statements-returns-in_err-act : goal.statements-returns-in_err-act
statements-returns-in_err-act t c =
    let passed = err_from_is_err_and c.from_residual.result c.from_residual.ensures.1 in
    rw (passed.1, passed.2) (statement_ends c.args.scene.now.contract.now c.args.scene.now.view.now c.args.statements.now c.loop-statement.statement-index c.statement-item.result c.loop-statement.names _
    c.loop-statement-test.true c.statement-item.is c.loop-statement.invariant c.in_err-act.field-0.0 c.in_err-act.ensures)

pub turns-loop-held-preserved : goal.turns-loop-held-preserved
turns-loop-held-preserved t c =
    let contract = c.args.scene.now.contract.now in
    let view = c.args.scene.now.view.now in
    next_turn contract view c.args.name.now c.args.kind (block_located contract view c.args.each.now) c.args.source.now c.loop-held.at c.in-Some.held c.loop-held.names c.turn.new.names _
    (sym c.in-Some.is ∙ c.in_ok-held.ensures.found) c.in_ok-turn.ensures c.loop-held.invariant

-- ---- what a statement does

pub act-returns-in_err-holds-in-If : goal.act-returns-in_err-holds-in-If
act-returns-in_err-holds-in-If t c =
    let passed = err_from_is_err_and c.from_residual.result c.from_residual.ensures.1 in
    rw (passed.1, passed.2) (if_ends c.args.scene.now.contract.now c.args.scene.now.view.now c.args.action.now c.args.place c.args.names.now c.in-If.condition c.in-If.one c.in_err-holds-in-If.field-0.0 c.in-If.is c.in_err-holds-in-If.ensures)

pub act-returns-then-branch : goal.act-returns-then-branch
act-returns-then-branch t c =
    if_true c.args.scene.now.contract.now c.args.scene.now.view.now c.args.action.now c.args.place c.args.names.now c.in-If.condition c.in-If.one c.in_ok-holds-in-If.field-0 c.block.result c.block.new.names
    c.in-If.is c.in_ok-holds-in-If.ensures c.if-branch.true c.block.ensures

pub act-returns-else-branch : goal.act-returns-else-branch
act-returns-else-branch t c =
    if_false c.args.scene.now.contract.now c.args.scene.now.view.now c.args.action.now c.args.place c.args.names.now c.in-If.condition c.in-If.one c.in_ok-holds-in-If.field-0
    c.in-If.is c.in_ok-holds-in-If.ensures c.if-branch.false

pub act-returns-in_err-holds-in-IfElse : goal.act-returns-in_err-holds-in-IfElse
act-returns-in_err-holds-in-IfElse t c =
    let passed = err_from_is_err_and c.from_residual-in_err-holds-in-IfElse.result c.from_residual-in_err-holds-in-IfElse.ensures.1 in
    rw (passed.1, passed.2) (if_else_ends c.args.scene.now.contract.now c.args.scene.now.view.now c.args.action.now c.args.place c.args.names.now c.in-IfElse.condition c.in-IfElse.one c.in-IfElse.other
    c.in_err-holds-in-IfElse.field-0.0 c.in-IfElse.is c.in_err-holds-in-IfElse.ensures)

pub act-returns-then-branch-2 : goal.act-returns-then-branch-2
act-returns-then-branch-2 t c =
    if_else_true c.args.scene.now.contract.now c.args.scene.now.view.now c.args.action.now c.args.place c.args.names.now c.in-IfElse.condition c.in-IfElse.one c.in-IfElse.other c.in_ok-holds-in-IfElse.field-0
    c.block-then-branch-2.result c.block-then-branch-2.new.names c.in-IfElse.is c.in_ok-holds-in-IfElse.ensures c.if-branch-2.true c.block-then-branch-2.ensures

pub act-returns-else-branch-2 : goal.act-returns-else-branch-2
act-returns-else-branch-2 t c =
    if_else_false c.args.scene.now.contract.now c.args.scene.now.view.now c.args.action.now c.args.place c.args.names.now c.in-IfElse.condition c.in-IfElse.one c.in-IfElse.other c.in_ok-holds-in-IfElse.field-0
    c.block-in-IfElse.result c.block-in-IfElse.new.names c.in-IfElse.is c.in_ok-holds-in-IfElse.ensures c.if-branch-2.false c.block-in-IfElse.ensures

pub act-returns-in_err-kind-in-ForIn : goal.act-returns-in_err-kind-in-ForIn
act-returns-in_err-kind-in-ForIn t c =
    let passed = err_from_is_err_and c.from_residual-in_err-kind-in-ForIn.result c.from_residual-in_err-kind-in-ForIn.ensures.1 in
    rw (passed.1, passed.2) (for_in_ends c.args.scene.now.contract.now c.args.scene.now.view.now c.args.action.now c.args.place c.args.names.now c.in-ForIn.name c.in-ForIn.list c.in-ForIn.each
    c.in_err-kind-in-ForIn.field-0.0 c.in-ForIn.is c.in_err-kind-in-ForIn.ensures)

pub act-returns-in_ok-kind-in-ForIn : goal.act-returns-in_ok-kind-in-ForIn
act-returns-in_ok-kind-in-ForIn t c =
    for_in_goes c.args.scene.now.contract.now c.args.scene.now.view.now c.args.action.now c.args.place c.args.names.now c.in-ForIn.name c.in-ForIn.list c.in-ForIn.each c.as_slice.result.now
    c.in_ok-kind-in-ForIn.kind c.in_ok-kind-in-ForIn.held c.turns.result c.turns.new.names c.in-ForIn.is c.in_ok-kind-in-ForIn.ensures c.as_slice.ensures c.turns.ensures
