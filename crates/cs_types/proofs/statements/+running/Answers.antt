use Rattle.std.proofs.Common.{◌∙◌}
use Rattle.std.proofs.lemmas.Result.{err_from_is_err_and}
use Rattle.cs_types.proofs.Branches.{adds_as, for_in_is, else_cost, else_first, else_second, else_done}
use Rattle.cs_types.proofs.Staying.{stays_same}
use Rattle.cs_types.proofs.statements.+running.Goals as goal

pub action-returns-in-ForIn : goal.action-returns-in-ForIn
action-returns-in-ForIn t c =
    let f = c.in-ForIn in
    adds_as _ _ _ _ _ (for_in_is c.args.action.now f.name f.list f.each c.args.place c.args.scope.now c.judge-told.result f.is c.judge-told.ensures) c.for_in_statement.ensures

pub action-returns-in_err-cost-in-IfElse : goal.action-returns-in_err-cost-in-IfElse
action-returns-in_err-cost-in-IfElse t c =
    let f = c.in-IfElse in
    let p = err_from_is_err_and c.from_residual.result c.from_residual.ensures.1 in
    rw (p.1, p.2) (else_cost c.args.action.now f.condition f.then f.other c.args.place c.args.scope.now f.is c.in_err-cost-in-IfElse.field-0.0 c.in_err-cost-in-IfElse.ensures)

pub action-returns-in_err-first-in-IfElse : goal.action-returns-in_err-first-in-IfElse
action-returns-in_err-first-in-IfElse t c =
    let f = c.in-IfElse in
    let p = err_from_is_err_and c.from_residual-in_err-first-in-IfElse.result c.from_residual-in_err-first-in-IfElse.ensures.1 in
    rw (p.1, p.2) (else_first c.args.action.now f.condition f.then f.other c.args.place c.args.scope.now f.is c.in_ok-cost-in-IfElse.cost c.in_err-first-in-IfElse.field-0.0 c.in_ok-cost-in-IfElse.ensures c.in_err-first-in-IfElse.ensures)

pub action-returns-in_err-second-in-IfElse : goal.action-returns-in_err-second-in-IfElse
action-returns-in_err-second-in-IfElse t c =
    let f = c.in-IfElse in
    let p = err_from_is_err_and c.from_residual-in_err-second-in-IfElse.result c.from_residual-in_err-second-in-IfElse.ensures.1 in
    rw (p.1, p.2) (else_second c.args.action.now f.condition f.then f.other c.args.place c.args.scope.now f.is c.in_ok-cost-in-IfElse.cost c.in_ok-first-in-IfElse.first c.in_err-second-in-IfElse.field-0.0 c.block.new.scope c.in_ok-cost-in-IfElse.ensures c.in_ok-first-in-IfElse.ensures.0 c.in_ok-first-in-IfElse.ensures.1 c.in_err-second-in-IfElse.ensures)

pub action-returns-in_ok-second-in-IfElse : goal.action-returns-in_ok-second-in-IfElse
action-returns-in_ok-second-in-IfElse t c =
    let f = c.in-IfElse in
    let same = c.in_ok-second-in-IfElse.ensures.1 ∙ c.in_ok-first-in-IfElse.ensures.1 in (
      else_done c.args.action.now f.condition f.then f.other c.args.place c.args.scope.now f.is c.in_ok-cost-in-IfElse.cost c.in_ok-first-in-IfElse.first c.in_ok-second-in-IfElse.second c.max.result c.plus.result c.block.new.scope c.block-in-IfElse.new.scope c.in_ok-cost-in-IfElse.ensures c.in_ok-first-in-IfElse.ensures.0 c.in_ok-first-in-IfElse.ensures.1 c.in_ok-second-in-IfElse.ensures.0 same c.max.ensures c.plus.ensures,
      stays_same c.args.scope.now c.block-in-IfElse.new.scope same,
    )
