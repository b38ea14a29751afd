use Rattle.std.proofs.Common.{◌≡◌, ◌-◌, drop, map}
use Rattle.cs_eval_check.specs.TaskWork.{most_turns}
use Rattle.cs_eval_check.specs.Tasks.{left_in}
use Rattle.cs_eval_place.specs.Locating.{all_located, turns_located, block_located, statement_located}
use Rattle.cs_eval_place.proofs.statements.+block.Given as goal

abbrev pub invariant-turns-loop-held : goal.invariant-turns-loop-held
invariant-turns-loop-held l =
    turns_located l.scene.contract.now l.scene.view.now l.name l.kind (block_located l.scene.contract.now l.scene.view.now l.each) (left_in l.source l.at) l.names
    ≡ turns_located l.scene.contract.now l.scene.view.now l.name l.kind (block_located l.scene.contract.now l.scene.view.now l.each) (left_in l.source 0) l.initial.names

abbrev pub decreases-turns-loop-held : goal.decreases-turns-loop-held
decreases-turns-loop-held l = most_turns l.source - l.at

abbrev pub invariant-statements-loop-statement : goal.invariant-statements-loop-statement
invariant-statements-loop-statement l =
    all_located l.scene.contract.now l.scene.view.now (map (statement_located l.scene.contract.now l.scene.view.now) (drop l.statement-index l.statements)) l.names
    ≡ all_located l.scene.contract.now l.scene.view.now (map (statement_located l.scene.contract.now l.scene.view.now) l.statements) l.initial.names
