use Rattle.std.proofs.Common.{rules}
use Rattle.cs_eval_check.proofs.Turns.{block_acts, block_smaller}
use Rattle.cs_eval_check.proofs.statements.enter_block.Goals as goal

pub returns-clause-acts : goal.returns-clause-acts
returns-clause-acts c = λ scene.
    block_acts scene c.enter.result c.args.block.now c.as_slice.result c.len-names.result c.args.running.now c.enter.new.running
    c.requires.idle (search rules) (search rules) c.enter.ensures.tasks c.enter.ensures.names (search rules)

pub returns-clause-smaller : goal.returns-clause-smaller
returns-clause-smaller c =
    block_smaller c.args.block.now c.as_slice.result c.len-names.result c.args.running.now.tasks.items c.enter.new.running.tasks.items
    (search rules) c.enter.ensures.tasks
