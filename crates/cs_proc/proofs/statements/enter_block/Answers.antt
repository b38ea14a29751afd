use Rattle.std.proofs.Common.{rules}
use Rattle.cs_proc.proofs.Turns.{block_acts, block_smaller}
use Rattle.cs_proc.proofs.statements.enter_block.Goals as goal

pub returns-clause-acts : goal.returns-clause-acts
returns-clause-acts c = λ scene above.
    block_acts scene above c.enter.result c.args.block.now c.as_slice.result c.len-names.result c.args.running.now c.enter.new.running
    c.requires (search rules) (search rules) c.enter.ensures.tasks c.enter.ensures.doing c.enter.ensures.frames c.enter.ensures.memory

pub returns-clause-smaller : goal.returns-clause-smaller
returns-clause-smaller c =
    block_smaller c.enter.result c.args.block.now c.as_slice.result c.len-names.result c.args.running.now.tasks.items c.enter.new.running.tasks.items
    (search rules) c.enter.ensures.tasks
