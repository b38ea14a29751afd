use Rattle.cs_eval.proofs.Turns.{right_on_top}
use Rattle.cs_eval.proofs.expressions.open_right.Goals as goal

pub returns-clause-moves : goal.returns-clause-moves
returns-clause-moves c = λ sight. right_on_top sight c.args.operation c.args.place c.args.left c.args.right.now c.args.frames.now.items _ c.push.ensures.items
