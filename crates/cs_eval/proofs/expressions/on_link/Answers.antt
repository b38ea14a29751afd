use Rattle.std.proofs.Common.{Ok, ◌∙◌, sym, ap}
use Rattle.cs_eval_values.specs.Runs.{Run}
use Rattle.cs_eval_values.specs.Datums.{Datum}
use Rattle.cs_eval.specs.Machine.{then_resumed}
use Rattle.cs_eval.proofs.Turns.{moves_is, link_goes_on}
use Rattle.cs_eval.proofs.expressions.on_link.Goals as goal

pub returns-clause-moves : goal.returns-clause-moves
returns-clause-moves c = λ sight.
    moves_is sight (Ok c.open_right.result) 0 _ _ _
    (ap (then_resumed sight c.args.frames.now.items) (link_goes_on sight c.args.link.now c.args.left (sym c.decides.ensures ∙ c.if-decides.false)))
    (c.open_right.ensures.moves sight)
