use Rattle.std.proofs.Common.{◌∷◌, ap}
use Rattle.cs_eval.specs.declared.frame.Frame.{Frame}
use Rattle.cs_eval.specs.Machine.{seen_from, resumed}
use Rattle.cs_eval.proofs.Turns.{moves_is}
use Rattle.cs_eval.proofs.expressions.resume.Goals as goal

pub returns-clause-moves : goal.returns-clause-moves
returns-clause-moves c = λ names.
    let sight = seen_from c.args.scene.now names in
    moves_is sight c.on_item.result 0 _ _ _
    (ap (λ (f : Frame). resumed sight (f ∷ c.args.frames.now.items) c.args.held) c.in-Items.is)
    (c.on_item.ensures.moves sight)
