use Rattle.std.proofs.Common.{rules}
use Rattle.cs_eval.proofs.Turns.{moves_is, opened_front, chain_on_top}
use Rattle.cs_eval.proofs.expressions.on_chain.Goals as goal

pub returns-in-len1-up-clause-moves : goal.returns-in-len1-up-clause-moves
returns-in-len1-up-clause-moves c = λ sight.
    moves_is sight c.on_link.result 0 _ _ _
    (chain_on_top sight c.args.links.now c.link-item.result _ c.args.left c.args.frames.now.items _ (opened_front c.args.links.now c.link-item.result (search rules) (search rules)) c.push.ensures.items)
    (c.on_link.ensures.moves sight)
