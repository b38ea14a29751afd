use Rattle.std.proofs.Common.{◌++◌, ap, sym, ◌∙◌}
use Rattle.cs_cli.specs.Words.{texts_of}
use Rattle.cs_cli.specs.Deployed.{node_called}
use Rattle.cs_cli.proofs.Behind.{both-length, four-as, not-four}
use Rattle.cs_cli.proofs.runs.node_of.Goals as goal

pub returns-then-front-back-ne4-clause-called : goal.returns-then-front-back-ne4-clause-called
returns-then-front-back-ne4-clause-called c =
    let front = c.args.front.now in
    let back = c.args.back.now in
    sym (not-four (texts_of front ++ texts_of back) (λ same. c.if-front-back-ne4.true (sym (both-length front back) ∙ same)))

pub returns-clause-called : goal.returns-clause-called
returns-clause-called c =
    let front = c.args.front.now in
    let back = c.args.back.now in
    c.node_among.ensures.called
    ∙ ap node_called
    (four-as (texts_of front ++ texts_of back) c.word_in.result.now c.word_in-2.result.now c.word_in-3.result.now c.word_in-4.result.now
    (both-length front back ∙ c.if-front-back-ne4.false) c.word_in.ensures c.word_in-2.ensures c.word_in-3.ensures c.word_in-4.ensures)
