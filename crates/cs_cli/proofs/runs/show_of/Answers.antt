use Rattle.std.proofs.Common.{◌++◌, ap, sym, ◌∙◌}
use Rattle.cs_cli.specs.Words.{texts_of}
use Rattle.cs_cli.specs.Deployed.{show_called}
use Rattle.cs_cli.proofs.Behind.{both-length, five-as, not-five-shown}
use Rattle.cs_cli.proofs.runs.show_of.Goals as goal

pub returns-then-front-back-ne5-clause-called : goal.returns-then-front-back-ne5-clause-called
returns-then-front-back-ne5-clause-called c =
    let front = c.args.front.now in
    let back = c.args.back.now in
    sym (not-five-shown (texts_of front ++ texts_of back) (λ same. c.if-front-back-ne5.true (sym (both-length front back) ∙ same)))

pub returns-clause-called : goal.returns-clause-called
returns-clause-called c =
    let front = c.args.front.now in
    let back = c.args.back.now in
    c.show_among.ensures.called
    ∙ ap show_called
    (five-as (texts_of front ++ texts_of back) c.word_in.result.now c.word_in-2.result.now c.word_in-3.result.now c.word_in-4.result.now c.word_in-5.result.now
    (both-length front back ∙ c.if-front-back-ne5.false) c.word_in.ensures c.word_in-2.ensures c.word_in-3.ensures c.word_in-4.ensures c.word_in-5.ensures)
