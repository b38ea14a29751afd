use Rattle.std.proofs.Common.{◌≡◌, ◌++◌, ℕ, ap, ◌∙◌, arith}
use Rattle.std.specs.Prelude.{codes}
use Rattle.cs_lang_print.specs.Words.{word}
use Rattle.cs_lang_print.specs.Runs.{times}
use Rattle.cs_lang_print.proofs.RunTexts.{put_two, times_next}
use Rattle.cs_lang_print.proofs.expressions.put_opened.Goals as goal

pub loop-preserved : goal.loop-preserved
loop-preserved c = put_two _ _ _ _ _ _ c.loop.invariant c.in_ok-put_word.ensures.text (times_next c.loop.counter (word (codes "(")))

pub returns-clause-text : goal.returns-clause-text
returns-clause-text c =
    let all : c.loop.counter ≡ c.args.count = omega arith in
    c.loop.invariant ∙ ap (λ (n : ℕ). c.args.out.now.items ++ times n (word (codes "("))) all
