use Rattle.std.proofs.Common.{◌<◌, length, sym, ap, ◌∙◌}
use Rattle.cs_client.proofs.Believing.{next-set}
use Rattle.cs_waits.specs.Notes.{with_word}
use Rattle.cs_waits.proofs.notes.hear_words.Goals as goal

pub loop-i-preserved : goal.loop-i-preserved
loop-i-preserved c =
    let change = with_word c.args.config.now c.args.from c.args.message.now in
    let all = c.args.watched.now in
    let now = c.loop-i.watched in
    let i = c.loop-i.i in
    let one = c.index-watched-i.result in
    let less : i < length all = c.loop-i-test.true in
    next-set change all now i one less c.loop-i.invariant c.index-watched-i.is c.hear_word.new.watched
    (c.hear_word.ensures ∙ ap change (sym c.index-watched-i.is))
