use Rattle.std.proofs.Common.{sym, ◌∙◌}
use Rattle.cs_show.proofs.Heard.{kept-still, kept-put}
use Rattle.cs_show.proofs.looker.take.Goals as goal

pub returns-in_default : goal.returns-in_default
returns-in_default c = λ past input said is.
    kept-still c.args.lookup.now past input c.args.from c.args.message.now said c.args.words.now.items (sym c.in_default.is ∙ c.in_ok-line.ensures) is

pub returns : goal.returns
returns c = λ past input said is.
    kept-put c.args.lookup.now past input c.args.from c.args.message.now said c.args.words.now.items c.put_word.new.words.items c.args.shard c.in-Some.line
    (sym c.in-Some.is ∙ c.in_ok-line.ensures) c.requires.shard is c.put_word.ensures
