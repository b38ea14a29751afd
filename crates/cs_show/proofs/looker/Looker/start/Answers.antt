use Rattle.std.proofs.Common.{refl, sym, ◌∙◌}
use Rattle.cs_show.proofs.Told.{nothing-told}
use Rattle.cs_show.proofs.looker.Looker.start.Goals as goal

pub returns : goal.returns
returns c = record {
  lookup_is = refl;
  asks_are = c.in_ok-asks.ensures;
  words_are = c.in_ok-words.ensures ∙ sym (nothing-told c.args.lookup);
}
