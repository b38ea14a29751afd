use Rattle.std.proofs.Common.{subst, sym, ap, ◌∙◌}
use Rattle.cs_client.specs.Objects.{word_is}
use Rattle.cs_client.specs.Kept.{WordFits}
use Rattle.cs_client.proofs.Words.{is_same}
use Rattle.cs_client.proofs.objects.says.Goals as goal

pub returns-in-Some : goal.returns-in-Some
returns-in-Some c =
    is_same c.in-Some.other c.args.object.now (subst WordFits c.in-Some.is c.requires.word) c.requires.object c.same.result c.same.ensures
    ∙ ap (word_is c.args.object.now) (sym c.in-Some.is)
