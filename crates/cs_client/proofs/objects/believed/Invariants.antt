use Rattle.std.proofs.Common.{◌≡◌, drop}
use Rattle.cs_client.specs.Objects.{first_believed, believed_in}
use Rattle.cs_client.specs.Kept.{WordsFit}
use Rattle.cs_client.proofs.objects.believed.Given as goal

abbrev pub invariant-loop-word : goal.invariant-loop-word
invariant-loop-word l = record {
  found : first_believed l.f l.words (drop l.word-index l.words) ≡ believed_in l.f l.words;
  left : WordsFit (drop l.word-index l.words);
}
