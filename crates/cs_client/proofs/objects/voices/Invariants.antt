use Rattle.std.proofs.Common.{◌≡◌, take, drop}
use Rattle.cs_client.specs.Objects.{voices}
use Rattle.cs_client.specs.Kept.{WordsFit}
use Rattle.cs_client.proofs.objects.voices.Given as goal

abbrev pub invariant-loop-word : goal.invariant-loop-word
invariant-loop-word l = record {
  count : l.count ≡ voices l.object (take l.word-index l.words);
  left : WordsFit (drop l.word-index l.words);
}
