use Rattle.std.proofs.Common.{◌≡◌, ◌++◌, map, take, drop}
use Rattle.cs_client.specs.Kept.{word_of_name}
use Rattle.cs_client.proofs.beliefs.hear_words.Given as goal

abbrev pub invariant-loop-i : goal.invariant-loop-i
invariant-loop-i l =
    l.asked ≡ map (word_of_name l.config.f l.name l.index l.word) (take l.i l.initial.asked) ++ drop l.i l.initial.asked
