use Rattle.std.proofs.Common.{◌≡◌, take, map, string_bytes}
use Rattle.cs_io.proofs.mem_spawner.copy_words.Given as goal

abbrev pub invariant-loop-word : goal.invariant-loop-word
invariant-loop-word l = l.copied ≡ map string_bytes (take l.word-index l.words)
