use Rattle.std.proofs.Common.{◌≡◌, take}
use Rattle.std.specs.Prelude.{string_bytes}
use Rattle.std.specs.List.{flat_map}
use Rattle.cs_waits.specs.Lines.{shard_word}
use Rattle.cs_waits.proofs.lines.shard_words.Given as goal

abbrev pub invariant-loop-shard : goal.invariant-loop-shard
invariant-loop-shard l = string_bytes l.text ≡ flat_map shard_word (take l.shard-index l.shards)
