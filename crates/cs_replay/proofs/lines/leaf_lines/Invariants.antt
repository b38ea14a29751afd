use Rattle.std.proofs.Common.{◌≡◌, take, string_bytes}
use Rattle.std.specs.List.{flat_map}
use Rattle.cs_replay_rules.specs.Dumps.{dumped_leaf}
use Rattle.cs_replay.proofs.lines.leaf_lines.Given as goal

abbrev pub invariant-loop-leaf : goal.invariant-loop-leaf
invariant-loop-leaf l = string_bytes l.text ≡ flat_map dumped_leaf (take l.leaf-index l.leaves)
