use Rattle.std.proofs.Common.{◌≡◌, take, string_bytes}
use Rattle.std.specs.List.{flat_map}
use Rattle.cs_replay_rules.specs.Dumps.{dumped_head}
use Rattle.cs_replay.proofs.lines.head_lines.Given as goal

abbrev pub invariant-loop-head : goal.invariant-loop-head
invariant-loop-head l = string_bytes l.text ≡ flat_map dumped_head (take l.head-index l.heads)
