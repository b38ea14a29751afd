use Rattle.std.proofs.Common.{◌≡◌, take, string_bytes}
use Rattle.std.specs.List.{flat_map}
use Rattle.cs_replay.specs.Lines.{object_line}
use Rattle.cs_replay.proofs.lines.genesis_lines.Given as goal

abbrev pub invariant-loop-object : goal.invariant-loop-object
invariant-loop-object l = string_bytes l.text ≡ flat_map object_line (take l.object-index l.objects)
