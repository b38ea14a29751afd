use Rattle.std.proofs.Common.{◌≡◌, ◌++◌, drop, string_bytes}
use Rattle.cs_details.specs.Lines.{output_lines}
use Rattle.cs_details.proofs.lines.push_outputs.Given as goal

abbrev pub invariant-loop-i : goal.invariant-loop-i
invariant-loop-i l =
    string_bytes l.text ++ output_lines l.config l.digest l.trace l.i (drop l.i l.outputs)
    ≡ string_bytes l.initial.text ++ output_lines l.config l.digest l.trace 0 l.outputs
