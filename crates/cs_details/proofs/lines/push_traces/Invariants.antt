use Rattle.std.proofs.Common.{◌≡◌, ◌++◌, drop, string_bytes}
use Rattle.cs_details.specs.Lines.{trace_lines}
use Rattle.cs_details.proofs.lines.push_traces.Given as goal

abbrev pub invariant-loop-i : goal.invariant-loop-i
invariant-loop-i l =
    string_bytes l.text ++ trace_lines l.config l.digest l.i (drop l.i l.traces)
    ≡ string_bytes l.initial.text ++ trace_lines l.config l.digest 0 l.traces
