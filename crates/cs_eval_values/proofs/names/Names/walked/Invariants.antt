use Rattle.std.proofs.Common.{◌≡◌, ◌+◌, map, drop}
use Rattle.cs_eval_values.specs.Entries.{named_of}
use Rattle.cs_eval_values.specs.Namings.{place_named}
use Rattle.cs_eval_values.proofs.names.Names.walked.Given as goal

abbrev pub invariant-loop-i : goal.invariant-loop-i
invariant-loop-i l = place_named l.name (map named_of (drop l.i l.entry-items)) + l.i ≡ place_named l.name (map named_of l.entry-items)
