use Rattle.std.proofs.Common.{◌≡◌, ◌+◌, map, drop}
use Rattle.cs_proc_parts.specs.Slots.{created_of}
use Rattle.cs_proc_parts.specs.Creating.{place_created}
use Rattle.cs_proc_parts.proofs.outputs.Outputs.place.Given as goal

abbrev pub invariant-loop-i : goal.invariant-loop-i
invariant-loop-i l = place_created l.name (map created_of (drop l.i l.entry-items)) + l.i ≡ place_created l.name (map created_of l.entry-items)
