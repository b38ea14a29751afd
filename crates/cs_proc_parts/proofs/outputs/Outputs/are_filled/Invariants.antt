use Rattle.std.proofs.Common.{◌≡◌, map, drop}
use Rattle.std.specs.List.{list_all}
use Rattle.cs_proc_parts.specs.Slots.{created_of}
use Rattle.cs_proc_parts.specs.Creating.{is_filled}
use Rattle.cs_proc_parts.proofs.outputs.Outputs.are_filled.Given as goal

abbrev pub invariant-loop-entry : goal.invariant-loop-entry
invariant-loop-entry l = list_all is_filled (map created_of (drop l.entry-index l.entry-items)) ≡ list_all is_filled (map created_of l.entry-items)
