use Rattle.std.proofs.Common.{◌≡◌, take, map}
use Rattle.cs_proc_parts.specs.Slots.{created_of}
use Rattle.cs_proc_parts.specs.Creating.{empty_slots}
use Rattle.cs_proc_parts.proofs.outputs.Outputs.new.Given as goal

abbrev pub invariant-loop-slot : goal.invariant-loop-slot
invariant-loop-slot l = map created_of l.entries.items ≡ empty_slots (take l.slot-index l.slots)
