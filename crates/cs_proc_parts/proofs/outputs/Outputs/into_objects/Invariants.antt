use Rattle.std.proofs.Common.{◌≡◌, ◌++◌, length, map}
use Rattle.std.specs.Vec.Iter.{into_iter_items, into_iter_len}
use Rattle.cs_proc_parts.specs.Slots.{created_of}
use Rattle.cs_proc_parts.specs.Creating.{all_made}
use Rattle.cs_proc_parts.proofs.outputs.Outputs.into_objects.Given as goal

abbrev pub invariant-loop-entry : goal.invariant-loop-entry
invariant-loop-entry l = record {
  rest : l.yielded ++ into_iter_items l.entry-iterator ≡ into_iter_items l.initial.entry-iterator;
  made : l.all.items ≡ all_made (map created_of l.yielded);
  count : into_iter_len l.entry-iterator ≡ length (into_iter_items l.entry-iterator);
}
