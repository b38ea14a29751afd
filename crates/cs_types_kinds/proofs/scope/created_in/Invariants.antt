use Rattle.std.proofs.Common.{◌≡◌, drop}
use Rattle.cs_types_kinds.specs.Scopes.{is_created_entry, first_seen}
use Rattle.cs_types_kinds.proofs.scope.created_in.Given as goal

abbrev pub invariant-loop-entry : goal.invariant-loop-entry
invariant-loop-entry l = first_seen (is_created_entry l.name) (drop l.entry-index l.entries) ≡ first_seen (is_created_entry l.name) l.entries
