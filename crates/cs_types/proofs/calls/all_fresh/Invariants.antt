use Rattle.std.proofs.Common.{◌≡◌, take, drop}
use Rattle.cs_types_kinds.specs.Told.{told_through}
use Rattle.cs_types.specs.Stating.{fresh, all_fresh}
use Rattle.cs_types.proofs.calls.all_fresh.Given as goal

abbrev pub invariant-loop-i : goal.invariant-loop-i
invariant-loop-i l = told_through (fresh l.scope) (take l.i l.names) (drop l.i l.names) ≡ all_fresh l.scope l.names
