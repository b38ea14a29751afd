use Rattle.std.proofs.Common.{◌≡◌, drop}
use Rattle.cs_proc.specs.Acting.{names_bound}
use Rattle.cs_proc.proofs.binding.bind_names.Given as goal

abbrev pub invariant-loop-i : goal.invariant-loop-i
invariant-loop-i l = names_bound l.fields l.values l.i (drop l.i l.bound) l.names ≡ names_bound l.fields l.values 0 l.bound l.initial.names
