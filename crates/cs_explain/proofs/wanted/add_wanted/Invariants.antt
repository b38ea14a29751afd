use Rattle.std.proofs.Common.{◌≡◌, ◌++◌, drop}
use Rattle.cs_explain.specs.Wanted.{wanted_among}
use Rattle.cs_explain.proofs.wanted.add_wanted.Given as goal

abbrev pub invariant-loop-kind : goal.invariant-loop-kind
invariant-loop-kind l = l.wanted.items ++ wanted_among l.front (drop l.kind-index l.kinds) ≡ l.initial.wanted.items ++ wanted_among l.front l.kinds
