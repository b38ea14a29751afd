use Rattle.std.proofs.Common.{◌≡◌, map}
use Rattle.cs_cases.specs.Grammar.{keyed}
use Rattle.cs_cases.proofs.grammar.beside_keys.Given as goal

abbrev pub invariant-loop-object : goal.invariant-loop-object
invariant-loop-object l = l.all ≡ map keyed l.yielded
