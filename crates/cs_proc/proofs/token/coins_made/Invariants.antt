use Rattle.std.proofs.Common.{◌≡◌, drop, []}
use Rattle.cs_proc.specs.Transfer.{coins_made}
use Rattle.cs_proc.proofs.token.coins_made.Given as goal

abbrev pub invariant-loop-argument : goal.invariant-loop-argument
invariant-loop-argument l = coins_made l.coins (drop l.argument-index l.arguments) ≡ coins_made [] l.arguments
