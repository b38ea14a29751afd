use Rattle.std.proofs.Common.{◌≡◌, drop}
use Rattle.cs_cli.specs.Keys.{first_repeated, repeated_key}
use Rattle.cs_cli.proofs.keys.repeated_key.Given as goal

abbrev pub invariant-loop-place : goal.invariant-loop-place
invariant-loop-place l = first_repeated l.names.keys l.place (drop l.place l.objects) ≡ repeated_key l.objects
