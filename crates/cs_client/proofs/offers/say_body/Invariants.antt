use Rattle.std.proofs.Common.{◌≡◌, ◌++◌, take}
use Rattle.cs_client.specs.Sayings.{outs_with}
use Rattle.cs_client.proofs.offers.say_body.Given as goal

abbrev pub invariant-loop-i : goal.invariant-loop-i
invariant-loop-i l = l.outs ≡ l.initial.outs ++ outs_with l.keys l.kind l.body (take l.i l.to)
