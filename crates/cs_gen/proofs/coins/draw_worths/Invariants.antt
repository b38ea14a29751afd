use Rattle.std.proofs.Common.{◌≡◌}
use Rattle.cs_gen.specs.Coins.{worths_below}
use Rattle.cs_gen.specs.Draws.{state_after}
use Rattle.cs_gen.proofs.coins.draw_worths.Given as goal

abbrev pub invariant-loop : goal.invariant-loop
invariant-loop l =
    (l.worths.items ≡ worths_below l.initial.draws.state l.counter)
    × (l.draws.state ≡ state_after l.initial.draws.state l.counter)
