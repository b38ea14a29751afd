use Rattle.std.proofs.Common.{◌≡◌, ℕ, ◌*◌, ◌<◌, slice_index}
use Rattle.cs_gen.specs.Draws.{state_after}
use Rattle.cs_gen.specs.Rounds.{serial, events_below}
use Rattle.cs_gen.proofs.rounds.draw_events.Given as goal

abbrev pub invariant-loop-round : goal.invariant-loop-round
invariant-loop-round l = record {
  state : l.draws.state ≡ state_after l.initial.draws.state (2 * l.round);
  serials : (shard : ℕ) → shard < 3 → slice_index l.serials.next shard ≡ serial l.initial.draws.state l.worths shard l.round;
  events : l.events.items ≡ events_below l.initial.draws.state l.worths l.round;
}
