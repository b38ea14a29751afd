use Rattle.std.proofs.Common.{◌≡◌, ℕ, ◌+◌, ◌*◌, ◌<◌, take}
use Rattle.cs_quorum.specs.Marks.{members_of, is_marked}
use Rattle.cs_node_state.specs.Evidence.{has_ballot}
use Rattle.cs_node_pool.proofs.votes.supporters.Given as goal

abbrev pub invariant-loop-ballot : goal.invariant-loop-ballot
invariant-loop-ballot l =
    (members_of l.tally ≡ 3 * l.f + 1)
    × ((index : ℕ) → index < 3 * l.f + 1 → is_marked l.tally index ≡ has_ballot l.shard index l.vote (take l.ballot-index l.ballots))
