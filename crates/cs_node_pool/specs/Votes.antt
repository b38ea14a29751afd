-- Which votes are counted for a shard.
use Rattle.std.specs.Prelude.{ℕ, ◌==◌, nat_lt, Bool, ◌&&◌}
use Rattle.cs_tx_types.specs.declared.vote.Vote.{Vote}
use Rattle.cs_node_state.specs.declared.ballot.Ballot.{Ballot}
use Rattle.cs_node_state.specs.Evidence.{same_vote}

-- this vote, of one of so many members of the shard
abbrev pub is_vote_of : ℕ → ℕ → Vote → Ballot → Bool
is_vote_of shard members vote ballot =
    ballot.sender.shard == shard && nat_lt ballot.sender.index members && same_vote ballot.vote vote
