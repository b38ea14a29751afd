-- The votes that were taken on a session, and what they decide.
use Rattle.std.specs.Prelude.{ℕ, ◌+◌, ◌*◌, nat_lt, Bool, true, false, ◌&&◌, if◌then◌else◌, List, Option, Some, None}
use Rattle.std.specs.List.{list_any, list_all}
use Rattle.cs_base.specs.declared.node_id.NodeId.{NodeId}
use Rattle.cs_tx_types.specs.declared.vote.Vote.{Vote}
use Rattle.cs_tx_types.specs.declared.vote.Vote.TheVariants.{Commit, Abort}
use Rattle.cs_order.specs.Counts.{count_below}
use Rattle.cs_node_state.specs.declared.ballot.Ballot.{Ballot}
use Rattle.cs_base.specs.NodeId.{same_name}

abbrev pub same_vote : Vote → Vote → Bool
same_vote Commit Commit = true
same_vote Abort Abort = true
same_vote Commit Abort = false
same_vote Abort Commit = false

abbrev pub has_voted : NodeId → List Ballot → Bool
has_voted name ballots = list_any (λ b. same_name b.sender name) ballots

-- this node of a shard gave this vote
abbrev pub has_ballot : ℕ → ℕ → Vote → List Ballot → Bool
has_ballot shard index vote ballots =
    list_any (λ b. same_name b.sender (record { shard = shard; index = index }) && same_vote b.vote vote) ballots

-- f + 1 nodes of a shard gave this vote
abbrev pub has_support : ℕ → List Ballot → Vote → ℕ → Bool
has_support f ballots vote shard = nat_lt f (count_below (3 * f + 1) (λ index. has_ballot shard index vote ballots))

-- commit is supported in each of these shards, abort in one of them
abbrev pub is_decided : ℕ → List ℕ → Vote → List Ballot → Bool
is_decided f shards Commit ballots = list_all (λ shard. has_support f ballots Commit shard) shards
is_decided f shards Abort ballots = list_any (λ shard. has_support f ballots Abort shard) shards

-- the vote that is decided, commit before abort
abbrev pub decided_vote : ℕ → List ℕ → List Ballot → Option Vote
decided_vote f shards ballots =
    if is_decided f shards Commit ballots then Some Commit
    else if is_decided f shards Abort ballots then Some Abort
    else None
