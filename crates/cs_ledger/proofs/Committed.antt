-- What holds of a session on which every concerned shard votes commit.
use Rattle.std.proofs.Common.{◌≡◌, ℕ, List, true, refl}
use Rattle.cs_base.specs.Lists.{IsIn}
use Rattle.cs_ledger.specs.Session.{Rules, Session, concerns, all_items}
use Rattle.cs_ledger.specs.Table.{Commit, Abort, Aborted}
use Rattle.cs_ledger.specs.ShardWorld.{Step, IsShardWorld, sessions, shard_votes, decides, all_commit, history}
use Rattle.cs_ledger.proofs.Votes.{one_vote, no_both, among_some}
use Rattle.cs_ledger.proofs.World.{World, world_of}
use Rattle.cs_ledger.proofs.Decisions.{decided_behind, votes_concern, all_concerned}

pub world : (rules : Rules) (past : List Step) → IsShardWorld rules past → World rules (sessions past) past
world rules past w = world_of rules (sessions past) w.1 past w.0 (λ x i. i)

module _ (rules : Rules) (past : List Step) (w : IsShardWorld rules past) (x : Session) (k : IsIn x (sessions past)) (all : all_commit rules past x ≡ true) (shard : ℕ) where
  -- its transaction is in the history
  pub is_listed : concerns rules x shard ≡ true → IsIn x.transaction (history rules past)
  is_listed among = (world rules past w).story.listed x k (all, among_some rules shard (all_items x.transaction) among)

  -- no shard votes abort
  pub no_abort_vote : shard_votes rules past shard x Abort ≡ true → ⊥
  no_abort_vote f =
      let among = votes_concern rules (sessions past) w.1.session x k shard Abort past w.0 (λ z i. i) f in
      let commit = all_concerned rules past x Commit shard (all_items x.transaction) all among in
      let same : Commit ≡ Abort = one_vote rules (sessions past) w.1.session past (world rules past w).facts x k shard Commit Abort commit f in
      cc

  -- no shard aborts it
  pub no_abort : decides rules past shard x Aborted ≡ true → ⊥
  no_abort f =
      let b = decided_behind rules (sessions past) w.1.session x k shard Aborted Abort refl past w.0 (λ z i. i) f in
      no_both rules (sessions past) w.1.session past (world rules past w).facts x k all b.1
