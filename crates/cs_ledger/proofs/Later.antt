-- What stays true of the shards over a list of later steps.
use Rattle.std.proofs.Common.{◌≡◌, ℕ, List, [], ◌∷◌, ◌++◌, true}
use Rattle.cs_ledger.specs.Session.{Rules, Session, all_items}
use Rattle.cs_ledger.specs.Table.{Vote, Commit, Abort}
use Rattle.cs_ledger.specs.ShardWorld.{Step, shard_votes, all_commit, one_aborts}
use Rattle.cs_ledger.proofs.Votes as steps

module _ (rules : Rules) (past : List Step) (x : Session) where
  pub votes_later : (shard : ℕ) (vote : Vote) (later : List Step) → shard_votes rules past shard x vote ≡ true → shard_votes rules (later ++ past) shard x vote ≡ true
  votes_later shard vote [] h = h
  votes_later shard vote (step ∷ later) h = steps.votes_more rules step (later ++ past) shard x vote (votes_later shard vote later h)

  pub all_later : (later : List Step) → all_commit rules past x ≡ true → all_commit rules (later ++ past) x ≡ true
  all_later [] h = h
  all_later (step ∷ later) h = steps.all_more rules step (later ++ past) x Commit (all_items x.transaction) (all_later later h)

  pub one_later : (later : List Step) → one_aborts rules past x ≡ true → one_aborts rules (later ++ past) x ≡ true
  one_later [] h = h
  one_later (step ∷ later) h = steps.one_more rules step (later ++ past) x Abort (all_items x.transaction) (one_later later h)
