-- What the ledger sees of a vote.
use Rattle.cs_tx_types.specs.declared.vote.Vote.{Vote}
use Rattle.cs_tx_types.specs.declared.vote.Vote.TheVariants as vote
use Rattle.cs_ledger.specs.Table as Shard

abbrev pub vote_of : Vote → Shard.Vote
vote_of vote.Commit = Shard.Commit
vote_of vote.Abort = Shard.Abort
