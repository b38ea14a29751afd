use Rattle.cs_ledger.proofs.Later.{votes_later}
use Rattle.cs_ledger.proofs.growth.votes_more.Goals as goal

pub returns : goal.returns
returns c rules later past shard x vote h = votes_later rules past x shard vote later h
