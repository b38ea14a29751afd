use Rattle.cs_ledger.proofs.Later.{one_later}
use Rattle.cs_ledger.proofs.growth.one_more.Goals as goal

pub returns : goal.returns
returns c rules later past x h = one_later rules past x later h
