use Rattle.cs_ledger.proofs.Later.{all_later}
use Rattle.cs_ledger.proofs.growth.all_more.Goals as goal

pub returns : goal.returns
returns c rules later past x h = all_later rules past x later h
