use Rattle.std.proofs.Common.{◌++◌}
use Rattle.cs_ledger.proofs.Committed.{is_listed, no_abort_vote, no_abort}
use Rattle.cs_ledger.proofs.Later.{all_later}
use Rattle.cs_ledger.proofs.growth.commit_stays.Goals as goal

pub returns-clause-listed : goal.returns-clause-listed
returns-clause-listed c rules later past w x k shard among all =
    is_listed rules (later ++ past) w x k (all_later rules past x later all) shard among

pub returns-clause-never_aborted : goal.returns-clause-never_aborted
returns-clause-never_aborted c rules later past w x k all shard = (
  no_abort_vote rules (later ++ past) w x k (all_later rules past x later all) shard,
  no_abort rules (later ++ past) w x k (all_later rules past x later all) shard,
)
