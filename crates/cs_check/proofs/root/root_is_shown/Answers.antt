use Rattle.cs_check.proofs.Shown.{are_known, one_root}
use Rattle.cs_check.proofs.root.root_is_shown.Goals as goal

pub returns-clause-keys : goal.returns-clause-keys
returns-clause-keys c = are_known c.args.table.now c.records-records.ensures.rising c.records-records.ensures.stored

pub returns-clause-root : goal.returns-clause-root
returns-clause-root c = one_root c.args.table.now c.records-records.ensures.rising
