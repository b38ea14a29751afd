use Rattle.cs_journal.proofs.Calls.{untouched_call}
use Rattle.cs_journal.proofs.through.keep.Goals as goal

pub returns-in-Done-clause-untouched : goal.returns-in-Done-clause-untouched
returns-in-Done-clause-untouched g c =
    untouched_call g.D.Disk.content g.D.Disk.may_leave g.D.Disk.moment g.D.Disk.left_since g.met.D.Disk.only_now c.args.disk.now c.sync.new.self c.sync.ensures.content c.sync.ensures.crash c.sync.ensures.time

pub returns-in-Failed-clause-untouched : goal.returns-in-Failed-clause-untouched
returns-in-Failed-clause-untouched g c =
    untouched_call g.D.Disk.content g.D.Disk.may_leave g.D.Disk.moment g.D.Disk.left_since g.met.D.Disk.only_now c.args.disk.now c.sync.new.self c.sync.ensures.content c.sync.ensures.crash c.sync.ensures.time
