use Rattle.cs_journal.proofs.Calls.{untouched_call}
use Rattle.cs_journal.proofs.through.measure.Goals as goal

pub returns-in-Is-clause-untouched : goal.returns-in-Is-clause-untouched
returns-in-Is-clause-untouched g c =
    untouched_call g.D.Disk.content g.D.Disk.may_leave g.D.Disk.moment g.D.Disk.left_since g.met.D.Disk.only_now c.args.disk.now c.length.new.self c.length.ensures.content c.length.ensures.crash c.length.ensures.time

pub returns-in-Failed-clause-untouched : goal.returns-in-Failed-clause-untouched
returns-in-Failed-clause-untouched g c =
    untouched_call g.D.Disk.content g.D.Disk.may_leave g.D.Disk.moment g.D.Disk.left_since g.met.D.Disk.only_now c.args.disk.now c.length.new.self c.length.ensures.content c.length.ensures.crash c.length.ensures.time
