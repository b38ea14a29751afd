use Rattle.cs_journal.proofs.Calls.{torn_call, torn_then}
use Rattle.cs_journal.proofs.through.write_through.Goals as goal

pub returns-in-Done-clause-crash : goal.returns-in-Done-clause-crash
returns-in-Done-clause-crash g c =
    torn_then g.D.Disk.content g.D.Disk.may_leave g.D.Disk.moment g.D.Disk.left_since g.met.D.Disk.only_now c.args.disk.now c.write_at.new.self c.keep.new.disk c.args.at _ c.write_at.ensures.crash c.write_at.ensures.time c.keep.ensures.untouched

pub returns-in-Failed-clause-crash : goal.returns-in-Failed-clause-crash
returns-in-Failed-clause-crash g c =
    torn_call g.D.Disk.content g.D.Disk.may_leave g.D.Disk.moment g.D.Disk.left_since g.met.D.Disk.only_now c.args.disk.now c.write_at.new.self c.args.at _ c.write_at.ensures.crash c.write_at.ensures.time

pub returns-in-Memory-clause-crash : goal.returns-in-Memory-clause-crash
returns-in-Memory-clause-crash g c =
    torn_call g.D.Disk.content g.D.Disk.may_leave g.D.Disk.moment g.D.Disk.left_since g.met.D.Disk.only_now c.args.disk.now c.write_at.new.self c.args.at _ c.write_at.ensures.crash c.write_at.ensures.time
