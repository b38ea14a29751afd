use Rattle.std.proofs.Common.{◌≡◌, ◌≢◌, arith}
use Rattle.cs_journal.proofs.Findings.{finished_closed, finished_written, crash_closed, crash_written}
use Rattle.cs_journal.proofs.recovery.Recovery.finish.Goals as goal

-- the gate is 0, and nothing is written
pub returns-then-gate-eq0-clause-kept : goal.returns-then-gate-eq0-clause-kept
returns-then-gate-eq0-clause-kept g c = λ id inputs file told only shows.
    let is : c.args.gate ≡ 0 = omega arith in
    finished_closed g.D.Disk.content g.D.Disk.may_leave g.D.Disk.moment g.D.Disk.left_since id inputs c.args.self c.args.gate file c.args.disk.now told only shows is

pub returns-then-gate-eq0-clause-crash : goal.returns-then-gate-eq0-clause-crash
returns-then-gate-eq0-clause-crash g c = λ id inputs next read file told only shows survives.
    crash_closed g.D.Disk.content g.D.Disk.may_leave g.D.Disk.moment g.D.Disk.left_since id read c.args.self c.args.gate file c.args.disk.now told only shows inputs next survives (g.met.D.Disk.only_now c.args.disk.now)

-- it is closed for good
pub returns-in_err-write_through-clause-crash : goal.returns-in_err-write_through-clause-crash
returns-in_err-write_through-clause-crash g c = λ id inputs next read file told only shows survives.
    let marked : c.args.gate ≢ 0 = omega arith in
    crash_written g.D.Disk.content g.D.Disk.may_leave g.D.Disk.moment g.D.Disk.left_since id read c.args.self c.args.gate file c.args.disk.now told only shows inputs next c.write_through.new.disk survives marked c.write_through.ensures.crash

pub returns-clause-crash : goal.returns-clause-crash
returns-clause-crash g c = λ id inputs next read file told only shows survives.
    let marked : c.args.gate ≢ 0 = omega arith in
    crash_written g.D.Disk.content g.D.Disk.may_leave g.D.Disk.moment g.D.Disk.left_since id read c.args.self c.args.gate file c.args.disk.now told only shows inputs next c.write_through.new.disk survives marked c.write_through.ensures.crash

pub returns-clause-kept : goal.returns-clause-kept
returns-clause-kept g c = λ id inputs file told only shows.
    finished_written g.D.Disk.content g.D.Disk.may_leave g.D.Disk.moment g.D.Disk.left_since id inputs c.args.self c.args.gate file c.args.disk.now told only shows c.write_through.new.disk c.in_ok-write_through.ensures.written c.in_ok-write_through.ensures.durable
