use Rattle.std.proofs.Common.{◌≡◌, ◌+◌, length}
use Rattle.cs_base.specs.declared.limits.TheConstants.{MOST_DATAGRAM}
use Rattle.cs_disk.specs.Disk.{Holds}
use Rattle.cs_disk.specs.InMemory.{disk_content}
use Rattle.cs_test_journal.proofs.reopening.reopen.Given as goal

abbrev pub invariant-loop-kept : goal.invariant-loop-kept
invariant-loop-kept l = record { room : length l.buf ≡ MOST_DATAGRAM + 1; place : Holds (disk_content l.disk) l.recovery.length }
