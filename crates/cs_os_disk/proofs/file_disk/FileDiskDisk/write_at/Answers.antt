use Rattle.cs_os_disk.proofs.Untold.{may_tear, counted}
use Rattle.cs_os_disk.proofs.file_disk.FileDiskDisk.write_at.Goals as goal

pub returns-in-Ok-clause-crash : goal.returns-in-Ok-clause-crash
returns-in-Ok-clause-crash g c = may_tear c.args.at _

pub returns-in-Err-clause-crash : goal.returns-in-Err-clause-crash
returns-in-Err-clause-crash g c = may_tear c.args.at _

pub returns-in-Err-clause-cause : goal.returns-in-Err-clause-cause
returns-in-Err-clause-cause g c = counted c.args.self.now.faults c.count_fault.new.self.faults c.count_fault.ensures.later c.count_fault.ensures.faults
