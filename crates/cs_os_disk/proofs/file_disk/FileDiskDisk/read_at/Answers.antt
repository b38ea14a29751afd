use Rattle.cs_os_disk.proofs.Untold.{counted}
use Rattle.cs_os_disk.proofs.file_disk.FileDiskDisk.read_at.Goals as goal

pub returns-in-Err-clause-cause : goal.returns-in-Err-clause-cause
returns-in-Err-clause-cause g c = counted c.args.self.now.faults c.count_fault.new.self.faults c.count_fault.ensures.later c.count_fault.ensures.faults
