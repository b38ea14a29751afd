use Rattle.cs_disk.proofs.Passing.{elapses_to}
use Rattle.cs_disk.proofs.mem_disk.MemDiskDisk.sync.Goals as goal

pub returns-in-Ok-clause-time : goal.returns-in-Ok-clause-time
returns-in-Ok-clause-time c =
    elapses_to c.args.self.now.past.items c.keep.new.self.past.items c.args.self.now.state c.keep.new.self.state c.in-Ok.ensures.past
