use Rattle.cs_disk.proofs.Passing.{elapses_to}
use Rattle.cs_disk.proofs.Tearing.{written_follows}
use Rattle.cs_disk.proofs.mem_disk.MemDiskDisk.write_at.Goals as goal

pub returns-in-Ok-clause-crash : goal.returns-in-Ok-clause-crash
returns-in-Ok-clause-crash c =
    written_follows c.args.self.now.state c.put.new.self.state c.args.at c.args.bytes.now c.requires c.in-Ok.ensures.content c.in-Ok.ensures.synced c.in-Ok.ensures.unsynced

pub returns-in-Ok-clause-time : goal.returns-in-Ok-clause-time
returns-in-Ok-clause-time c =
    elapses_to c.args.self.now.past.items c.put.new.self.past.items c.args.self.now.state c.put.new.self.state c.in-Ok.ensures.past
