-- What a disk in memory means, and which of its calls are to fail.
use Rattle.std.specs.Prelude.{ℕ, List, length, Option, Some}
use Rattle.cs_base.specs.declared.failures.Failures.{Failures}
use Rattle.cs_disk.specs.declared.mem_disk.MemDisk.{MemDisk}
use Rattle.cs_disk.specs.Tears.{Leaves, LeftSince}

abbrev pub disk_attached : MemDisk → Option (Option (List ℕ))
disk_attached d = Some d.name

abbrev pub disk_content : MemDisk → Option (List ℕ)
disk_content d = Some d.state.content

abbrev pub disk_may_leave : MemDisk → List ℕ → Type 0
disk_may_leave d = Leaves d.state

abbrev pub disk_moment : MemDisk → ℕ
disk_moment d = length d.past.items

abbrev pub disk_left_since : MemDisk → ℕ → List ℕ → Type 0
disk_left_since d = LeftSince d.past.items d.state

abbrev pub disk_faults : MemDisk → ℕ
disk_faults d = d.failures.faults

abbrev pub disk_failures : MemDisk → Failures
disk_failures d = d.failures
