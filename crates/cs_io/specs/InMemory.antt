-- What the objects in memory mean, and which of their calls are to fail.
use Rattle.std.specs.Prelude.{ℕ, ◌+◌, drop, take, map, length, Option, Some, slice_index}
use Rattle.cs_base.specs.declared.failures.Failures.{Failures}
use Rattle.cs_base.specs.declared.limits.TheConstants.{MOST_DATAGRAM}
use Rattle.cs_io.specs.Files.{content_in}
use Rattle.cs_io.specs.Store.{Files}
use Rattle.cs_io.specs.Spawner.{flag_of}
use Rattle.cs_io.specs.Outside.{LinkTold, SpawnerTold}
use Rattle.cs_io.specs.declared.link.MemInput.{MemInput}
use Rattle.cs_io.specs.declared.link.MemInput.TheVariants.{Datagram, Tick}
use Rattle.cs_io.specs.declared.mem_store.MemStore.{MemStore}
use Rattle.cs_io.specs.declared.mem_link.MemLink.{MemLink}
use Rattle.cs_io.specs.declared.mem_spawner.MemSpawner.{MemSpawner}

-- ---- files

abbrev pub store_files : MemStore → Option Files
store_files s = Some (content_in s.files.items)

abbrev pub store_failures : MemStore → Failures
store_failures s = s.failures

abbrev pub store_faults : MemStore → ℕ
store_faults s = s.failures.faults

-- ---- datagrams

-- of a datagram that is too long only so much comes that this is seen
abbrev pub seen_input : MemInput → MemInput
seen_input (Datagram bytes) = Datagram (take (MOST_DATAGRAM + 1) bytes)
seen_input Tick = Tick

abbrev pub link_told : MemLink → LinkTold
link_told l = record {
  bound = Some l.bound;
  placed = Some l.placed;
  left = Some (map seen_input (drop l.taken l.inputs.items));
  offered = Some l.offered;
  missed = l.missed;
}

abbrev pub link_failures : MemLink → Failures
link_failures l = l.failures

abbrev pub link_faults : MemLink → ℕ
link_faults l = l.failures.faults

-- ---- children

-- the child of number k ends with the status at place k, or with 0 where there is none
abbrev pub spawner_told : MemSpawner → SpawnerTold
spawner_told s = record {
  started = Some s.started;
  children = length s.started;
  unstarted = s.unstarted;
  statuses = Some (slice_index s.statuses.items);
  ended = flag_of s.ended.items;
}

abbrev pub spawner_failures : MemSpawner → Failures
spawner_failures s = s.failures

abbrev pub spawner_faults : MemSpawner → ℕ
spawner_faults s = s.failures.faults
