-- What the objects in memory mean, and which of their calls are to fail.
use Rattle.std.specs.Prelude.{ℕ, List, drop, Option, Some}
use Rattle.cs_base.specs.declared.failures.Failures.{Failures}
use Rattle.cs_base.specs.declared.mem_source.MemSource.{MemSource}
use Rattle.cs_base.specs.declared.mem_sink.MemSink.{MemSink}

abbrev pub source_left : MemSource → Option (List ℕ)
source_left s = Some (drop s.taken s.bytes.items)

abbrev pub source_failures : MemSource → Failures
source_failures s = s.failures

abbrev pub source_faults : MemSource → ℕ
source_faults s = s.failures.faults

abbrev pub sink_written : MemSink → Option (List ℕ)
sink_written s = Some s.bytes.items

abbrev pub sink_failures : MemSink → Failures
sink_failures s = s.failures

abbrev pub sink_faults : MemSink → ℕ
sink_faults s = s.failures.faults
