-- Receives in a row.
use Rattle.std.specs.Prelude.{ℕ, ◌+◌, ◌-◌, ◌^◌, min}
use Rattle.cs_io.specs.declared.link.Arrived.{Arrived}
use Rattle.cs_io.specs.declared.link.Arrived.TheVariants.{Datagram, Tick, End, Failed}
use Rattle.cs_serve.specs.declared.receiving.TheConstants.{MOST_MISSED}

-- how many receives in a row have failed, after some that ended so
abbrev pub missed_since : ℕ → Arrived → ℕ
missed_since before (Datagram n) = 0
missed_since before Tick = 0
missed_since before End = 0
missed_since before Failed = min (before + MOST_MISSED) (2 ^ 64 - 1)
