-- When a link gives its ticks.
use Rattle.std.specs.Prelude.{ℕ, ◌-◌, Bool, ◌&&◌, nat_lt, nat_le, Option, Some, None, if◌then◌else◌}
use Rattle.cs_os.specs.declared.pace.TheConstants.{TICK_WITHOUT_CLOCK}
use Rattle.cs_os.specs.declared.pace.Next.{Next}
use Rattle.cs_os.specs.declared.pace.Next.TheVariants.{Tick, Look}

-- so much time has passed since the last tick; or, where no clock tells, so many datagrams came
abbrev pub is_tick_due : ℕ → Option ℕ → ℕ → Bool
is_tick_due tick (Some passed) came = nat_le tick passed
is_tick_due tick None came = nat_le TICK_WITHOUT_CLOCK came

-- how many milliseconds a datagram is waited for where none is there: until a tick is due
abbrev pub rest_until_tick : ℕ → Option ℕ → ℕ
rest_until_tick tick (Some passed) = tick - passed
rest_until_tick tick None = tick

-- a tick that is due comes at once, but behind another a datagram is looked for first
abbrev pub next_of : ℕ → Option ℕ → ℕ → Next
next_of tick passed came =
    if nat_lt 0 came && is_tick_due tick passed came then Tick else Look (rest_until_tick tick passed)
