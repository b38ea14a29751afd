-- What every generated schedule meets.
use Rattle.std.specs.Prelude.{◌≡◌, ◌≢◌, ℕ}
use Rattle.std.specs.List.{AllPairs}
use Rattle.cs_sched.specs.declared.schedule.Schedule.{Schedule}
use Rattle.cs_tx.specs.GenesisNames.{genesis_names}
use Rattle.cs_sched.specs.Playable.{IsPlayable}
use Rattle.cs_sched.specs.Again.{renumbered}
use Rattle.cs_gen.specs.Schedules.{drawn_schedule}

-- no two objects have one key
abbrev pub KeysDiffer : Schedule → Type 0
KeysDiffer schedule = AllPairs (λ a b. a ≢ b) (genesis_names 0 schedule.genesis)

-- it can be played, where no two of its coins have one key
abbrev pub IsPlayableUnlessTwice : ℕ → ℕ → Type 0
IsPlayableUnlessTwice number size = KeysDiffer (drawn_schedule number size) → IsPlayable (drawn_schedule number size)

-- its events have the numbers of the lines of its own text
abbrev pub HasOwnLines : ℕ → ℕ → Type 0
HasOwnLines number size = renumbered (drawn_schedule number size) ≡ drawn_schedule number size
