-- The schedule of a number and a size.
use Rattle.std.specs.Prelude.{ℕ, ◌+◌, List, [], ◌++◌, length, map}
use Rattle.std.specs.Int.{w64, to_be_bytes}
use Rattle.std.specs.List.{enumerate_from}
use Rattle.cs_sched.specs.declared.schedule.Schedule.{Schedule}
use Rattle.cs_gen.specs.Draws.{state_after}
use Rattle.cs_gen.specs.Coins.{coin, worths_below}
use Rattle.cs_gen.specs.Rounds.{layout, events_below}

-- the master is four states in a row, the first of them behind this one
abbrev pub drawn_master : ℕ → List ℕ
drawn_master state =
    to_be_bytes w64 (state_after state 1)
    ++ to_be_bytes w64 (state_after state 2)
    ++ to_be_bytes w64 (state_after state 3)
    ++ to_be_bytes w64 (state_after state 4)

-- the schedule of these coins, whose rounds are drawn from this state; its own text has a line for each event, the first
-- of them behind four lines, one for each coin, and `run`
abbrev pub schedule_with : List ℕ → List ℕ → ℕ → Schedule
schedule_with master worths state = record {
  config = layout;
  master = master;
  liars = [];
  contracts = [];
  genesis = map coin worths;
  events = enumerate_from (6 + length worths) (events_below state worths (length worths));
}

-- the schedule of a number and a size: four draws for the master, one for each coin, two for each round
unfoldable pub drawn_schedule : ℕ → ℕ → Schedule
drawn_schedule number size =
    let first_coin = state_after number 4 in
    schedule_with (drawn_master number) (worths_below first_coin size) (state_after first_coin size)
