-- What was read of a schedule before its first line, and whether it has ended.
use Rattle.std.specs.Prelude.{Bool, true, false, [], replicate}
use Rattle.cs_base.specs.Config.{config_of}
use Rattle.cs_sched.specs.declared.draft.Draft.{Draft}
use Rattle.cs_sched.specs.declared.draft.Stage.{Stage}
use Rattle.cs_sched.specs.declared.draft.Stage.TheVariants as stage
use Rattle.cs_sched.specs.declared.schedule.Schedule.{Schedule}

-- one shard of one node, without anything
abbrev pub empty_schedule : Schedule
empty_schedule = record {
  config = config_of 1 0 0;
  master = replicate 32 0;
  liars = [];
  contracts = [];
  genesis = [];
  events = [];
}

-- nothing was read yet
abbrev pub empty_draft : Draft
empty_draft = record { stage = stage.Shards; schedule = empty_schedule; names = [] }

-- the line `end` was met
abbrev pub has_ended : Stage → Bool
has_ended stage.Shards = false
has_ended stage.Faulty = false
has_ended stage.Dummies = false
has_ended stage.Master = false
has_ended stage.Liars = false
has_ended stage.Contracts = false
has_ended stage.Genesis = false
has_ended stage.Events = false
has_ended stage.Ended = true
