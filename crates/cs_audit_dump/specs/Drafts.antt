-- What was read of a dump before its first line, and whether it has ended.
use Rattle.std.specs.Prelude.{Bool, true, false, ◌||◌, nat_lt, []}
use Rattle.cs_base.specs.Config.{config_of}
use Rattle.cs_audit_dump.specs.declared.draft.Draft.{Draft}
use Rattle.cs_audit_dump.specs.declared.draft.Stage.{Stage}
use Rattle.cs_audit_dump.specs.declared.draft.Stage.TheVariants as stage
use Rattle.cs_audit_dump.specs.declared.dump.Dump.{Dump}
use Rattle.cs_audit_dump.specs.declared.dump.Log.{Log}

-- one shard, without anything
abbrev pub empty_dump : Dump
empty_dump = record { config = config_of 1 0 0; contracts = []; genesis = []; logs = []; history = [] }

abbrev pub empty_dump_log : Log
empty_dump_log = record { leaves = []; heads = [] }

-- nothing was read yet
abbrev pub empty_dump_draft : Draft
empty_dump_draft = record {
  stage = stage.Before;
  dump = empty_dump;
  names = [];
  log = empty_dump_log;
  leaves_left = 0;
  heads_left = 0;
  txs_left = 0;
}

-- a log has begun, and lines of it are still to come
abbrev pub is_open : Draft → Bool
is_open draft = nat_lt 0 draft.leaves_left || nat_lt 0 draft.heads_left

-- the line `end` was met
abbrev pub dump_has_ended : Stage → Bool
dump_has_ended stage.Before = false
dump_has_ended stage.Shards = false
dump_has_ended stage.Faulty = false
dump_has_ended stage.Dummies = false
dump_has_ended stage.Contracts = false
dump_has_ended stage.Genesis = false
dump_has_ended stage.Logs = false
dump_has_ended stage.History = false
dump_has_ended stage.Ended = true
