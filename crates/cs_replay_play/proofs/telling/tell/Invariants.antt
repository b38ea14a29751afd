use Rattle.std.proofs.Common.{◌≡◌, ◌<◌, List, take, string_bytes}
use Rattle.cs_node_state.specs.Setup.{Setup}
use Rattle.cs_node_rules.specs.World.{Execution}
use Rattle.cs_replay_play.specs.Kept.{KeepsHistory}
use Rattle.cs_replay_play.specs.Told.{notes_text, noted_firsts, noted_aborted}
use Rattle.cs_replay_play.proofs.telling.tell.Given as goal

abbrev pub invariant-loop-note : goal.invariant-loop-note
invariant-loop-note l =
    (string_bytes l.text ≡ notes_text l.traced l.me (take l.note-index l.notes))
    × ((setup : Setup) (firsts : List Execution) → l.me.shard < l.initial.history.config.shards → KeepsHistory setup firsts l.initial.history → KeepsHistory setup (noted_firsts l.me.shard (take l.note-index l.notes) firsts) l.history)
    × (l.history.config ≡ l.initial.history.config)
    × (l.history.aborted ≡ noted_aborted (take l.note-index l.notes) l.initial.history.aborted)
