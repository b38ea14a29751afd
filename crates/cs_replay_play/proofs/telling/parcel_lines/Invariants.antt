use Rattle.std.proofs.Common.{◌≡◌, take, string_bytes}
use Rattle.cs_replay_rules.specs.Lines.{sent_lines}
use Rattle.cs_replay_play.proofs.telling.parcel_lines.Given as goal

abbrev pub invariant-loop-place : goal.invariant-loop-place
invariant-loop-place l = string_bytes l.text ≡ sent_lines l.number (take l.place l.parcels)
