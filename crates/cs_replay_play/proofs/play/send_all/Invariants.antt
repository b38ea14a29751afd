use Rattle.std.proofs.Common.{◌≡◌, ◌++◌, ◌≤◌, take}
use Rattle.cs_replay_rules.specs.Play.{size_of, most_sent}
use Rattle.cs_replay_play.specs.Ends.{parcels_from}
use Rattle.cs_replay_play.proofs.play.send_all.Given as goal

abbrev pub invariant-loop-out : goal.invariant-loop-out
invariant-loop-out l =
    (l.post ≡ l.initial.post ++ parcels_from l.from (take l.out-index l.outs))
    × (size_of l.initial.post ≤ most_sent → size_of l.post ≤ most_sent)
