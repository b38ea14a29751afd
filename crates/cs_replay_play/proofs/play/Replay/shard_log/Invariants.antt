use Rattle.std.proofs.Common.{◌≡◌, option_copied}
use Rattle.cs_replay_rules.specs.Play.{Played}
use Rattle.cs_replay_play.specs.Logged.{logged_of}
use Rattle.cs_replay_play.specs.Longest.{logged_or_empty}
use Rattle.cs_replay_play.specs.Standing.{Setting, site_in, Stands}
use Rattle.cs_replay_play.proofs.Longer.{longest_below}
use Rattle.cs_replay_play.proofs.play.Replay.shard_log.Given as goal

abbrev pub invariant-loop-index : goal.invariant-loop-index
invariant-loop-index g l =
    (s : Setting) (p : Played g.row.O-Message.Denot) → Stands g.O.Order.stands g.J.Judge.is_approved g.O.Order.rules g.O.Carried.carrier s l.self p
    → logged_or_empty (option_copied l.found) ≡ logged_of (longest_below (site_in g.O.Order.rules g.O.Carried.carrier s) p.world l.shard l.index)
