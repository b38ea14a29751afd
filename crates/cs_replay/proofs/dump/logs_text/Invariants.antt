use Rattle.std.proofs.Common.{◌≡◌, string_bytes}
use Rattle.cs_replay_rules.specs.Dumps.{logs_text}
use Rattle.cs_replay_rules.specs.Play.{Played}
use Rattle.cs_replay_play.specs.Standing.{Setting, site_in, Stands}
use Rattle.cs_replay.proofs.dump.logs_text.Given as goal

abbrev pub invariant-loop-shard : goal.invariant-loop-shard
invariant-loop-shard g l =
    (s : Setting) (p : Played g.row.O-Message.Denot) → Stands g.O.Order.stands g.J.Judge.is_approved g.O.Order.rules g.O.Carried.carrier s l.replay p
    → s.setup.f ≡ l.config.f → string_bytes l.text ≡ logs_text (site_in g.O.Order.rules g.O.Carried.carrier s) p.world l.shard
