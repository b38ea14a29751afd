use Rattle.std.proofs.Common.{◌≡◌, IfOk, sym, subst, string_bytes, option_copied}
use Rattle.cs_replay_play.specs.Longest.{logged_or_empty}
use Rattle.cs_replay.specs.Lines.{logged_text}
use Rattle.cs_replay.proofs.lines.log_text.Goals as goal

pub returns-in-None : goal.returns-in-None
returns-in-None c =
    subst (λ log. IfOk c.log_line.result (λ text. string_bytes text ≡ logged_text c.args.shard (logged_or_empty (option_copied log)))) (sym c.in-None.is) c.log_line.ensures
