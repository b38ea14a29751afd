use Rattle.std.proofs.Common.{◌≡◌, ◌++◌, ap, ◌∙◌, string_bytes}
use Rattle.cs_replay_rules.specs.Lines.{history_text}
use Rattle.cs_node_rules.specs.World.{recorded_history}
use Rattle.cs_replay_play.specs.Digests.{history_lines}
use Rattle.cs_replay_play.specs.Standing.{site_in}
use Rattle.cs_replay_play.proofs.Printed.{history-kept}
use Rattle.cs_replay.proofs.schedule.end_text.Goals as goal

pub returns : goal.returns
returns g c = λ s p st setup.
    let site = site_in g.O.Order.rules g.O.Carried.carrier s in
    let told : string_bytes c.in_ok-text.text ≡ history_text (recorded_history site p.world) = c.in_ok-text.ensures ∙ ap history_lines c.told.ensures ∙ history-kept site p.world c.args.replay.now.history st.kept in
    c.in_ok-push_str.ensures.bytes
    ∙ ap (λ text. text ++ c.deref.result.now) told
    ∙ ap (λ dump. history_text (recorded_history site p.world) ++ dump) (c.deref.ensures ∙ c.in_ok-dump.ensures s p st setup)
