use Rattle.std.proofs.Common.{◌≡◌, List, ℕ, ◌++◌, ap, sym, ◌∙◌, string_bytes}
use Rattle.std.specs.Prelude.{codes}
use Rattle.std.specs.List.{flat_map}
use Rattle.cs_node_state.specs.Setup.{Setup}
use Rattle.cs_replay_rules.specs.Dumps.{number_line, dumped_contract, dumped_genesis, logs_text}
use Rattle.cs_replay_rules.specs.Lines.{history_text}
use Rattle.cs_node_rules.specs.World.{recorded_history}
use Rattle.cs_replay_play.specs.Standing.{site_in}
use Rattle.cs_replay_play.specs.Digests.{history_lines}
use Rattle.cs_replay_play.proofs.Printed.{history-kept}
use Rattle.cs_replay.specs.Lines.{settings_text, object_line}
use Rattle.cs_replay.proofs.Joined.{settings-before, objects-printed, parts-joined}
use Rattle.cs_replay.proofs.dump.dump_text.Goals as goal

pub returns : goal.returns
returns g c = λ s p st setup.
    let site = site_in g.O.Order.rules g.O.Carried.carrier s in
    let schedule = c.args.schedule.now in
    let config = schedule.config in
    let contracts = flat_map dumped_contract schedule.contracts in
    let objects = flat_map object_line schedule.genesis in
    let numbers = settings_text config.shards config.f config.dummies in
    let logs : string_bytes c.in_ok-logs.logs ≡ logs_text site p.world s.setup.shards =
    c.in_ok-logs.ensures s p st (ap (λ (u : Setup). u.f) setup.1) ∙ ap (logs_text site p.world) (sym (ap (λ (u : Setup). u.shards) setup.1)) in
    let told : string_bytes c.in_ok-history.history ≡ history_text (recorded_history site p.world) = c.in_ok-history.ensures ∙ ap history_lines c.told.ensures ∙ history-kept site p.world c.args.replay.now.history st.kept in
    let behind = logs_text site p.world s.setup.shards ++ (history_text (recorded_history site p.world) ++ codes "end\n") in
    let front : Setup → List ℕ =
    λ u. codes "dump\n" ++ (number_line (codes "shards ") u.shards ++ (number_line (codes "faulty ") u.f ++ (number_line (codes "dummies ") u.rules.dummies ++ (contracts ++ (flat_map dumped_genesis u.rules.genesis ++ behind))))) in
    let given = (numbers ++ contracts) ++ objects in
    c.in_ok-push_str-3.ensures.bytes
    ∙ ap (λ text. text ++ codes "end\n")
    (c.in_ok-push_str-2.ensures.bytes
    ∙ ap (λ text. text ++ c.deref-2.result.now)
    (c.in_ok-push_str.ensures.bytes ∙ ap (λ text. text ++ c.deref.result.now) c.in_ok-text.ensures ∙ ap (λ more. given ++ more) (c.deref.ensures ∙ logs))
    ∙ ap (λ more. (given ++ logs_text site p.world s.setup.shards) ++ more) (c.deref-2.ensures ∙ told))
    ∙ parts-joined numbers contracts objects (logs_text site p.world s.setup.shards) (history_text (recorded_history site p.world)) (codes "end\n")
    ∙ settings-before config.shards config.f config.dummies (contracts ++ (objects ++ behind))
    ∙ ap (λ genesis. codes "dump\n" ++ (number_line (codes "shards ") config.shards ++ (number_line (codes "faulty ") config.f ++ (number_line (codes "dummies ") config.dummies ++ (contracts ++ (genesis ++ behind)))))) (objects-printed 0 schedule.genesis)
    ∙ ap front (sym setup.1)
