use Rattle.std.proofs.Common.{refl, ap, ◌∙◌, arith}
use Rattle.std.specs.Prelude.{replicate}
use Rattle.cs_replay.specs.Site.{setup_of_schedule, site_of_schedule}
use Rattle.cs_replay.specs.Settings.{honest_nodes, name_at_place}
use Rattle.cs_replay.proofs.Deployed.{deploys-setup, rests}
use Rattle.cs_replay_play.specs.Logged.{none_logged}
use Rattle.cs_replay_play.proofs.Histories.{kept-first}
use Rattle.cs_replay_play.proofs.Places.{logs-begin}
use Rattle.cs_replay.proofs.schedule.begin.Goals as goal

pub returns : goal.returns
returns g c = λ before.
    let schedule = c.args.schedule.now in
    let approves = g.J.Judge.is_approved c.args.judge in
    record {
      rests = rests schedule c.requires approves c.args.mode.traced before c.in_ok-history.history.config c.new-voices.result c.in_ok-history.ensures.config c.new-voices.ensures.config c.new-voices.ensures.master;
      traced = refl;
      count = c.in_ok-cores.ensures.count;
      all = c.in_ok-cores.ensures.nodes;
      logs = logs-begin (site_of_schedule approves schedule) (name_at_place (honest_nodes schedule)) _ c.in_ok-logs.logs.items (c.in_ok-logs.ensures ∙ ap (λ n. replicate n none_logged) (c.len.ensures ∙ c.in_ok-cores.cores.ok.0 ∙ c.in_ok-cores.ensures.count));
      kept = kept-first schedule.config (setup_of_schedule approves schedule) c.in_ok-history.history c.in_ok-history.ensures.config c.in_ok-history.ensures.empty (deploys-setup schedule.config schedule.genesis approves);
      aborted = c.in_ok-history.ensures.none;
      parcels = c.new-post.ensures;
      within = omega arith;
      events = refl;
    }
