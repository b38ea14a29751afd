use Rattle.std.proofs.Common.{ap, sym, ◌∙◌}
use Rattle.std.specs.List.{list_all, list_any}
use Rattle.cs_client.specs.Knowing.{outcome}
use Rattle.cs_client.specs.Voices.{is_enough}
use Rattle.cs_client.specs.Seen.{known_kept}
use Rattle.cs_client.proofs.phases.known_in.Goals as goal

pub returns-in-Submitting : goal.returns-in-Submitting
returns-in-Submitting c =
    let f = c.args.errand.now.config.f in
    c.outcome.ensures
    ∙ (ap (λ vs. outcome c.in-Submitting.submission.digest (list_all (λ one. is_enough f one.accepted) vs) (list_any (λ one. is_enough f one.aborted) vs)) c.deref.ensures.value
    ∙ ap (known_kept f) (sym c.in-Submitting.is))
