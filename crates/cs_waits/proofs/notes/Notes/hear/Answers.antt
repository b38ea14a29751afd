use Rattle.std.proofs.Common.{◌≡◌, sym, ap, subst, ◌∙◌}
use Rattle.std.specs.Prelude.{OnOk}
use Rattle.cs_client.specs.Inputs.{Said, said_by_opened}
use Rattle.cs_waits.specs.Notes.{after_said}
use Rattle.cs_waits.proofs.notes.Notes.hear.Goals as goal

pub returns-in-Ok : goal.returns-in-Ok
returns-in-Ok c =
    subst (λ (said : Said). OnOk c.take.result (c.take.new.self ≡ after_said c.args.config.now said c.args.self.now))
    (sym (ap said_by_opened (sym c.in_ok-from.ensures.said ∙ c.in-Ok.is))) c.take.ensures

pub returns-in-Err : goal.returns-in-Err
returns-in-Err c =
    sym (ap (λ (said : Said). after_said c.args.config.now said c.args.self.now) (ap said_by_opened (sym c.in_ok-from.ensures.said ∙ c.in-Err.is)))
