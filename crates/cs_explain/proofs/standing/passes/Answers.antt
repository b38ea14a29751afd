use Rattle.std.proofs.Common.{subst, ◌∙◌}
use Rattle.cs_types.specs.Judging.{HasFault}
use Rattle.cs_explain.proofs.StandingLaws.{accepted_passes, fault_passes}
use Rattle.cs_explain.proofs.standing.passes.Goals as goal

pub returns-in-Ok : goal.returns-in-Ok
returns-in-Ok c =
    accepted_passes c.args.text.now c.args.place c.in-Ok._checked.contract c.in-Ok._checked.costs c.in-Ok.ensures.accepted.0 c.in-Ok.ensures.accepted.1

pub returns-in-Err-Faulty : goal.returns-in-Err-Faulty
returns-in-Err-Faulty c =
    c.is_behind.ensures
    ∙ fault_passes c.args.text.now c.args.place c.in-Err-Faulty.fault (subst (HasFault c.args.text.now) c.in-Err-Faulty.field-0-is c.in-Err-Faulty.ensures.refused)
