use Rattle.std.proofs.Common.{Err, subst, sym, ◌∙◌}
use Rattle.cs_client.specs.declared.error.ClientError.{ClientError}
use Rattle.cs_client.specs.declared.phases.Phase.TheVariants as kept
use Rattle.cs_client.specs.Seen.{ClientMoves}
use Rattle.cs_client.proofs.Entering.{called-moves, called-ended}
use Rattle.cs_client.proofs.phases.called.Goals as goal

pub returns-in_ok-begun-in-Ok : goal.returns-in_ok-begun-in-Ok
returns-in_ok-begun-in-Ok c =
    called-moves c.args.errand.now c.args.beliefs.now c.in-Some.objects c.in-Ok.tx c.in_ok-begun-in-Ok.field-0 c.args.outs.now c.begun.new.outs
    (sym c.in_ok-objects.ensures ∙ c.in-Some.is) c.in-Ok.ensures c.in_ok-begun-in-Ok.ensures.enters c.in_ok-begun-in-Ok.ensures.fresh

pub returns-in-Err : goal.returns-in-Err
returns-in-Err c =
    let e = c.args.errand.now in
    let told = c.args.beliefs.now in
    let outs = c.args.outs.now in
    subst (λ (r : ClientError). ClientMoves e told kept.Asking (Err r) outs outs) (sym c.ending_of.ensures)
    (called-ended e told c.in-Some.objects c.in-Err.cause outs outs (sym c.in_ok-objects.ensures ∙ c.in-Some.is) c.in-Err.ensures)
