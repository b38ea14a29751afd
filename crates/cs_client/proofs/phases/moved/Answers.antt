use Rattle.std.proofs.Common.{subst, sym}
use Rattle.cs_client.specs.declared.phases.Phase.TheVariants as kept
use Rattle.cs_client.specs.Seen.{PhaseFits, HasMoved, ClientMoves}
use Rattle.cs_client.proofs.Entering.{wanting-moves, submitting-stays, idle-stays}
use Rattle.cs_client.proofs.phases.moved.Goals as goal

pub returns-in-Asking : goal.returns-in-Asking
returns-in-Asking c =
    let e = c.args.errand.now in
    let told = c.args.beliefs.now in
    subst (λ old. ClientMoves e told old c.called.result c.args.outs.now c.called.new.outs) (sym c.in-Asking.is) c.called.ensures

pub provided-requires : goal.provided-requires
provided-requires c = subst (PhaseFits c.args.errand.now.config) c.in-Wanting.is c.requires.phase

pub returns-in_ok-provided-in-Wanting : goal.returns-in_ok-provided-in-Wanting
returns-in_ok-provided-in-Wanting c =
    let e = c.args.errand.now in
    let told = c.args.beliefs.now in
    subst (λ old. HasMoved e told old c.in_ok-provided-in-Wanting.field-0 c.args.outs.now c.provided.new.outs) (sym c.in-Wanting.is)
    (wanting-moves e told c.in-Wanting.wanted c.in_ok-provided-in-Wanting.field-0 c.args.outs.now c.provided.new.outs
    c.in_ok-provided-in-Wanting.ensures.enters c.in_ok-provided-in-Wanting.ensures.fresh)

pub returns-in-Submitting : goal.returns-in-Submitting
returns-in-Submitting c =
    let e = c.args.errand.now in
    let told = c.args.beliefs.now in
    let outs = c.args.outs.now in
    subst (λ old. HasMoved e told old (kept.Submitting c.in-Submitting.submission) outs outs) (sym c.in-Submitting.is)
    (submitting-stays e told c.in-Submitting.submission outs (subst (PhaseFits e.config) c.in-Submitting.is c.requires.phase))

pub returns-in-Idle : goal.returns-in-Idle
returns-in-Idle c =
    let e = c.args.errand.now in
    let told = c.args.beliefs.now in
    let outs = c.args.outs.now in
    subst (λ old. HasMoved e told old kept.Idle outs outs) (sym c.in-Idle.is) (idle-stays e told outs)
