use Rattle.std.proofs.Common.{[]}
use Rattle.std.proofs.lemmas.Result.{err_from_is_err_and}
use Rattle.cs_client.specs.Inputs.{client_input}
use Rattle.cs_client.proofs.Entering.{has-stepped, has-failed}
use Rattle.cs_client.proofs.clients.ClientCore.step.Goals as goal

pub moved-requires-clause-fits : goal.moved-requires-clause-fits
moved-requires-clause-fits c = (c.in_ok-outs.ensures []).hears.sound.told_fits

pub moved-requires-clause-marked : goal.moved-requires-clause-marked
moved-requires-clause-marked c = (c.in_ok-outs.ensures []).hears.sound.told_marked

pub moved-requires-clause-phase : goal.moved-requires-clause-phase
moved-requires-clause-phase c = (c.in_ok-outs.ensures []).hears.sound.phase_fits

pub invariant_of-client : goal.invariant_of-client
invariant_of-client c = record {
  told_fits = (c.in_ok-outs.ensures []).hears.sound.told_fits;
  told_marked = (c.in_ok-outs.ensures []).hears.sound.told_marked;
  phase_fits = c.in_ok-phase.ensures.enters.fits;
}

pub returns-in_err-phase : goal.returns-in_err-phase
returns-in_err-phase c = λ e past stands.
    let p = err_from_is_err_and c.from_residual-in_err-phase.result c.from_residual-in_err-phase.ensures.1 in
    rw (p.1, p.2)
    (has-failed e c.self.inside.errand past (client_input c.args.input) c.args.self c.self.inside.beliefs c.self.inside.phase
    c.take_in.new.beliefs c.take_in.new.phase c.in_ok-outs.outs c.moved.new.outs c.in_err-phase.field-0.0
    c.self.view_is stands (c.in_ok-outs.ensures past) c.in_err-phase.ensures)

pub returns : goal.returns
returns c = λ e past stands.
    has-stepped e c.self.inside.errand past (client_input c.args.input) c.args.self c.self.inside.beliefs c.self.inside.phase
    c.take_in.new.beliefs c.take_in.new.phase c.in_ok-phase.phase c.in_ok-outs.outs c.moved.new.outs
    c.self.view_is stands (c.in_ok-outs.ensures past) c.in_ok-phase.ensures
