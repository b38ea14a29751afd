use Rattle.std.proofs.Common.{ap, ◌++◌, ◌∙◌}
use Rattle.cs_client.specs.Sayings.{again, outs_of_sayings}
use Rattle.cs_client.specs.Seen.{IsSoundClient, phase_seen, known_kept}
use Rattle.cs_client.proofs.Entering.{takes-datagram, takes-tick}
use Rattle.cs_client.proofs.clients.take_in.Goals as goal

pub returns-in_ok-hear-in-Datagram : goal.returns-in_ok-hear-in-Datagram
returns-in_ok-hear-in-Datagram c = λ past.
    let e = c.args.errand.now in
    rw c.in-Datagram.is
    (takes-datagram e past c.in-Datagram.bytes.now c.args.beliefs.now c.args.phase.now c.hear.new.beliefs c.hear.new.phase c.new.result
    (c.in_ok-hear-in-Datagram.ensures past) c.new.ensures)

pub returns-in_ok-say_again-in-Tick : goal.returns-in_ok-say_again-in-Tick
returns-in_ok-say_again-in-Tick c = λ past.
    let e = c.args.errand.now in
    let now = c.args.phase.now in
    let sayings = again e (known_kept e.config.f now) (phase_seen now) in
    let sound : IsSoundClient e c.args.beliefs.now now = record { told_fits = c.requires.told; told_marked = c.requires.marked; phase_fits = c.requires.phase } in
    rw c.in-Tick.is
    (takes-tick e past c.args.beliefs.now now c.say_again.new.outs sound
    (c.in_ok-say_again-in-Tick.ensures ∙ ap (λ outs. outs ++ outs_of_sayings e.keys sayings) c.new-outs.ensures))
