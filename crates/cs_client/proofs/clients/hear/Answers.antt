use Rattle.std.proofs.Common.{sym, ap, ◌∙◌}
use Rattle.cs_io.specs.declared.link.MemInput.TheVariants as came
use Rattle.cs_client.specs.Inputs.{said_by_opened}
use Rattle.cs_client.specs.Seen.{IsSoundClient}
use Rattle.cs_client.proofs.Taking.{unheard-taken, stranger-taken}
use Rattle.cs_client.proofs.clients.hear.Goals as goal

pub returns-then-not-has_node : goal.returns-then-not-has_node
returns-then-not-has_node c = λ past.
    let e = c.args.errand.now in
    let sound : IsSoundClient e c.args.beliefs.now c.args.phase.now = record { told_fits = c.requires.told; told_marked = c.requires.marked; phase_fits = c.requires.phase } in
    stranger-taken e past (came.Datagram c.args.bytes.now) c.args.beliefs.now c.args.phase.now c.in-Ok.from c.in-Ok.message sound
    (ap said_by_opened (sym c.in_ok-from.ensures.said ∙ c.in-Ok.is)) (sym c.has_node.ensures ∙ c.if-not-has_node.true)

pub returns-in-Err : goal.returns-in-Err
returns-in-Err c = λ past.
    let e = c.args.errand.now in
    let sound : IsSoundClient e c.args.beliefs.now c.args.phase.now = record { told_fits = c.requires.told; told_marked = c.requires.marked; phase_fits = c.requires.phase } in
    unheard-taken e past (came.Datagram c.args.bytes.now) c.args.beliefs.now c.args.phase.now sound
    (ap said_by_opened (sym c.in_ok-from.ensures.said ∙ c.in-Err.is))
