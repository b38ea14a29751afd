use Rattle.std.proofs.Common.{◌≡◌, Some, subst, ap, ◌∙◌}
use Rattle.cs_wire_message.specs.Message.{MessageFits}
use Rattle.cs_client.specs.Kept.{heard_of}
use Rattle.cs_client.specs.Seen.{IsSoundClient}
use Rattle.cs_client.specs.Hearing.{Hears}
use Rattle.cs_client.proofs.Taking.{on-ok, told-taken, decided-taken, other-taken, is-other}
use Rattle.cs_client.proofs.clients.take.Goals as goal

pub returns-in-Told : goal.returns-in-Told
returns-in-Told c = λ past input said.
    let e = c.args.errand.now in
    let told = c.args.beliefs.now in
    let now = c.args.phase.now in
    let from = c.args.from in
    let sound : IsSoundClient e told now = record { told_fits = c.requires.told; told_marked = c.requires.marked; phase_fits = c.requires.phase } in
    on-ok c.hear.result (c.hear.new.self ≡ heard_of e.config from c.in-Told.key c.in-Told.state told) (Hears e past input told now c.hear.new.self now)
    (λ is. told-taken e past input told c.hear.new.self now from c.in-Told.key c.in-Told.state sound
    (said ∙ ap (λ m. Some (from, m)) c.in-Told.is) c.requires.node (subst (MessageFits c.args.errand.now.keys.version) c.in-Told.is c.requires.message).1 is)
    c.hear.ensures

pub returns-in-Decided : goal.returns-in-Decided
returns-in-Decided c = λ past input said.
    let e = c.args.errand.now in
    let told = c.args.beliefs.now in
    let now = c.args.phase.now in
    let from = c.args.from in
    let sound : IsSoundClient e told now = record { told_fits = c.requires.told; told_marked = c.requires.marked; phase_fits = c.requires.phase } in
    decided-taken e past input told now c.count.new.phase from c.in-Decided.session c.in-Decided.accepted sound
    (said ∙ ap (λ m. Some (from, m)) c.in-Decided.is) c.count.ensures

pub returns : goal.returns
returns c = λ past input said.
    let e = c.args.errand.now in
    let told = c.args.beliefs.now in
    let now = c.args.phase.now in
    let sound : IsSoundClient e told now = record { told_fits = c.requires.told; told_marked = c.requires.marked; phase_fits = c.requires.phase } in
    other-taken e past input told now c.args.from c.args.message sound said
    (is-other c.args.message c.in_default.not-Told c.in_default.not-Decided)
