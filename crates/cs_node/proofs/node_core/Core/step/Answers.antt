use Rattle.cs_node_rules.specs.Deployment.{site_of}
use Rattle.cs_node.specs.Speaking.{input_of}
use Rattle.cs_node.proofs.Dropped.{event-dropped}
use Rattle.cs_node.proofs.Standing.{event-done, event-sealed, same-me}
use Rattle.cs_node.proofs.node_core.Core.step.Goals as goal

pub returns-clause-event : goal.returns-clause-event
returns-clause-event g c = λ setup net v is.
    let stands = g.O.Order.stands in
    let approves = g.J.Judge.is_approved in
    let rules = g.O.Order.rules in
    let carried = g.O.Carried.carrier in
    let core = c.args.self in
    let site = site_of setup net rules carried in
    event-sealed stands approves site core c.settle.new.self v (input_of c.args.input) c.settle.new.draft c.in_ok-made.made is
    (event-done stands approves rules carried net core.engine c.take_in.new.self c.settle.new.self setup v (input_of c.args.input) c.new-draft.result c.take_in.new.draft c.settle.new.draft is.keeps c.new-draft.ensures
    (λ genesis log h seated. c.in_ok-take_in.ensures (same-me stands approves site core v is) net genesis log h seated is.speaks)
    (λ genesis log h seated. c.in_ok-settle.ensures net genesis log h seated))
    c.in_ok-made.ensures.notes (c.in_ok-made.ensures.outs core.engine.sbac.config net is.speaks)

pub returns-clause-dropped : goal.returns-clause-dropped
returns-clause-dropped g c = λ setup net v cause is drop.
    let site = site_of setup net g.O.Order.rules g.O.Carried.carrier in
    event-dropped site v (input_of c.args.input) cause c.in_ok-made.made _ is.quiet drop (returns-clause-event g c setup net v is)
