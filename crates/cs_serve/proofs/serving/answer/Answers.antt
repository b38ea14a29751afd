use Rattle.cs_node_rules.specs.Deployment.{site_of}
use Rattle.cs_node_rules.specs.Trail.{event_marks}
use Rattle.cs_node.specs.Cores.{CoreStandsFor}
use Rattle.cs_node.specs.Speaking.{input_of}
use Rattle.cs_io.specs.Outside.{beside}
use Rattle.cs_serve.specs.Serving.{offers_of, lines_of}
use Rattle.cs_serve.proofs.Answered.{named-by-digest, all-given, part-given, none-given}
use Rattle.cs_serve.proofs.serving.answer.Goals as goal

pub returns-in_default-clause-answers : goal.returns-in_default-clause-answers
returns-in_default-clause-answers g c = λ setup net v is.
    let site = site_of setup net g.O.Order.rules g.O.Carried.carrier in
    let marks = event_marks site v (input_of c.args.input) in
    record { gives = none-given (beside (g.L.Link.told c.args.link.now) (g.K.Sink.written c.args.out.now)) (offers_of site v marks) (lines_of site v marks); after = tt }

pub returns-in-Ok-give_out-clause-answers : goal.returns-in-Ok-give_out-clause-answers
returns-in-Ok-give_out-clause-answers g c = λ setup net v is.
    let site = site_of setup net g.O.Order.rules g.O.Carried.carrier in
    let event = c.in-Ok.ensures.event setup net v is in
    let digests = named-by-digest g.O.Order.stands g.J.Judge.is_approved site c.args.core v is in
    record {
      gives = all-given site v (input_of c.args.input) c.in-Ok.made c.me-me.result (λ w. CoreStandsFor g.O.Order.stands g.J.Judge.is_approved site c.in-Ok.core w) digests (c.me-me.ensures site v is) event (beside (g.L.Link.told c.args.link.now) (g.K.Sink.written c.args.out.now)) (beside (g.L.Link.told c.give_out.new.link) (g.K.Sink.written c.give_out.new.out)) c.in-Ok-give_out.ensures.all;
      after = event.after;
    }

pub returns-in-Err-Failed-clause-answers : goal.returns-in-Err-Failed-clause-answers
returns-in-Err-Failed-clause-answers g c = λ setup net v is.
    let site = site_of setup net g.O.Order.rules g.O.Carried.carrier in
    let event = c.in-Ok.ensures.event setup net v is in
    let digests = named-by-digest g.O.Order.stands g.J.Judge.is_approved site c.args.core v is in
    record {
      gives = part-given site v (input_of c.args.input) c.in-Ok.made c.me-me.result (λ w. CoreStandsFor g.O.Order.stands g.J.Judge.is_approved site c.in-Ok.core w) digests (c.me-me.ensures site v is) event (beside (g.L.Link.told c.args.link.now) (g.K.Sink.written c.args.out.now)) (beside (g.L.Link.told c.give_out.new.link) (g.K.Sink.written c.give_out.new.out)) c.in-Err-Failed.ensures.front;
      after = event.after;
    }

pub returns-clause-answers : goal.returns-clause-answers
returns-clause-answers g c = λ setup net v is.
    let site = site_of setup net g.O.Order.rules g.O.Carried.carrier in
    let event = c.in-Ok.ensures.event setup net v is in
    let digests = named-by-digest g.O.Order.stands g.J.Judge.is_approved site c.args.core v is in
    record {
      gives = part-given site v (input_of c.args.input) c.in-Ok.made c.me-me.result (λ w. CoreStandsFor g.O.Order.stands g.J.Judge.is_approved site c.in-Ok.core w) digests (c.me-me.ensures site v is) event (beside (g.L.Link.told c.args.link.now) (g.K.Sink.written c.args.out.now)) (beside (g.L.Link.told c.give_out.new.link) (g.K.Sink.written c.give_out.new.out)) c.in-Err-Memory.ensures.front;
      after = event.after;
    }
