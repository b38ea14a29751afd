use Rattle.std.proofs.Common.{refl}
use Rattle.cs_wire_message.specs.declared.message.Message.TheVariants as message
use Rattle.cs_node_rules.specs.Trail.{message_marks}
use Rattle.cs_node.proofs.Heard.{as-said, signs-said, other-said}
use Rattle.cs_node.proofs.Judged.{led-judged}
use Rattle.cs_node.proofs.engine.Engine.hear.Goals as goal

pub returns-in-Submit : goal.returns-in-Submit
returns-in-Submit g c =
    let engine = c.args.self.now in
    led-judged g.O.Order.stands g.J.Judge.is_approved g.O.Order.rules g.O.Carried.carrier engine (record { order = engine.order; judge = engine.judge; sbac = c.submit.new.sbac }) c.submit.new.judge c.args.draft.now c.submit.new.draft c.submit.result
    (λ site v. message_marks site v c.args.sender c.args.message) c.submit.ensures.judge
    (signs-said g.O.Order.stands g.J.Judge.is_approved g.O.Order.rules g.O.Carried.carrier engine c.submit.new.sbac c.args.draft.now c.submit.new.draft c.submit.result c.args.sender c.args.message (message.Submit c.in-Submit.session) c.in-Submit.is (λ site v. refl)
    c.submit.ensures.does)

pub returns-in-Ask : goal.returns-in-Ask
returns-in-Ask g c =
    signs-said g.O.Order.stands g.J.Judge.is_approved g.O.Order.rules g.O.Carried.carrier c.args.self.now c.args.self.now.sbac c.args.draft.now c.ask.new.draft c.ask.result c.args.sender c.args.message (message.Ask c.in-Ask.key) c.in-Ask.is (λ site v. refl)
    (c.ask.ensures (g.J.Judge.is_approved c.args.self.now.judge))

pub returns-in-AskProof : goal.returns-in-AskProof
returns-in-AskProof g c =
    signs-said g.O.Order.stands g.J.Judge.is_approved g.O.Order.rules g.O.Carried.carrier c.args.self.now c.args.self.now.sbac c.args.draft.now c.ask_proof.new.draft c.ask_proof.result c.args.sender c.args.message (message.AskProof c.in-AskProof.slot c.in-AskProof._place) c.in-AskProof.is (λ site v. refl)
    (c.ask_proof.ensures (g.J.Judge.is_approved c.args.self.now.judge))

pub returns-in-Voted : goal.returns-in-Voted
returns-in-Voted g c =
    let engine = c.args.self.now in
    led-judged g.O.Order.stands g.J.Judge.is_approved g.O.Order.rules g.O.Carried.carrier engine (record { order = engine.order; judge = engine.judge; sbac = c.hear_vote.new.sbac }) c.hear_vote.new.judge c.args.draft.now c.hear_vote.new.draft c.hear_vote.result
    (λ site v. message_marks site v c.args.sender c.args.message) c.hear_vote.ensures.judge
    (signs-said g.O.Order.stands g.J.Judge.is_approved g.O.Order.rules g.O.Carried.carrier engine c.hear_vote.new.sbac c.args.draft.now c.hear_vote.new.draft c.hear_vote.result c.args.sender c.args.message (message.Voted c.in-Voted.vote c.in-Voted.asks c.in-Voted.session) c.in-Voted.is (λ site v. refl)
    c.hear_vote.ensures.does)

pub returns-in-Want : goal.returns-in-Want
returns-in-Want g c =
    as-said g.O.Order.stands g.J.Judge.is_approved g.O.Order.rules g.O.Carried.carrier c.args.self.now c.args.self.now c.args.draft.now c.hear_want.new.draft c.hear_want.result c.args.sender c.args.message (message.Want c.in-Want.slot) c.in-Want.is
    c.hear_want.ensures

pub returns-in-Head : goal.returns-in-Head
returns-in-Head g c =
    signs-said g.O.Order.stands g.J.Judge.is_approved g.O.Order.rules g.O.Carried.carrier c.args.self.now c.hear_head.new.sbac c.args.draft.now c.hear_head.new.draft c.hear_head.result c.args.sender c.args.message (message.Head c.in-Head.checkpoint) c.in-Head.is (λ site v. refl)
    (c.hear_head.ensures (g.J.Judge.is_approved c.args.self.now.judge))

pub returns-in_default : goal.returns-in_default
returns-in_default g c =
    other-said g.O.Order.stands g.J.Judge.is_approved g.O.Order.rules g.O.Carried.carrier c.args.self.now c.hear_member.new.self c.args.draft.now c.hear_member.new.draft c.hear_member.result c.args.sender c.args.message g.met.O.Carried.carries
    (record {
      submit = c.in_default.not-Submit;
      ask = c.in_default.not-Ask;
      ask_proof = c.in_default.not-AskProof;
      voted = c.in_default.not-Voted;
      want = c.in_default.not-Want;
      head = c.in_default.not-Head;
    })
    c.hear_member.ensures
