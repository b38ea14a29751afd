use Rattle.std.proofs.Common.{ℕ, List, subst, arith}
use Rattle.std.specs.Io.KnownBytes.{Appends}
use Rattle.std.proofs.lemmas.Result.{err_from_is_err_and}
use Rattle.cs_base.specs.Answers.{AppendsFront}
use Rattle.cs_replay_rules.specs.Play.{occurs}
use Rattle.cs_node.specs.Speaking.{input_of}
use Rattle.cs_replay_play.specs.Standing.{site_in}
use Rattle.cs_replay_play.proofs.Courses.{occurs-grows, takes-ends, ends-printed, ends-done}
use Rattle.cs_replay_play.proofs.Outcomes.{err-moved}
use Rattle.cs_replay_play.specs.declared.halt.Halt.TheVariants.{Failed as SinkFailed}
use Rattle.cs_replay_play.proofs.play.Replay.occur.Goals as goal

pub returns-in_err-text-clause-ends : goal.returns-in_err-text-clause-ends
returns-in_err-text-clause-ends g c = λ s p st has.
    let site = site_in g.O.Order.rules g.O.Carried.carrier s in
    let input = input_of c.args.input in
    let e = err_from_is_err_and c.from_residual.result c.from_residual.ensures.1 in
    rw (e.1, e.2)
    (takes-ends g.O.Order.stands g.J.Judge.is_approved g.O.Order.rules g.O.Carried.carrier s (occurs site s.traced c.args.line c.args.to input p) p c.take_in.new.self _ c.in_err-text.field-0.0 (c.in_err-text.ensures.takes s p st.holds has) st.printed
    (occurs-grows site s.traced c.args.line c.args.to input p))

pub returns-in_err-text-clause-cause : goal.returns-in_err-text-clause-cause
returns-in_err-text-clause-cause g c =
    let e = err_from_is_err_and c.from_residual.result c.from_residual.ensures.1 in
    record { later = omega arith; cause = λ failed. absurd (c.in_err-text.ensures.sink (err-moved c.from_residual.result e.0 c.in_err-text.field-0.0 SinkFailed e.1 e.2 failed)) }

pub returns-in_err-print-clause-ends : goal.returns-in_err-print-clause-ends
returns-in_err-print-clause-ends g c = λ s p st has.
    let site = site_in g.O.Order.rules g.O.Carried.carrier s in
    let (q, goes, holds, text) = c.in_ok-text.ensures.takes s p st.holds has in
    let e = err_from_is_err_and c.from_residual-in_err-print.result c.from_residual-in_err-print.ensures.1 in
    rw (e.1, e.2)
    (ends-printed g.O.Order.stands g.J.Judge.is_approved g.O.Order.rules g.O.Carried.carrier s (occurs site s.traced c.args.line c.args.to (input_of c.args.input) p) p q c.take_in.new.self _ _ _ c.in_err-print.field-0.0 goes text st.printed
    (subst (λ (t : List ℕ). AppendsFront (g.K.Sink.written c.args.output.now) (g.K.Sink.written c.print.new.output) t) c.as_bytes.ensures.value c.in_err-print.ensures.part))

pub returns-clause-ends : goal.returns-clause-ends
returns-clause-ends g c = λ s p st has.
    let site = site_in g.O.Order.rules g.O.Carried.carrier s in
    let (q, goes, holds, text) = c.in_ok-text.ensures.takes s p st.holds has in
    ends-done g.O.Order.stands g.J.Judge.is_approved g.O.Order.rules g.O.Carried.carrier s (occurs site s.traced c.args.line c.args.to (input_of c.args.input) p) p q c.take_in.new.self _ _ _ goes holds text st.printed
    (subst (λ (t : List ℕ). Appends (g.K.Sink.written c.args.output.now) (g.K.Sink.written c.print.new.output) t) c.as_bytes.ensures.value c.in_ok-print.ensures.done)
