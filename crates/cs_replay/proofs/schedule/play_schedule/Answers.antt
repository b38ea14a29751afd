use Rattle.std.proofs.Common.{◌≡◌, ℕ, List, [], Result, Err, refl, sym, ap, subst, ◌∙◌, arith}
use Rattle.std.specs.Prelude.{IsErrOf}
use Rattle.std.specs.Io.KnownBytes.{Appends}
use Rattle.std.proofs.KnownBytes.{Appends-nil}
use Rattle.std.proofs.lemmas.Result.{err_from_is_err_and}
use Rattle.cs_sched.specs.declared.schedule.Event.{Event}
use Rattle.cs_replay_rules.specs.Play.{unplayed, play_all}
use Rattle.cs_replay_play.specs.Standing.{site_in, AllToOthers, StandsPrinted}
use Rattle.cs_replay.specs.declared.outcome.ReplayError.{ReplayError}
use Rattle.cs_replay.specs.declared.outcome.ReplayError.TheVariants.{WriteFault, Memory}
use Rattle.cs_replay.specs.Closing.{IsLast, Closes}
use Rattle.cs_replay.proofs.Whole.{closes-last, closes-cut, closes-early}
use Rattle.cs_replay.proofs.schedule.play_schedule.Goals as goal

pub returns-in_err-last-clause-closes : goal.returns-in_err-last-clause-closes
returns-in_err-last-clause-closes g c = λ s is stands setup here.
    let site = site_in g.O.Order.rules g.O.Carried.carrier s in
    let st : StandsPrinted g.O.Order.stands g.J.Judge.is_approved g.O.Order.rules g.O.Carried.carrier s c.args.replay (g.K.Sink.written c.args.output.now) unplayed =
    record { holds = stands; printed = subst (λ before. Appends before (g.K.Sink.written c.args.output.now) []) (sym is) (Appends-nil (g.K.Sink.written c.args.output.now)) } in
    let has = subst (λ (es : List (ℕ × Event)). AllToOthers s es) (sym c.as_slice.ensures) here in
    let ends = c.play_all-played.ensures.ends s unplayed st has in
    let e = err_from_is_err_and c.from_residual.result c.from_residual.ensures.1 in
    rw (e.1, e.2)
    (subst (λ (es : List (ℕ × Event)). Closes s.before (g.K.Sink.written c.play_all-played.new.output) site c.args.dumps c.args.schedule.now.contracts (play_all site s.traced es unplayed) (Err c.in_err-last.field-0.0)) c.as_slice.ensures
    (closes-early g.O.Order.stands g.J.Judge.is_approved g.O.Order.rules g.O.Carried.carrier s c.args.schedule.now setup c.args.dumps (play_all site s.traced c.as_slice.result.now unplayed) c.play_all-played.new.self (g.K.Sink.written c.play_all-played.new.output)
    c.play_all-played.result c.in_err-last.field-0.0 ends c.in_err-last.ensures.cut))

pub returns-in-Ok-clause-closes : goal.returns-in-Ok-clause-closes
returns-in-Ok-clause-closes g c = λ s is stands setup here.
    let site = site_in g.O.Order.rules g.O.Carried.carrier s in
    let st : StandsPrinted g.O.Order.stands g.J.Judge.is_approved g.O.Order.rules g.O.Carried.carrier s c.args.replay (g.K.Sink.written c.args.output.now) unplayed =
    record { holds = stands; printed = subst (λ before. Appends before (g.K.Sink.written c.args.output.now) []) (sym is) (Appends-nil (g.K.Sink.written c.args.output.now)) } in
    let has = subst (λ (es : List (ℕ × Event)). AllToOthers s es) (sym c.as_slice.ensures) here in
    let ends = c.play_all-played.ensures.ends s unplayed st has in
    let last = subst (λ (text : List ℕ). IsLast g.O.Order.stands g.J.Judge.is_approved g.O.Order.rules g.O.Carried.carrier c.play_all-played.new.self c.args.schedule.now c.args.dumps c.play_all-played.result text c.in_ok-last.last.answer) (sym c.as_bytes.ensures.value) c.in_ok-last.ensures.last in
    subst (λ (es : List (ℕ × Event)). Closes s.before (g.K.Sink.written c.print.new.output) site c.args.dumps c.args.schedule.now.contracts (play_all site s.traced es unplayed) c.in_ok-last.last.answer) c.as_slice.ensures
    (closes-last g.O.Order.stands g.J.Judge.is_approved g.O.Order.rules g.O.Carried.carrier s c.args.schedule.now setup c.args.dumps (play_all site s.traced c.as_slice.result.now unplayed) c.play_all-played.new.self (g.K.Sink.written c.play_all-played.new.output)
    _ c.play_all-played.result c.as_bytes.result.now c.in_ok-last.last.answer ends last c.in-Ok.ensures.done)

pub returns-in-Err-Failed-clause-closes : goal.returns-in-Err-Failed-clause-closes
returns-in-Err-Failed-clause-closes g c = λ s is stands setup here.
    let site = site_in g.O.Order.rules g.O.Carried.carrier s in
    let st : StandsPrinted g.O.Order.stands g.J.Judge.is_approved g.O.Order.rules g.O.Carried.carrier s c.args.replay (g.K.Sink.written c.args.output.now) unplayed =
    record { holds = stands; printed = subst (λ before. Appends before (g.K.Sink.written c.args.output.now) []) (sym is) (Appends-nil (g.K.Sink.written c.args.output.now)) } in
    let has = subst (λ (es : List (ℕ × Event)). AllToOthers s es) (sym c.as_slice.ensures) here in
    let ends = c.play_all-played.ensures.ends s unplayed st has in
    let last = subst (λ (text : List ℕ). IsLast g.O.Order.stands g.J.Judge.is_approved g.O.Order.rules g.O.Carried.carrier c.play_all-played.new.self c.args.schedule.now c.args.dumps c.play_all-played.result text c.in_ok-last.last.answer) (sym c.as_bytes.ensures.value) c.in_ok-last.ensures.last in
    subst (λ (es : List (ℕ × Event)). Closes s.before (g.K.Sink.written c.print.new.output) site c.args.dumps c.args.schedule.now.contracts (play_all site s.traced es unplayed) (Err WriteFault)) c.as_slice.ensures
    (closes-cut g.O.Order.stands g.J.Judge.is_approved g.O.Order.rules g.O.Carried.carrier s c.args.schedule.now setup c.args.dumps (play_all site s.traced c.as_slice.result.now unplayed) c.play_all-played.new.self (g.K.Sink.written c.play_all-played.new.output)
    _ c.play_all-played.result c.as_bytes.result.now c.in_ok-last.last.answer WriteFault ends last tt c.in-Err-Failed.ensures.part)

pub returns-clause-closes : goal.returns-clause-closes
returns-clause-closes g c = λ s is stands setup here.
    let site = site_in g.O.Order.rules g.O.Carried.carrier s in
    let st : StandsPrinted g.O.Order.stands g.J.Judge.is_approved g.O.Order.rules g.O.Carried.carrier s c.args.replay (g.K.Sink.written c.args.output.now) unplayed =
    record { holds = stands; printed = subst (λ before. Appends before (g.K.Sink.written c.args.output.now) []) (sym is) (Appends-nil (g.K.Sink.written c.args.output.now)) } in
    let has = subst (λ (es : List (ℕ × Event)). AllToOthers s es) (sym c.as_slice.ensures) here in
    let ends = c.play_all-played.ensures.ends s unplayed st has in
    let last = subst (λ (text : List ℕ). IsLast g.O.Order.stands g.J.Judge.is_approved g.O.Order.rules g.O.Carried.carrier c.play_all-played.new.self c.args.schedule.now c.args.dumps c.play_all-played.result text c.in_ok-last.last.answer) (sym c.as_bytes.ensures.value) c.in_ok-last.ensures.last in
    subst (λ (es : List (ℕ × Event)). Closes s.before (g.K.Sink.written c.print.new.output) site c.args.dumps c.args.schedule.now.contracts (play_all site s.traced es unplayed) (Err Memory)) c.as_slice.ensures
    (closes-cut g.O.Order.stands g.J.Judge.is_approved g.O.Order.rules g.O.Carried.carrier s c.args.schedule.now setup c.args.dumps (play_all site s.traced c.as_slice.result.now unplayed) c.play_all-played.new.self (g.K.Sink.written c.play_all-played.new.output)
    _ c.play_all-played.result c.as_bytes.result.now c.in_ok-last.last.answer Memory ends last tt c.in-Err-Memory.ensures.part)

-- what is cut short fails where the events failed
pub returns-in_err-last-clause-cause : goal.returns-in_err-last-clause-cause
returns-in_err-last-clause-cause g c =
    let e = err_from_is_err_and c.from_residual.result c.from_residual.ensures.1 in
    rw (e.1, e.2)
    (record {
      later = c.play_all-played.ensures.cause.later;
      cause = λ failed. c.play_all-played.ensures.cause.cause (c.in_err-last.ensures.failed (ap Err (cc (failed))));
    })

-- the answer that is kept is no fault of the sink
pub returns-in-Ok-clause-cause : goal.returns-in-Ok-clause-cause
returns-in-Ok-clause-cause g c = record {
  later = omega (arith, c.play_all-played.ensures.cause.later, c.print.ensures.cause.later);
  cause = λ failed. absurd (c.in_ok-last.ensures.answer failed);
}

pub returns-in-Err-Failed-clause-cause : goal.returns-in-Err-Failed-clause-cause
returns-in-Err-Failed-clause-cause g c =
    let risen = c.in-Err-Failed.ensures.cause.cause (ap Err c.in-Err-Failed.field-0-is) in
    record {
      later = omega (arith, c.play_all-played.ensures.cause.later, risen);
      cause = λ failed. omega (arith, c.play_all-played.ensures.cause.later, risen);
    }

-- want of memory is no fault of the sink
not-sink : {A : Type 0} (result : Result A ReplayError) → result ≡ Err Memory → IsErrOf result WriteFault → ⊥
not-sink result is failed = let same = sym is ∙ failed in cc

pub returns-clause-cause : goal.returns-clause-cause
returns-clause-cause g c = record {
  later = omega (arith, c.play_all-played.ensures.cause.later, c.print.ensures.cause.later);
  cause = λ failed. absurd (not-sink (Err Memory) refl failed);
}
