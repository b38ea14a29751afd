use Rattle.std.proofs.Common.{◌≡◌, ◌+◌, nat_lt, Bool, true, ◌||◌, length, sym, ap₂, ◌∙◌, arith}
use Rattle.std.proofs.lemmas.Result.{on_ok_weaker}
use Rattle.cs_order_law.specs.laws.SlotFacts.{or_left, or_right}
use Rattle.cs_log.specs.Replicas.{kept}
use Rattle.cs_log.proofs.Acting.{tick_idle, tick_over, tick_counts}
use Rattle.cs_log.proofs.replica.Replica.tick.Goals.{else-not-due-via-then-not-due+else-not-has_echoed, else-not-due-via-else-not-due}
use Rattle.cs_log.proofs.replica.Replica.tick.Goals as goal

pub returns-then-not-has_echoed-clause-call : goal.returns-then-not-has_echoed-clause-call
returns-then-not-has_echoed-clause-call c = λ s p. tick_idle (kept c.args.self.now) s c.args.due c.args.out.now.items p (ap₂ (λ (a : Bool) (b : Bool). a || b) c.if-not-due.true (sym c.has_echoed.ensures ∙ c.if-not-has_echoed.true))

pub returns-then-is_over-clause-call : goal.returns-then-is_over-clause-call
returns-then-is_over-clause-call c = λ s p.
    let waiting : (c.args.due || nat_lt 0 (length c.args.self.now.current.echoed)) ≡ true =
    elim c.else-not-due.branch [
      | else-not-due-via-then-not-due+else-not-has_echoed w ↦ or_right c.args.due (nat_lt 0 (length c.args.self.now.current.echoed)) (sym w.has_echoed.ensures ∙ w.if-not-has_echoed.false)
      | else-not-due-via-else-not-due w ↦ or_left c.args.due (nat_lt 0 (length c.args.self.now.current.echoed)) w.if-not-due.false
    ] in
    on_ok_weaker c.enter.result (λ made. tick_over (kept c.args.self.now) (kept c.enter.new.self) s c.args.due c.args.out.now.items c.enter.new.out.items p waiting (sym c.is_over.ensures ∙ c.if-is_over.true) made) (c.enter.ensures.call s p)

pub returns-then-self-lt-LONGEST_WAIT-clause-call : goal.returns-then-self-lt-LONGEST_WAIT-clause-call
returns-then-self-lt-LONGEST_WAIT-clause-call c = λ s p.
    let waiting : (c.args.due || nat_lt 0 (length c.args.self.now.current.echoed)) ≡ true =
    elim c.else-not-due.branch [
      | else-not-due-via-then-not-due+else-not-has_echoed w ↦ or_right c.args.due (nat_lt 0 (length c.args.self.now.current.echoed)) (sym w.has_echoed.ensures ∙ w.if-not-has_echoed.false)
      | else-not-due-via-else-not-due w ↦ or_left c.args.due (nat_lt 0 (length c.args.self.now.current.echoed)) w.if-not-due.false
    ] in
    tick_counts (kept c.args.self.now) s c.args.due c.args.out.now.items (c.args.self.now.wait + 1) p waiting (sym c.is_over.ensures ∙ c.if-is_over.false) (let less = c.if-self-lt-LONGEST_WAIT.true in omega arith)

pub returns-else-self-lt-LONGEST_WAIT-clause-call : goal.returns-else-self-lt-LONGEST_WAIT-clause-call
returns-else-self-lt-LONGEST_WAIT-clause-call c = λ s p.
    let waiting : (c.args.due || nat_lt 0 (length c.args.self.now.current.echoed)) ≡ true =
    elim c.else-not-due.branch [
      | else-not-due-via-then-not-due+else-not-has_echoed w ↦ or_right c.args.due (nat_lt 0 (length c.args.self.now.current.echoed)) (sym w.has_echoed.ensures ∙ w.if-not-has_echoed.false)
      | else-not-due-via-else-not-due w ↦ or_left c.args.due (nat_lt 0 (length c.args.self.now.current.echoed)) w.if-not-due.false
    ] in
    tick_counts (kept c.args.self.now) s c.args.due c.args.out.now.items c.args.self.now.wait p waiting (sym c.is_over.ensures ∙ c.if-is_over.false) (let full = c.if-self-lt-LONGEST_WAIT.false in let e = p.wait in omega arith)
