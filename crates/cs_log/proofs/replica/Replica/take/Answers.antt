use Rattle.std.proofs.Common.{◌+◌, ◌<◌, ◌≤◌, Bool, if◌then◌else◌, sym, ◌∙◌, subst, arith}
use Rattle.cs_base.specs.declared.limits.TheConstants.{SLOTS_AHEAD}
use Rattle.cs_order.specs.declared.answers.Took.TheVariants.{Taken, Repeat}
use Rattle.cs_order_rules.specs.Facts.{slot_of_message}
use Rattle.cs_log.specs.Replicas.{kept, next_slot}
use Rattle.cs_log.proofs.Verdicts.{Answers, is_old, is_far, is_unled, is_taken}
use Rattle.cs_log.proofs.replica.Replica.take.Goals as goal

pub returns-then-slot-open-clause-call : goal.returns-then-slot-open-clause-call
returns-then-slot-open-clause-call c = λ s p.
    let low : slot_of_message c.args.message < next_slot (kept c.args.self.now).log = (let a = c.slot_of-slot.ensures in let b = c.open_slot-open.ensures.slot in let below = c.if-slot-open.true in omega arith) in
    is_old (kept c.args.self.now) s c.args.from c.args.message p low

pub returns-then-slot-open-2-clause-call : goal.returns-then-slot-open-2-clause-call
returns-then-slot-open-2-clause-call c = λ s p.
    let high : next_slot (kept c.args.self.now).log + SLOTS_AHEAD < slot_of_message c.args.message = (let a = c.slot_of-slot.ensures in let b = c.open_slot-open.ensures.slot in let above = c.if-slot-open-2.true in omega arith) in
    is_far (kept c.args.self.now) s c.args.from c.args.message p high

pub returns-then-not-is_led-clause-call : goal.returns-then-not-is_led-clause-call
returns-then-not-is_led-clause-call c = λ s p.
    let low : next_slot (kept c.args.self.now).log ≤ slot_of_message c.args.message = (let a = c.slot_of-slot.ensures in let b = c.open_slot-open.ensures.slot in let not_below = c.if-slot-open.false in omega arith) in
    let high : slot_of_message c.args.message ≤ next_slot (kept c.args.self.now).log + SLOTS_AHEAD = (let a = c.slot_of-slot.ensures in let b = c.open_slot-open.ensures.slot in let not_above = c.if-slot-open-2.false in omega arith) in
    is_unled (kept c.args.self.now) s c.args.from c.args.message p low high (sym c.is_led.ensures ∙ c.if-not-is_led.true)

pub returns-then-fresh-clause-call : goal.returns-then-fresh-clause-call
returns-then-fresh-clause-call c = λ s p.
    let low : next_slot (kept c.args.self.now).log ≤ slot_of_message c.args.message = (let a = c.slot_of-slot.ensures in let b = c.open_slot-open.ensures.slot in let not_below = c.if-slot-open.false in omega arith) in
    let high : slot_of_message c.args.message ≤ next_slot (kept c.args.self.now).log + SLOTS_AHEAD = (let a = c.slot_of-slot.ensures in let b = c.open_slot-open.ensures.slot in let not_above = c.if-slot-open-2.false in omega arith) in
    subst (λ (b : Bool). Answers (kept c.take_led.new.self) s c.args.from c.args.message (if b then Taken else Repeat)) c.if-fresh.true (is_taken (kept c.args.self.now) (kept c.take_led.new.self) s c.args.from c.args.message c.in_ok-fresh.fresh p low high (sym c.is_led.ensures ∙ c.if-not-is_led.false) (c.in_ok-fresh.ensures.call s p))

pub returns-else-fresh-clause-call : goal.returns-else-fresh-clause-call
returns-else-fresh-clause-call c = λ s p.
    let low : next_slot (kept c.args.self.now).log ≤ slot_of_message c.args.message = (let a = c.slot_of-slot.ensures in let b = c.open_slot-open.ensures.slot in let not_below = c.if-slot-open.false in omega arith) in
    let high : slot_of_message c.args.message ≤ next_slot (kept c.args.self.now).log + SLOTS_AHEAD = (let a = c.slot_of-slot.ensures in let b = c.open_slot-open.ensures.slot in let not_above = c.if-slot-open-2.false in omega arith) in
    subst (λ (b : Bool). Answers (kept c.take_led.new.self) s c.args.from c.args.message (if b then Taken else Repeat)) c.if-fresh.false (is_taken (kept c.args.self.now) (kept c.take_led.new.self) s c.args.from c.args.message c.in_ok-fresh.fresh p low high (sym c.is_led.ensures ∙ c.if-not-is_led.false) (c.in_ok-fresh.ensures.call s p))
