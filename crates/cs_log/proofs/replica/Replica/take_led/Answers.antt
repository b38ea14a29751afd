use Rattle.std.proofs.Common.{◌≡◌, ◌+◌, ◌-◌, ◌<◌, ℕ, length, sym, subst, arith}
use Rattle.std.proofs.lemmas.Result.{IfOk-weaker}
use Rattle.cs_order_rules.specs.Facts.{open_slot, slot_of_message}
use Rattle.cs_log.specs.Later.{ShowLater}
use Rattle.cs_log.specs.Replicas.{kept, next_slot}
use Rattle.cs_log.proofs.LaterSlots.{slot_at, some_at}
use Rattle.cs_log.proofs.Mirroring.{next_is, later_took, may_take, round_took}
use Rattle.cs_log.proofs.replica.Replica.take_led.Goals as goal

pub returns-then-slot-open-clause-call : goal.returns-then-slot-open-clause-call
returns-then-slot-open-clause-call c = λ s p.
    let here : slot_of_message c.args.message ≡ next_slot (kept c.args.self.now).log = (let a = c.slot_of-slot.ensures in let b = c.open_slot-open.ensures.slot in let same = c.if-slot-open.true in omega arith) in
    round_took (kept c.args.self.now) s c.take.new.self c.args.from c.args.message c.in_ok-fresh.fresh p c.requires.other here (c.in_ok-fresh.ensures.call s (open_slot s) s.view p.shows)

pub take_at-requires-clause-may : goal.take_at-requires-clause-may
take_at-requires-clause-may c =
    let k = kept c.args.self.now in
    let s = c.requires.seen.0 in
    let p = c.requires.seen.1 in
    let place : ℕ = c.slot_of-slot.result - c.open_slot-open.result - 1 in
    let slot : slot_of_message c.args.message ≡ next_slot k.log + 1 + (c.slot_of-slot.result - c.open_slot-open.result - 1) = (let a = c.slot_of-slot.ensures in let b = c.open_slot-open.ensures.slot in let low = c.requires.slot in let other = c.if-slot-open.false in omega arith) in
    let first : c.open_slot-open.result + 1 ≡ open_slot s + 1 = (let a = c.open_slot-open.ensures.slot in let b = next_is k s p in omega arith) in
    let shown = c.in_ok-extend.ensures.shown s (sym p.f) (sym p.me) p.views (subst (λ n. ShowLater k.later s n) (sym first) p.later) in
    may_take k s c.extend.new.later.items place c.args.from c.args.message p c.requires.member c.requires.other c.requires.led slot (subst (λ n. ShowLater c.extend.new.later.items s n) first shown)

pub returns-clause-call : goal.returns-clause-call
returns-clause-call c = λ s p.
    let k = kept c.args.self.now in
    let later = c.extend.new.later.items in
    let place : ℕ = c.slot_of-slot.result - c.open_slot-open.result - 1 in
    let slot : slot_of_message c.args.message ≡ next_slot k.log + 1 + (c.slot_of-slot.result - c.open_slot-open.result - 1) = (let a = c.slot_of-slot.ensures in let b = c.open_slot-open.ensures.slot in let low = c.requires.slot in let other = c.if-slot-open.false in omega arith) in
    let first : c.open_slot-open.result + 1 ≡ open_slot s + 1 = (let a = c.open_slot-open.ensures.slot in let b = next_is k s p in omega arith) in
    let shown = c.in_ok-extend.ensures.shown s (sym p.f) (sym p.me) p.views (subst (λ n. ShowLater k.later s n) (sym first) p.later) in
    let show = subst (λ n. ShowLater later s n) first shown in
    let within : c.slot_of-slot.result - c.open_slot-open.result - 1 < length later = (let enough = c.in_ok-extend.ensures.enough in omega arith) in
    let x = some_at later place within in
    IfOk-weaker c.take_at.result _ _
    (λ fresh made. later_took k s later c.take_at.new.later.items place c.args.from c.args.message fresh made.0 p c.requires.other slot show within made.1 (made.2 s (open_slot s + 1 + place) 0 (slot_at later s (open_slot s + 1) place x.0 show x.1)))
    (c.take_at.ensures x.0 x.1)
