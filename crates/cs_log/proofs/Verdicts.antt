-- What becomes of a message.
use Rattle.std.proofs.Common.{◌≡◌, ℕ, ◌+◌, ◌<◌, ◌≤◌, nat_lt, Bool, true, false, not, if◌then◌else◌, refl, sym, ap, ◌∙◌, lt-ltb, le-ltb, arith}
use Rattle.cs_base.specs.declared.limits.TheConstants.{SLOTS_AHEAD}
use Rattle.cs_order.specs.declared.answers.Took.{Took}
use Rattle.cs_order.specs.declared.answers.Took.TheVariants.{Taken, Old, Far, Leader, Repeat}
use Rattle.cs_order_rules.specs.declared.message.OrderMessage.{OrderMessage}
use Rattle.cs_order_rules.specs.declared.message.OrderMessage.TheVariants as message
use Rattle.cs_order_rules.specs.Facts.{Sight, open_slot, slot_of_message, is_like, took}
use Rattle.cs_order_rules.specs.Rules.{is_led, verdict}
use Rattle.cs_order_open.specs.Shows.{led}
use Rattle.cs_log.specs.Replicas.{KeptReplica, next_slot, Mirrors, after_taking, if_fresh}
use Rattle.cs_log.proofs.Mirroring.{next_is}

abbrev pub Answers : KeptReplica → Sight → ℕ → OrderMessage → Took → Type 0
Answers k s from m answer = (answer ≡ verdict s from m) × Mirrors k (after_taking (verdict s from m) s from m)

led_is : (s : Sight) (from : ℕ) (m : OrderMessage) → is_led s from m ≡ led s.f from m
led_is s from (message.Propose n w e) = refl
led_is s from (message.Echo n w d) = refl
led_is s from (message.Confirm n w d) = refl
led_is s from (message.Change n w c) = refl
led_is s from (message.Done n e) = refl

-- its slot is below the open one
pub is_old : (k : KeptReplica) (s : Sight) (from : ℕ) (m : OrderMessage) → Mirrors k s → slot_of_message m < next_slot k.log → Answers k s from m Old
is_old k s from m p below = rw (lt-ltb (slot_of_message m) (open_slot s) (let e = next_is k s p in let less = below in omega arith)) (refl, p)

-- it isn't, and the slot is too far above
pub is_far : (k : KeptReplica) (s : Sight) (from : ℕ) (m : OrderMessage) → Mirrors k s → next_slot k.log + SLOTS_AHEAD < slot_of_message m → Answers k s from m Far
is_far k s from m p far =
    let not_old = le-ltb (slot_of_message m) (open_slot s) (let e = next_is k s p in let more = far in omega arith) in
    let too_far = lt-ltb (open_slot s + SLOTS_AHEAD) (slot_of_message m) (let e = next_is k s p in let more = far in omega arith) in
    rw (not_old, too_far) (refl, p)

pub is_unled : (k : KeptReplica) (s : Sight) (from : ℕ) (m : OrderMessage) → Mirrors k s → next_slot k.log ≤ slot_of_message m → slot_of_message m ≤ next_slot k.log + SLOTS_AHEAD → led k.f from m ≡ false → Answers k s from m Leader
is_unled k s from m p low high other =
    let not_old = le-ltb (slot_of_message m) (open_slot s) (let e = next_is k s p in let a = low in omega arith) in
    let not_far = le-ltb (open_slot s + SLOTS_AHEAD) (slot_of_message m) (let e = next_is k s p in let a = high in omega arith) in
    let unled : is_led s from m ≡ false = led_is s from m ∙ ap (λ f. led f from m) (sym p.f) ∙ other in
    rw (not_old, not_far, unled) (refl, p)

taken_by : (k new : KeptReplica) (s : Sight) (from : ℕ) (m : OrderMessage) (fresh repeat : Bool) → took (is_like m) s.taken from ≡ repeat → nat_lt (slot_of_message m) (open_slot s) ≡ false → nat_lt (open_slot s + SLOTS_AHEAD) (slot_of_message m) ≡ false → is_led s from m ≡ true → fresh ≡ not repeat → Mirrors new (if_fresh fresh s from m) → Answers new s from m (if fresh then Taken else Repeat)
taken_by k new s from m true true again not_old not_far leads fresh q = absurd (let e = fresh in cc)
taken_by k new s from m true false again not_old not_far leads fresh q = rw (not_old, not_far, leads, again) (refl, q)
taken_by k new s from m false true again not_old not_far leads fresh q = rw (not_old, not_far, leads, again) (refl, q)
taken_by k new s from m false false again not_old not_far leads fresh q = absurd (let e = fresh in cc)

pub is_taken : (k new : KeptReplica) (s : Sight) (from : ℕ) (m : OrderMessage) (fresh : Bool) → Mirrors k s → next_slot k.log ≤ slot_of_message m → slot_of_message m ≤ next_slot k.log + SLOTS_AHEAD → led k.f from m ≡ true → (fresh ≡ not (took (is_like m) s.taken from)) × Mirrors new (if_fresh fresh s from m) → Answers new s from m (if fresh then Taken else Repeat)
is_taken k new s from m fresh p low high leads made =
    let not_old = le-ltb (slot_of_message m) (open_slot s) (let e = next_is k s p in let a = low in omega arith) in
    let not_far = le-ltb (open_slot s + SLOTS_AHEAD) (slot_of_message m) (let e = next_is k s p in let a = high in omega arith) in
    let is_leader : is_led s from m ≡ true = led_is s from m ∙ ap (λ f. led f from m) (sym p.f) ∙ leads in
    taken_by k new s from m fresh (took (is_like m) s.taken from) refl not_old not_far is_leader made.0 made.1
