-- The greatest number above another that passes a test.
use Rattle.std.proofs.Common.{◌≡◌, ℕ, zero, suc, ◌+◌, ◌≤◌, ◌<◌, nat_lt, Bool, true, false, ◌&&◌, if◌then◌else◌, Option, Some, None, refl, sym, ap, ◌∙◌, lt-ltb, le-ltb, arith}
use Rattle.std.proofs.lemmas.Bool.Decides.{nat_tests}
use Rattle.cs_order.specs.Counts.{last_below}
use Rattle.cs_order.specs.Limits.{view_bound}
use Rattle.cs_change.specs.Kept.{is_joined}
use Rattle.cs_order_open.specs.Shows.{KeptOpenSlot}
use Rattle.cs_order_open.specs.Look.{look_of, entering_by}

-- the number, if it is above
abbrev pub if_above : ℕ → Option ℕ → Option ℕ
if_above least None = None
if_above least (Some n) = if nat_lt least n then Some n else None

-- there is none above, where the search goes no further than that
none_above : (n least : ℕ) (test : ℕ → Bool) → n ≤ least + 1 → last_below n (λ v. nat_lt least v && test v) ≡ None
unfolding last_below
none_above zero least test few = refl
none_above (suc n) least test few = rw (not_above, none_above n least test (omega arith)) refl
  where
    not_above : nat_lt least n ≡ false
    not_above = grind (arith, nat_tests)

upto : (k m : ℕ) → nat_lt k m ≡ false → m ≤ k + 1
upto k m fails = grind (arith, nat_tests)

pub last_above : (n least : ℕ) (test : ℕ → Bool) → last_below n (λ v. nat_lt least v && test v) ≡ if_above least (last_below n test)
unfolding last_below
last_above zero least test = refl
last_above (suc n) least test = by (nat_lt least n) (test n) refl refl (last_above n least test)
  where
    by : (above passes : Bool) → nat_lt least n ≡ above → test n ≡ passes → last_below n (λ v. nat_lt least v && test v) ≡ if_above least (last_below n test) → (if above && passes then Some n else last_below n (λ v. nat_lt least v && test v)) ≡ if_above least (if passes then Some n else last_below n test)
    by true true above passes rest = rw above refl
    by true false above passes rest = rest
    by false true above passes rest = none_above n least test (upto least n above) ∙ rw above refl
    by false false above passes rest = rest

-- The view that is entered is the greatest that f+1 members have reached, where that is later.
abbrev last_of : KeptOpenSlot → Option ℕ
last_of k = last_below view_bound (is_joined k.changes.f k.changes.furthest)

entering_is : (k : KeptOpenSlot) → entering_by (look_of k) ≡ if_above k.slot.view (last_of k)
entering_is k = last_above view_bound k.slot.view (is_joined k.changes.f k.changes.furthest)

pub entered : (k : KeptOpenSlot) (view : ℕ) → Some view ≡ last_below view_bound (is_joined k.changes.f k.changes.furthest) → k.slot.view < view → Some view ≡ entering_by (look_of k)
entered k view last above = sym (entering_is k ∙ ap (if_above k.slot.view) (sym last) ∙ rw (lt-ltb k.slot.view view above) refl)

pub stays : (k : KeptOpenSlot) (view : ℕ) → Some view ≡ last_below view_bound (is_joined k.changes.f k.changes.furthest) → view ≤ k.slot.view → None ≡ entering_by (look_of k)
stays k view last upto = sym (entering_is k ∙ ap (if_above k.slot.view) (sym last) ∙ rw (le-ltb k.slot.view view upto) refl)

pub none_reached : (k : KeptOpenSlot) → None ≡ last_below view_bound (is_joined k.changes.f k.changes.furthest) → None ≡ entering_by (look_of k)
none_reached k none = sym (entering_is k ∙ ap (if_above k.slot.view) (sym none))
