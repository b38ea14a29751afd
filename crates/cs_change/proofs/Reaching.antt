-- Which views f+1 members have reached, after one more change.
use Rattle.std.proofs.Common.{◌≡◌, ℕ, ◌+◌, ◌-◌, ◌*◌, ◌≤◌, ◌<◌, ◌==◌, nat_lt, nat_le, Bool, true, false, ◌&&◌, ◌||◌, [], Option, inl, inr, refl, sym, ap, ◌∙◌, arith}
use Rattle.std.proofs.lemmas.Bool.Decides.{leb_tells, nat_tests}
use Rattle.std.specs.Prelude.{SomeIff}
use Rattle.cs_order.specs.Counts.{last_below}
use Rattle.cs_order.specs.Limits.{view_bound}
use Rattle.cs_change.specs.Kept.{Furthest, reaches, is_joined, EndsAt}
use Rattle.cs_change.proofs.Counting.{enough_more, falls_back, count_zero}
use Rattle.cs_change.proofs.Splits.{splits}
use Rattle.cs_change.proofs.Adding.{reaches_less}

pub joined_less : (f : ℕ) (furthest : Furthest) (v w : ℕ) → v ≤ w → is_joined f furthest w ≡ true → is_joined f furthest v ≡ true
joined_less f furthest v w less is = enough_more (f + 1) (3 * f + 1) (reaches furthest w) (reaches furthest v) (λ m. reaches_less furthest v w m less) is

or_true : (a b : Bool) → b ≡ true → (a || b) ≡ true
or_true true b h = refl
or_true false b h = h

pub joined_more : (f : ℕ) (furthest new : Furthest) (view member v : ℕ) → ((v m : ℕ) → reaches new v m ≡ (((member == m) && nat_le v view) || reaches furthest v m)) → is_joined f furthest v ≡ true → is_joined f new v ≡ true
joined_more f furthest new view member v added is = enough_more (f + 1) (3 * f + 1) (reaches furthest v) (reaches new v) (λ m had. added v m ∙ or_true ((member == m) && nat_le v view) (reaches furthest v m) had) is

pub none_joined : (f : ℕ) (furthest : Furthest) → furthest ≡ [] → EndsAt f furthest 0
none_joined f furthest none = (
  (omega arith),
  λ v less. absurd (omega arith),
  λ v late few.
      let zero : ◌≡◌ {A = ℕ} _ 0 = count_zero (3 * f + 1) (reaches furthest v) (λ m. rw none refl) in
      ap (nat_le (f + 1)) zero ∙ too_many f,
)
  where
    too_many : (n : ℕ) → nat_le (n + 1) 0 ≡ false
    too_many n = grind (arith, nat_tests)

pub ends_later : (f : ℕ) (furthest new : Furthest) (view member end now : ℕ) → ((v m : ℕ) → reaches new v m ≡ (((member == m) && nat_le v view) || reaches furthest v m)) → EndsAt f furthest end → now ≤ view_bound → ((v : ℕ) → end ≤ v → v < now → is_joined f new v ≡ true) → (now < view_bound → is_joined f new now ≡ false) → EndsAt f new now
ends_later f furthest new view member end now added ends few joined stops = (
  few,
  λ v less.
      elim (leb_tells end v) [
        | inl after ↦ joined v after.1 less
        | inr before ↦ joined_more f furthest new view member v added (ends.1 v before.1)
      ],
  λ v late small. falls_back (is_joined f new v) (is_joined f new now) (joined_less f new now v late) (stops (omega arith)),
)

pub last_of_end : (f : ℕ) (furthest : Furthest) (end : ℕ) (o : Option ℕ) → EndsAt f furthest end → SomeIff o (1 ≤ end) (end - 1) → o ≡ last_below view_bound (is_joined f furthest)
last_of_end f furthest end o ends is = splits view_bound end (is_joined f furthest) o ends.0 ends.1 ends.2 is
