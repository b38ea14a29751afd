-- What an object of the outside tells, through one call after the other.
use Rattle.std.proofs.Common.{Option, Some, None, refl, sym, subst, ◌∙◌}
use Rattle.cs_io.specs.Told.{Changes, Stays}

pub stays-same : {A : Type 0} (a : Option A) → Stays a a
stays-same None = tt
stays-same (Some x) = refl

pub stays-both : {A : Type 0} (a b c : Option A) → Stays a b → Stays b c → Stays a c
stays-both None b c p q = tt
stays-both (Some x) None c p q = absurd p
stays-both (Some x) (Some y) None p q = absurd q
stays-both (Some x) (Some y) (Some z) p q = q ∙ p

pub changes-after : {A : Type 0} (Step : A → A → Type 0) (a b c : Option A) → Stays a b → Changes Step b c → Changes Step a c
changes-after Step None b c p q = tt
changes-after Step (Some x) None c p q = absurd p
changes-after Step (Some x) (Some y) None p q = absurd q
changes-after {A} Step (Some x) (Some y) (Some z) p q = subst (λ (w : A). Step w z) p q

pub changes-before : {A : Type 0} (Step : A → A → Type 0) (a b c : Option A) → Changes Step a b → Stays b c → Changes Step a c
changes-before Step None b c p q = tt
changes-before Step (Some x) None c p q = absurd p
changes-before Step (Some x) (Some y) None p q = absurd q
changes-before {A} Step (Some x) (Some y) (Some z) p q = subst (λ (w : A). Step x w) (sym q) p
