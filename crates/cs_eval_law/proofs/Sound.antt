-- What a run gives has a property, and it traps at no value of a wrong kind.
use Rattle.std.proofs.Common.{◌≡◌, ◌≢◌, ℕ, Bool, true, false, cond, Option, None, Some, List, [], ◌∷◌, refl, sym, ap, ◌∙◌, subst}
use Rattle.cs_eval_values.specs.declared.stop.Cause.{Cause}
use Rattle.cs_eval_values.specs.declared.stop.Cause.TheVariants as cause
use Rattle.cs_eval_values.specs.Runs.{Run, Gave, Answered, Trapped, gives, traps, spend, ◌>>=◌, or_trap}

abbrev pub Sound : {X : Type 0} → (X → Type 0) → Run X → Type 0
Sound P (Gave x n) = P x
Sound P (Answered b n) = Unit {0}
Sound P (Trapped why place n) = why ≢ cause.Misfit

pub sound_spend : {X : Type 0} (P : X → Type 0) (n : ℕ) (r : Run X) → Sound P r → Sound P (spend n r)
sound_spend P n (Gave x m) h = h
sound_spend P n (Answered b m) h = tt
sound_spend P n (Trapped why place m) h = h

pub sound_bind : {A B : Type 0} (P : A → Type 0) (Q : B → Type 0) (r : Run A) (f : A → Run B) → Sound P r → ((x : A) → P x → Sound Q (f x)) → Sound Q (r >>= f)
sound_bind P Q (Gave x n) f h g = sound_spend Q n (f x) (g x h)
sound_bind P Q (Answered b n) f h g = tt
sound_bind P Q (Trapped why place n) f h g = h

-- where there is something, nothing traps
pub sound_there : {A B : Type 0} (Q : B → Type 0) (why : Cause) (place : ℕ) (o : Option A) (x : A) (f : A → Run B) → o ≡ Some x → Sound Q (f x) → Sound Q (or_trap why place o >>= f)
sound_there Q why place o x f is h =
    let P : Option _ → Type 0 = λ p. Sound Q (or_trap why place p >>= f) in
    subst P (sym is) (sound_spend Q 0 (f x) h)

-- it may trap for another cause
pub sound_other : {A : Type 0} (P : A → Type 0) (why : Cause) (place : ℕ) (o : Option A) → why ≢ cause.Misfit → ((x : A) → o ≡ Some x → P x) → Sound P (or_trap why place o)
sound_other P why place None other h = other
sound_other P why place (Some x) other h = h x refl

pub sound_cond : {A : Type 0} (P : A → Type 0) (b : Bool) (r s : Run A) → Sound P r → Sound P s → Sound P (cond b r s)
sound_cond P true r s one other = one
sound_cond P false r s one other = other
