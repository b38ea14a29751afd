-- What is known of a step that gave something.
use Rattle.std.specs.Prelude.{◌≡◌, ◌⊎◌, Bool, true, false, Option, Some, None, Result, Ok, Err, if◌then◌else◌}
use Rattle.std.specs.Option.{ok_or}
use Rattle.std.proofs.Common.{refl, inl, inr}
use Rattle.cs_text.specs.Values.{◌>>=◌}
use Rattle.cs_text.specs.declared.cause.Cause.{Cause}

module _ {A B : Type 0} where
  pub step_ok : (first : Result A Cause) (next : A → Result B Cause) (b : B) → (first >>= next) ≡ Ok b → (a : A) × (first ≡ Ok a) × (next a ≡ Ok b)
  step_ok (Ok a) next b is = (a, refl, is)
  step_ok (Err cause) next b is = absurd cc

  -- a change of what a step gave
  pub change_ok : (first : Result A Cause) (change : A → B) (b : B) → (first >>= (λ a. Ok (change a))) ≡ Ok b → (a : A) × (first ≡ Ok a) × (change a ≡ b)
  change_ok (Ok a) change b is = (a, refl, cc)
  change_ok (Err cause) change b is = absurd cc

pub ok_same : {B E : Type 0} (a b : B) → ◌≡◌ {A = Result B E} (Ok a) (Ok b) → a ≡ b
ok_same a b is = cc

pub when_ok : {B E : Type 0} (test : Bool) (step : Result B E) (cause : E) (b : B) → (if test then step else Err cause) ≡ Ok b → (test ≡ true) × (step ≡ Ok b)
when_ok true step cause b is = (refl, is)
when_ok false step cause b is = absurd cc

pub unless_ok : {B E : Type 0} (test : Bool) (step : Result B E) (cause : E) (b : B) → (if test then Err cause else step) ≡ Ok b → (test ≡ false) × (step ≡ Ok b)
unless_ok true step cause b is = absurd cc
unless_ok false step cause b is = (refl, is)

pub either_ok : {B E : Type 0} (test : Bool) (one other : Result B E) (b : B) → (if test then one else other) ≡ Ok b → (one ≡ Ok b) ⊎ (other ≡ Ok b)
either_ok true one other b is = inl is
either_ok false one other b is = inr is

pub some_ok : {B : Type 0} (found : Option B) (cause : Cause) (b : B) → ok_or found cause ≡ Ok b → found ≡ Some b
some_ok (Some x) cause b is = cc
some_ok None cause b is = absurd cc
