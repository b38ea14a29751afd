-- What a reading of all of the bytes says of encodings.
use Rattle.std.proofs.Common.{◌≡◌, ℕ, List, length, Some, Result, Ok, Err, refl, sym, ap, subst, ◌∙◌}
use Rattle.std.specs.Prelude.{IfOk, IsOk}
use Rattle.cs_base.specs.Fields.{IsBytes, Found, IsForm, whole_at, behind}
use Rattle.cs_base.proofs.Many.{behind_some}
use Rattle.cs_base.proofs.Forms.{whole-takes, whole-again, some_is}
use Rattle.cs_tx_value.specs.declared.form.FormError.{FormError}
use Rattle.cs_tx_value.specs.declared.form.FormError.TheVariants as errors
use Rattle.cs_tx_value.specs.Reading.{GivesAll, PassesAll, AnswersValue}

whole_of : {X : Type 0} (read : List ℕ → Found X) (bytes rest : List ℕ) (x : X) → read bytes ≡ Some (x, rest) → length rest ≡ 0 → whole_at read bytes ≡ Some x
whole_of read bytes rest x found none = rw (found, none) refl

pub passes_whole : {X : Type 0} (read : List ℕ → Found X) (bytes cursor rest : List ℕ) → cursor ≡ bytes → behind (read cursor) ≡ Some rest → length rest ≡ 0 → (x : X) × (whole_at read bytes ≡ Some x)
passes_whole {X} read bytes cursor rest is passed none =
    let x = behind_some (read cursor) rest passed in
    let found : whole_at read cursor ≡ Some x.0 = whole_of read cursor rest x.0 x.1 none in
    (x.0, subst (λ (b : List ℕ). whole_at read b ≡ Some x.0) is found)

module _ {X : Type 0} (write : X → List ℕ) (Fits : X → Type 0) (read : List ℕ → Found X) (form : IsForm write Fits read) (bytes : List ℕ) where
  pub is_found : (r : Result X FormError) → IsBytes bytes → GivesAll r (whole_at read bytes) → IfOk r (λ v. Fits v × (bytes ≡ write v))
  is_found (Ok v) fits given = whole-takes write Fits read form bytes v fits given
  is_found (Err e) fits given = tt

  again_from : (v : X) → Fits v → bytes ≡ write v → whole_at read bytes ≡ Some v
  again_from v fits e = ap (whole_at read) e ∙ whole-again write Fits read form v fits

  pub is_only : (r : Result X FormError) → GivesAll r (whole_at read bytes) → (v : X) → Fits v → bytes ≡ write v → AnswersValue r v
  is_only (Ok x) given v fits e = some_is x v (sym given ∙ again_from v fits e)
  is_only (Err errors.Memory) given v fits e = refl
  is_only (Err errors.BadForm) given v fits e = let h = again_from v fits e in absurd cc
  is_only (Err errors.TooLong) given v fits e = absurd given

  pub is_there : (r : Result Unit FormError) → IsBytes bytes → PassesAll r (whole_at read bytes) → IfOk r (λ _. (v : X) × Fits v × (bytes ≡ write v))
  is_there (Ok done) fits given = let h = whole-takes write Fits read form bytes given.0 fits given.1 in (given.0, h.0, h.1)
  is_there (Err e) fits given = tt

  pub is_let_through : (r : Result Unit FormError) → PassesAll r (whole_at read bytes) → (v : X) → Fits v → bytes ≡ write v → IsOk r
  is_let_through (Ok done) given v fits e = refl
  is_let_through (Err d) given v fits e = let h = again_from v fits e in let n = given.1 in absurd cc
