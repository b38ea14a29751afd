-- What is told where a part is at fault.
use Rattle.std.proofs.Common.{◌≡◌, Err, sym, ap, ◌∙◌}
use Rattle.cs_lang_token.specs.Grammar.{◌>>=◌}
use Rattle.cs_types_kinds.specs.declared.fault.TypeError.{TypeError}
use Rattle.cs_types_kinds.specs.declared.fault.TypeError.TheVariants as error
use Rattle.cs_types_kinds.specs.Told.{Told}
use Rattle.cs_types.specs.Answers.{Fails}

pub fails_told : {A : Type 0} (e : TypeError) (t : Told A) → t ≡ Err e → Fails e t
fails_told error.Memory t h = tt
fails_told (error.Mistyped place) t h = h
fails_told (error.Unbound place) t h = h
fails_told (error.Cost n) t h = h

-- a failure of the first of two steps is one of both
pub fails_first : {A B : Type 0} (e : TypeError) (r : Told A) (f : A → Told B) → Fails e r → Fails e (r >>= f)
fails_first error.Memory r f h = tt
fails_first (error.Mistyped place) r f h = ap (λ (x : _). x >>= f) h
fails_first (error.Unbound place) r f h = ap (λ (x : _). x >>= f) h
fails_first (error.Cost n) r f h = ap (λ (x : _). x >>= f) h

pub fails_as : {A : Type 0} (e : TypeError) (r t : Told A) → r ≡ t → Fails e r → Fails e t
fails_as error.Memory r t is h = tt
fails_as (error.Mistyped place) r t is h = sym is ∙ h
fails_as (error.Unbound place) r t is h = sym is ∙ h
fails_as (error.Cost n) r t is h = sym is ∙ h

pub ruleset fails = (fails_told, fails_first, fails_as)
