-- Fields and values of which there aren't as many.
use Rattle.std.proofs.Common.{◌≡◌, ◌≢◌, ℕ, Bool, true, false, List, [], ◌∷◌, length, Option, Some, None, refl, ap, ◌∙◌, arith}
use Rattle.std.specs.Prelude.{◌&&◌}
use Rattle.cs_base.specs.Fields.{◌>>=◌}
use Rattle.cs_lang.specs.declared.tree.Field.{Field}
use Rattle.cs_tx_value.specs.declared.value.Value.{Value}
use Rattle.cs_types_kinds.specs.Kinds.{spelled_kind}
use Rattle.cs_eval_values.specs.Namings.{Named}
use Rattle.cs_eval_values.specs.Filling.{has_kind, values_fit, field_filled, fields_filled}

and_false : (b : Bool) → (b && false) ≡ false
and_false true = refl
and_false false = refl

pub uneven_values : (fs : List Field) (vs : List Value) → length fs ≢ length vs → values_fit fs vs ≡ false
uneven_values [] [] ne = absurd (ne refl)
uneven_values [] (v ∷ vs) ne = refl
uneven_values (f ∷ fs) [] ne = refl
uneven_values (f ∷ fs) (v ∷ vs) ne =
    ap (λ (b : Bool). has_kind (spelled_kind f.kind) v && b) (uneven_values fs vs (λ e. ne (omega (arith, e))))
    ∙ and_false (has_kind (spelled_kind f.kind) v)

bind_none : {A B : Type 0} (o : Option A) (f : A → Option B) → ((x : A) → f x ≡ None) → (o >>= f) ≡ None
bind_none None f none = refl
bind_none (Some x) f none = none x

pub uneven_fields : (fs : List Field) (vs : List Value) (names : List Named) → length vs ≢ length fs → fields_filled fs vs names ≡ None
uneven_fields [] [] names ne = absurd (ne refl)
uneven_fields [] (v ∷ vs) names ne = refl
uneven_fields (f ∷ fs) [] names ne = refl
uneven_fields (f ∷ fs) (v ∷ vs) names ne =
    bind_none (field_filled f v names) (fields_filled fs vs) (λ more. uneven_fields fs vs more (λ e. ne (omega (arith, e))))
