-- Loops over the elements of a list.
use Rattle.std.proofs.Common.{◌≡◌, ℕ, suc, ◌+◌, ◌<◌, ◌≤◌, Bool, true, false, cond, List, ◌∷◌, length, drop, get_or, Option, Some, None, Err, sym, ap, ◌∙◌, add-one}
use Rattle.std.proofs.Math.Seq.{drop-cons}
use Rattle.std.proofs.lemmas.List.{drop_all}
use Rattle.cs_lang_token.specs.declared.token.Text.{Text}
use Rattle.cs_lang.specs.declared.tree.Field.{Field}
use Rattle.cs_types_kinds.specs.declared.fault.TypeError.TheVariants as error
use Rattle.cs_types_kinds.specs.declared.kind.Kind.{Kind}
use Rattle.cs_types_kinds.specs.declared.scope.Seen.{Seen}
use Rattle.cs_types_kinds.specs.declared.scope.Entry.{Entry}
use Rattle.cs_types_kinds.specs.Told.{Told}
use Rattle.cs_types_kinds.specs.Scopes.{first_seen}
use Rattle.cs_types_kinds.specs.Lookups.{is_named_field, named_field, declared_kind}

pub opened : {X : Type 0} (xs : List X) (i : ℕ) (x : X) → i < length xs → x ≡ get_or xs i x → drop i xs ≡ x ∷ drop (i + 1) xs
opened xs i x lt is = rw add-one (drop-cons xs i x lt ∙ ap (λ (y : _). y ∷ drop (suc i) xs) (sym is))

-- ---- the first name that passes

module _ (test : Entry → Bool) where
  seen_next : (es : List Entry) (i : ℕ) (e : Entry) (t : Option Seen) → i < length es → e ≡ get_or es i e → first_seen test (drop i es) ≡ t → cond (test e) (Some e.seen) (first_seen test (drop (i + 1) es)) ≡ t
  seen_next es i e t lt is h = sym (ap (first_seen test) (opened es i e lt is)) ∙ h

  pub seen_found : (es : List Entry) (i : ℕ) (e : Entry) (t : Option Seen) → i < length es → e ≡ get_or es i e → test e ≡ true → first_seen test (drop i es) ≡ t → Some e.seen ≡ t
  seen_found es i e t lt is pass h = sym (ap (λ (b : Bool). cond b (Some e.seen) (first_seen test (drop (i + 1) es))) pass) ∙ seen_next es i e t lt is h

  pub seen_step : (es : List Entry) (i : ℕ) (e : Entry) (t : Option Seen) → i < length es → e ≡ get_or es i e → test e ≡ false → first_seen test (drop i es) ≡ t → first_seen test (drop (i + 1) es) ≡ t
  seen_step es i e t lt is pass h = sym (ap (λ (b : Bool). cond b (Some e.seen) (first_seen test (drop (i + 1) es))) pass) ∙ seen_next es i e t lt is h

  pub seen_none : (es : List Entry) (i : ℕ) (t : Option Seen) → length es ≤ i → first_seen test (drop i es) ≡ t → None ≡ t
  seen_none es i t le h = sym (ap (first_seen test) (drop_all i es le)) ∙ h

-- ---- the field of a name

module _ (name : Text) where
  field_next : (fs : List Field) (i : ℕ) (f : Field) (t : Told Kind) → i < length fs → f ≡ get_or fs i f → named_field name (drop i fs) ≡ t
      → cond (is_named_field name f) (declared_kind name.place f.kind) (named_field name (drop (i + 1) fs)) ≡ t
  field_next fs i f t lt is h = sym (ap (named_field name) (opened fs i f lt is)) ∙ h

  pub field_none : (fs : List Field) (i : ℕ) (t : Told Kind) → length fs ≤ i → named_field name (drop i fs) ≡ t → Err (error.Unbound name.place) ≡ t
  field_none fs i t le h = sym (ap (named_field name) (drop_all i fs le)) ∙ h

  pub field_found : (fs : List Field) (i : ℕ) (f : Field) (t : Told Kind) → i < length fs → f ≡ get_or fs i f → is_named_field name f ≡ true → named_field name (drop i fs) ≡ t → declared_kind name.place f.kind ≡ t
  field_found fs i f t lt is pass h = sym (ap (λ (b : Bool). cond b (declared_kind name.place f.kind) (named_field name (drop (i + 1) fs))) pass) ∙ field_next fs i f t lt is h

  pub field_step : (fs : List Field) (i : ℕ) (f : Field) (t : Told Kind) → i < length fs → f ≡ get_or fs i f → is_named_field name f ≡ false → named_field name (drop i fs) ≡ t → named_field name (drop (i + 1) fs) ≡ t
  field_step fs i f t lt is pass h = sym (ap (λ (b : Bool). cond b (declared_kind name.place f.kind) (named_field name (drop (i + 1) fs))) pass) ∙ field_next fs i f t lt is h
