-- The law of the form of types of several kinds, from what each kind takes and what each value spells.
use Rattle.std.proofs.Common.{◌≡◌, ℕ, ◌<◌, ◌++◌, List, [], ◌∷◌, Some, refl, ap, subst, ◌∙◌}
use Rattle.std.specs.Int.{w8}
use Rattle.cs_base.specs.Fields.{IsBytes, Found, ◌>>=◌, ◌<$>◌, number_at, Splits, IsForm}
use Rattle.cs_base.proofs.Forms.{byte_form, bind_some, map_some, some_is}
use Rattle.cs_tx_value.specs.Kinds.{kinds_at}

-- a value's kind and the rest of its encoding, by which it is found again
pub record Kinded {X : Type 0} (write : X → List ℕ) (kind_at : ℕ → List ℕ → Found X) (x : X) (rest : List ℕ) : Type 0 where
  pub kind : ℕ
  pub text : List ℕ
  pub spelled : write x ≡ kind ∷ text
  pub small : kind < 256
  pub found : kind_at kind (text ++ rest) ≡ Some (x, rest)

module _ {X : Type 0} (write : X → List ℕ) (Fits : X → Type 0) (kind_at : ℕ → List ℕ → Found X) where
  -- The form, from what each kind takes and what each value spells.
  pub kinds_form : ((kind : ℕ) (bytes : List ℕ) (x : X) (rest : List ℕ) → IsBytes bytes → kind_at kind bytes ≡ Some (x, rest) → Splits (kind ∷ bytes) (write x) rest × Fits x)
      → ((x : X) (rest : List ℕ) → Fits x → Kinded write kind_at x rest) → IsForm write Fits (kinds_at kind_at)
  unfolding kinds_at
  kinds_form takes again = record {
    takes = λ bytes x rest fits e.
        let a = bind_some (number_at w8 bytes) (λ kind. kind_at kind.0 kind.1) (x, rest) e in
        let first = byte_form.takes bytes a.0.0 a.0.1 fits a.1 in
        let t = takes a.0.0 a.0.1 x rest first.0.rest_fits a.2 in
        (record { parts = first.0.parts ∙ t.0.parts; rest_fits = t.0.rest_fits }, t.1);
    again = λ x rest fits.
        let k = again x rest fits in
        let spelled : write x ++ rest ≡ k.kind ∷ (k.text ++ rest) = ap (λ (t : List ℕ). t ++ rest) k.spelled in
        let first : kinds_at kind_at (k.kind ∷ (k.text ++ rest)) ≡ kind_at k.kind (k.text ++ rest) =
        ap (λ (r : Found ℕ). r >>= λ kind. kind_at kind.0 kind.1) (byte_form.again k.kind (k.text ++ rest) k.small) in
        ap (kinds_at kind_at) spelled ∙ first ∙ k.found;
  }

  -- a kind that holds a part
  pub takes_part : {P : Type 0} {part : P → List ℕ} {PartFits : P → Type 0} {part_at : List ℕ → Found P}
      → IsForm part PartFits part_at → (make : P → X) (kind : ℕ)
      → ((p : P) → write (make p) ≡ kind ∷ part p) → ((p : P) → PartFits p → Fits (make p))
      → (bytes : List ℕ) (x : X) (rest : List ℕ) → IsBytes bytes → (make <$> part_at bytes) ≡ Some (x, rest)
      → Splits (kind ∷ bytes) (write x) rest × Fits x
  takes_part {P} {part = part} {PartFits = PartFits} {part_at = part_at} form make kind spelled fit bytes x rest fits e =
      let a = map_some make (part_at bytes) (x, rest) e in
      let t = form.takes bytes a.0.0 a.0.1 fits a.1 in
      subst (λ (found : X × List ℕ). Splits (kind ∷ bytes) (write found.0) found.1 × Fits found.0) a.2
      (rw (spelled a.0.0) (record { parts = ap (λ (r : List ℕ). kind ∷ r) t.0.parts; rest_fits = t.0.rest_fits }), fit a.0.0 t.1)

  pub part_kinded : {P : Type 0} {part : P → List ℕ} {PartFits : P → Type 0} {part_at : List ℕ → Found P}
      → IsForm part PartFits part_at → (make : P → X) (kind : ℕ) → kind < 256
      → ((p : P) → write (make p) ≡ kind ∷ part p) → ((bytes : List ℕ) → kind_at kind bytes ≡ (make <$> part_at bytes))
      → (p : P) (rest : List ℕ) → PartFits p → Kinded write kind_at (make p) rest
  part_kinded {P} {part = part} {part_at = part_at} form make kind small spelled opens p rest fits = record {
    kind = kind;
    text = part p;
    spelled = spelled p;
    small = small;
    found = opens (part p ++ rest) ∙ ap (λ (found : Found P). make <$> found) (form.again p rest fits);
  }

  -- a kind that holds nothing
  pub takes_bare : (bare : X) (kind : ℕ) → write bare ≡ kind ∷ [] → Fits bare
      → (bytes : List ℕ) (x : X) (rest : List ℕ) → IsBytes bytes
      → ◌≡◌ {A = Found X} (Some (bare, bytes)) (Some (x, rest)) → Splits (kind ∷ bytes) (write x) rest × Fits x
  takes_bare bare kind spelled fit bytes x rest fits e =
      let both : ◌≡◌ {A = X × List ℕ} (bare, bytes) (x, rest) = some_is (bare, bytes) (x, rest) e in
      subst (λ (found : X × List ℕ). Splits (kind ∷ bytes) (write found.0) found.1 × Fits found.0) both
      (rw spelled (record { parts = refl; rest_fits = fits }), fit)

  pub bare_kinded : (bare : X) (kind : ℕ) → kind < 256 → write bare ≡ kind ∷ []
      → ((bytes : List ℕ) → kind_at kind bytes ≡ Some (bare, bytes))
      → (rest : List ℕ) → Kinded write kind_at bare rest
  bare_kinded bare kind small spelled opens rest =
      record { kind = kind; text = []; spelled = spelled; small = small; found = opens rest }
