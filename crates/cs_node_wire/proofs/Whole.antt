-- What a decoding of all of the bytes says of what stands there.
use Rattle.std.proofs.Common.{◌≡◌, ℕ, List, Option, Some, None, refl, sym, ap, ◌∙◌, arith}
use Rattle.cs_base.specs.declared.version.Version.{Version}
use Rattle.cs_base.specs.declared.version.Version.TheVariants.{One, Two}
use Rattle.cs_base.specs.Version.{IsVersion, number_of, version_of}
use Rattle.cs_base.specs.Fields.{IsBytes, Found, IsForm, whole_at}
use Rattle.cs_base.proofs.Forms.{whole-takes, whole-again}
use Rattle.cs_tx_value.specs.declared.form.FormError.{FormError}
use Rattle.cs_tx_value.specs.declared.form.FormError.TheVariants as errors

module _ {X : Type 0} (write : X → List ℕ) (Fits : X → Type 0) (read : List ℕ → Found X) (form : IsForm write Fits read) (bytes : List ℕ) where
  -- what was answered stands there
  pub answered : (v : X) → Fits v × (bytes ≡ write v) → Some v ≡ whole_at read bytes
  answered v found = sym (ap (whole_at read) found.1 ∙ whole-again write Fits read form v found.0)

  -- where another error than want of memory was answered nothing stands there
  pub nothing-there : (e : FormError) → IsBytes bytes → ((v : X) → Fits v → bytes ≡ write v → e ≡ errors.Memory) → (e ≡ errors.Memory → ⊥) → None ≡ whole_at read bytes
  nothing-there e fits only other = by_found (whole_at read bytes) refl
    where
      by_found : (found : Option X) → whole_at read bytes ≡ found → None ≡ found
      by_found None is = refl
      by_found (Some v) is = let h = whole-takes write Fits read form bytes v fits is in absurd (other (only v h.0 h.1))

-- a version is that of its number
pub numbered : (version : Version) (number : ℕ) → number ≡ number_of version → version_of number ≡ version
numbered version number is = ap version_of is ∙ again version
  where
    again : (v : Version) → version_of (number_of v) ≡ v
    again One = refl
    again Two = refl

pub is_numbered : (version : Version) (number : ℕ) → number ≡ number_of version → IsVersion number
is_numbered One number is = (omega (arith, is), omega (arith, is))
is_numbered Two number is = (omega (arith, is), omega (arith, is))
