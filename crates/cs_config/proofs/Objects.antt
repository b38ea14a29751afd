-- Which object bytes encode, and that they encode none.
use Rattle.std.specs.Prelude.{◌≡◌, ◌≢◌, List, ℕ, Option, Some, None}
use Rattle.std.proofs.Common.{◌∙◌, ap, refl}
use Rattle.cs_base.specs.Fields.{IsBytes, whole_at}
use Rattle.cs_base.proofs.Forms.{whole-takes, whole-again}
use Rattle.cs_tx_value.specs.declared.object.Object.{Object}
use Rattle.cs_tx_value.specs.Object.{object_encoding, ObjectFits, object_at}
use Rattle.cs_tx_value.specs.laws.Object.{object_form}

pub object_found : (bytes : List ℕ) (object : Object) → ObjectFits object → bytes ≡ object_encoding object → whole_at object_at bytes ≡ Some object
object_found bytes object fits is = ap (λ text. whole_at object_at text) is ∙ whole-again object_encoding ObjectFits object_at object_form object fits

pub object_missing : (bytes : List ℕ) → IsBytes bytes → ((object : Object) → ObjectFits object → bytes ≢ object_encoding object) → whole_at object_at bytes ≡ None
object_missing bytes fits none = by (whole_at object_at bytes) refl
  where
    by : (found : Option Object) → whole_at object_at bytes ≡ found → whole_at object_at bytes ≡ None
    by None is = is
    by (Some object) is = let (object_fits, same) = whole-takes object_encoding ObjectFits object_at object_form bytes object fits is in absurd (none object object_fits same)
