-- Which object bytes encode, and that they encode none.
use Rattle.std.specs.Prelude.{◌≡◌, ◌≢◌, List, ℕ, Option, Some, None}
use Rattle.std.proofs.Common.{◌∙◌, ap, refl}
use Rattle.cs_base.specs.Fields.{IsBytes, whole_at}
use Rattle.cs_base.proofs.Forms.{whole-takes, whole-again}
use Rattle.cs_tx_value.specs.declared.object.Object.{Object}
use Rattle.cs_tx_value.specs.Object.{object_encoding, ObjectFits, object_at}
use Rattle.cs_tx_value.specs.laws.Object.{object_form}
use Rattle.cs_sched.specs.Values.{encoded_object}

pub object_found : (bytes : List ℕ) (object : Object) → ObjectFits object → bytes ≡ object_encoding object → encoded_object bytes ≡ Some object
object_found bytes object fits is = ap (λ text. whole_at object_at text) is ∙ whole-again object_encoding ObjectFits object_at object_form object fits

pub found_fits : (bytes : List ℕ) (object : Object) → IsBytes bytes → encoded_object bytes ≡ Some object → ObjectFits object × (bytes ≡ object_encoding object)
found_fits bytes object fits found = whole-takes object_encoding ObjectFits object_at object_form bytes object fits found

pub object_missing : (bytes : List ℕ) → IsBytes bytes → ((object : Object) → ObjectFits object → bytes ≢ object_encoding object) → encoded_object bytes ≡ None
object_missing bytes fits none = by (encoded_object bytes) refl
  where
    by : (found : Option Object) → encoded_object bytes ≡ found → encoded_object bytes ≡ None
    by None is = is
    by (Some object) is = let (object_fits, same) = found_fits bytes object fits is in absurd (none object object_fits same)
