-- Which leaf bytes encode, and that they encode none.
use Rattle.std.specs.Prelude.{◌≡◌, ◌≢◌, List, ℕ, Option, Some, None, Ok, Err}
use Rattle.std.specs.Option.{ok_or}
use Rattle.std.proofs.Common.{◌∙◌, ap, refl}
use Rattle.cs_base.specs.Fields.{IsBytes, whole_at}
use Rattle.cs_base.proofs.Forms.{whole-takes, whole-again}
use Rattle.cs_tx_types.specs.declared.leaf.Leaf.{Leaf}
use Rattle.cs_base.specs.declared.version.Version.TheVariants.{One}
use Rattle.cs_tx_types.specs.Log.{leaf_encoding, LeafFits, leaf_at}
use Rattle.cs_tx_types.specs.laws.Log.{leaf_form}
use Rattle.cs_text.specs.declared.cause.Cause.TheVariants as cause
use Rattle.cs_audit_dump.specs.Said.{encoded_leaf}

pub leaf_found : (bytes : List ℕ) (leaf : Leaf) → LeafFits One leaf → bytes ≡ leaf_encoding One leaf → encoded_leaf bytes ≡ Ok leaf
leaf_found bytes leaf fits is =
    ap (λ (found : Option Leaf). ok_or found cause.Object)
    (ap (whole_at (leaf_at One)) is ∙ whole-again (leaf_encoding One) (LeafFits One) (leaf_at One) (leaf_form One) leaf fits)

pub found_fits : (bytes : List ℕ) (leaf : Leaf) → IsBytes bytes → whole_at (leaf_at One) bytes ≡ Some leaf → LeafFits One leaf × (bytes ≡ leaf_encoding One leaf)
found_fits bytes leaf fits found = whole-takes (leaf_encoding One) (LeafFits One) (leaf_at One) (leaf_form One) bytes leaf fits found

pub leaf_missing : (bytes : List ℕ) → IsBytes bytes → ((leaf : Leaf) → LeafFits One leaf → bytes ≢ leaf_encoding One leaf) → encoded_leaf bytes ≡ Err cause.Object
leaf_missing bytes fits none = by (whole_at (leaf_at One) bytes) refl
  where
    by : (found : Option Leaf) → whole_at (leaf_at One) bytes ≡ found → encoded_leaf bytes ≡ Err cause.Object
    by None is = ap (λ (found : Option Leaf). ok_or found cause.Object) is
    by (Some leaf) is = let (leaf_fits, same) = found_fits bytes leaf fits is in absurd (none leaf leaf_fits same)
