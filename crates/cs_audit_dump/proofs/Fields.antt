-- What is printed in the fields of a dump is read again.
use Rattle.std.specs.Prelude.{◌≡◌, ℕ, ◌<◌, ◌^◌, [], ◌∷◌, Ok}
use Rattle.std.specs.Fmt.{decimal}
use Rattle.std.proofs.Common.{refl}
use Rattle.std.proofs.lemmas.Bool.{eq-eqb}
use Rattle.cs_base.specs.Codes.{bytes_text}
use Rattle.cs_base.specs.Fields.{IsBytes}
use Rattle.cs_base.proofs.HexTexts.{bytes_of-bytes_text}
use Rattle.cs_base.proofs.Numbers.{number_printed}
use Rattle.cs_tx_types.specs.declared.leaf.Leaf.{Leaf}
use Rattle.cs_base.specs.declared.version.Version.TheVariants.{One}
use Rattle.cs_tx_types.specs.Log.{leaf_encoding, LeafFits}
use Rattle.cs_text.specs.Values.{number_said}
use Rattle.cs_text.proofs.Back.{number_back}
use Rattle.cs_audit_dump.specs.Said.{log_said, leaf_said}
use Rattle.cs_audit_dump.proofs.Leaves.{leaf_found}

pub log_back : (shard slots : ℕ) → shard < 2 ^ 64 → slots < 2 ^ 64 → log_said shard (decimal shard ∷ decimal slots ∷ []) ≡ Ok slots
log_back shard slots small few = rw (number_printed shard small, eq-eqb shard shard refl, number_printed slots few) refl

pub leaf_back : (leaf : Leaf) → LeafFits One leaf → IsBytes (leaf_encoding One leaf) → leaf_said (bytes_text (leaf_encoding One leaf) ∷ []) ≡ Ok leaf
leaf_back leaf fits encoded = rw (bytes_of-bytes_text (leaf_encoding One leaf) encoded) (leaf_found (leaf_encoding One leaf) leaf fits refl)

pub txs_back : (txs : ℕ) → txs < 2 ^ 64 → number_said (decimal txs ∷ []) ≡ Ok txs
txs_back txs small = number_back txs small
