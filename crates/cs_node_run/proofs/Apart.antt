-- No start is refused for a key that stands twice: the names of the objects differ.
use Rattle.std.proofs.Common.{◌≡◌, ℕ, ◌+◌, List, [], ◌∷◌, Option, Some, None, Result, Ok, Err, refl, ap, sym, ◌∙◌}
use Rattle.cs_base.specs.declared.key.Key.{Key}
use Rattle.cs_tx_value.specs.declared.object.Object.{Object}
use Rattle.cs_tx.specs.Digest.{name_of_genesis}
use Rattle.cs_node.specs.declared.nodes.StartError.{StartError}
use Rattle.cs_node.specs.declared.nodes.StartError.TheVariants.{Duplicate, Memory}
use Rattle.cs_node.specs.Setups.{NodeStarts}
use Rattle.cs_sbac.specs.Genesis.{keyed_from, names_in}
use Rattle.cs_tx.specs.GenesisNames.{genesis_names}

pub names-same : (number : ℕ) (objects : List Object) → genesis_names number objects ≡ names_in (keyed_from number objects)
names-same number [] = refl
names-same number (object ∷ objects) = ap (λ names. name_of_genesis number object ∷ names) (names-same (number + 1) objects)

pub never-refused : {A : Type 0} (found : Option Key) (start : Result A StartError) (error : StartError) (name : Key) → found ≡ None → start ≡ Err error → error ≡ Duplicate name → NodeStarts found start → ⊥
never-refused found (Ok core) error name none is duplicate starts = cc
never-refused found (Err (Duplicate key)) error name none is duplicate starts = let q : None ≡ Some key = sym none ∙ starts in cc
never-refused found (Err Memory) error name none is duplicate starts = cc
