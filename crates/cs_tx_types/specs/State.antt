-- The encodings and limits of states.
use Rattle.std.specs.Prelude.{◌≡◌, ℕ, ◌≤◌, Bool, true, not, ◌&&◌, bytes_eq, List, [], ◌∷◌, ◌++◌, length}
use Rattle.std.specs.List.{list_any}
use Rattle.cs_base.specs.declared.limits.TheConstants.{MOST_READERS}
use Rattle.cs_base.specs.Fields.{counted}
use Rattle.cs_tx_value.specs.Encoding.{AtMost}
use Rattle.cs_tx_value.specs.Object.{object_encoding, DigestFits, ObjectFits}
use Rattle.cs_tx_types.specs.declared.state.State.{State}
use Rattle.cs_tx_types.specs.declared.state.State.TheVariants.{Unknown, Active, Locked, Inactive, Shared}

-- no reader stands twice
abbrev pub readers_differ : List (List ℕ) → Bool
readers_differ [] = true
readers_differ (d ∷ readers) = not (list_any (λ reader. bytes_eq d reader) readers) && readers_differ readers

-- the number of the readers in one byte, and their digests
abbrev pub readers_encoding : List (List ℕ) → List ℕ
readers_encoding readers = counted (λ digest. digest) readers

-- there are one to so many, all different
abbrev pub ReadersFit : List (List ℕ) → Type 0
ReadersFit readers =
    ((1 ≤ length readers) × AtMost MOST_READERS DigestFits readers) × (readers_differ readers ≡ true)

abbrev pub state_encoding : State → List ℕ
state_encoding Unknown = 0 ∷ []
state_encoding (Active object) = 1 ∷ object_encoding object
state_encoding (Locked object session) = 2 ∷ (object_encoding object ++ session)
state_encoding (Inactive session) = 3 ∷ session
state_encoding (Shared object readers) = 4 ∷ (object_encoding object ++ readers_encoding readers)

abbrev pub StateFits : State → Type 0
StateFits Unknown = Unit {0}
StateFits (Active object) = ObjectFits object
StateFits (Locked object session) = ObjectFits object × DigestFits session
StateFits (Inactive session) = DigestFits session
StateFits (Shared object readers) = ObjectFits object × ReadersFit readers
