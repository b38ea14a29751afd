-- A file that keeps the inputs of a node, each behind a gate.
use Rattle.std.specs.Prelude.{◌≡◌, ◌≢◌, ◌⊎◌, ℕ, List, [], ◌∷◌, ◌++◌, length}
use Rattle.std.specs.List.{flat_map, AllByRecursion}
use Rattle.std.specs.Int.{w16, w32, to_be_bytes}
use Rattle.cs_base.specs.declared.node_id.NodeId.{NodeId}
use Rattle.cs_io.specs.declared.link.MemInput.{MemInput}
use Rattle.cs_journal.specs.Records.{record_bytes, InputFits}

-- ---- whose journal it is

abbrev pub counted_text : List ℕ → List ℕ
counted_text text = to_be_bytes w32 (length text) ++ text

-- the text of a site, those of its contracts, and the name of a node
abbrev pub named_bytes : List ℕ → List (List ℕ) → NodeId → List ℕ
named_bytes site texts node =
    counted_text site ++ flat_map counted_text texts ++ to_be_bytes w16 node.shard ++ to_be_bytes w16 node.index

-- "CSJ1", and the id
abbrev pub head : List ℕ → List ℕ
head id = (67 ∷ 83 ∷ 74 ∷ 49 ∷ []) ++ id

-- ---- what it keeps

-- each input behind an open gate, which is 1
abbrev pub kept_bytes : List MemInput → List ℕ
kept_bytes [] = []
kept_bytes (input ∷ inputs) = 1 ∷ record_bytes input ++ kept_bytes inputs

-- behind the inputs stands this, and they fit
pub record Keeps (id : List ℕ) (inputs : List MemInput) (rest file : List ℕ) : Type 0 where
  pub parts : file ≡ head id ++ kept_bytes inputs ++ rest
  pub fit : AllByRecursion InputFits inputs

-- The file is a journal that keeps these inputs: behind them stands a gate that isn't open. Whatever stands behind
-- that doesn't count.
pub record IsJournal (id : List ℕ) (inputs : List MemInput) (file : List ℕ) : Type 0 where
  pub gate : ℕ
  pub rest : List ℕ
  pub keeps : Keeps id inputs (gate ∷ rest) file
  pub closed : gate ≢ 1

-- ---- what a crash leaves

-- it keeps these inputs, and their closed gate is whole
pub record IsAtRest (id : List ℕ) (inputs : List MemInput) (file : List ℕ) : Type 0 where
  pub rest : List ℕ
  pub keeps : Keeps id inputs (0 ∷ rest) file

-- the gate of the next input may be open or not, and behind it that input is whole
pub record IsInDoubt (id : List ℕ) (inputs : List MemInput) (next : MemInput) (file : List ℕ) : Type 0 where
  pub gate : ℕ
  pub rest : List ℕ
  pub keeps : Keeps id inputs (gate ∷ record_bytes next ++ 0 ∷ rest) file
  pub fits : InputFits next

-- what the file keeps is these inputs, or these and the next one
abbrev pub Survives : List ℕ → List MemInput → MemInput → List ℕ → Type 0
Survives id inputs next file = IsAtRest id inputs file ⊎ IsInDoubt id inputs next file
