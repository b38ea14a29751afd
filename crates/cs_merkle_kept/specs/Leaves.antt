-- Hashes of leaves under keys, in the order of the keys.
use Rattle.std.specs.Prelude.{◌≡◌, ℕ, ◌<◌, ◌≤◌, List, [], ◌∷◌, length, map, slice_index_or}
use Rattle.std.specs.declared.cmp.Ordering.{Ordering}
use Rattle.std.specs.declared.cmp.Ordering.TheVariants.{Less, Equal, Greater}
use Rattle.std.specs.Ordering.{nat_cmp}
use Rattle.std.specs.Cmp.Lexicographic.{slice_cmp}
use Rattle.std.specs.BTreeMap.{insert_entry}
use Rattle.cs_merkle_kept.specs.declared.leaf.Leaf.{Leaf}

-- keys are ordered by their bytes
abbrev pub byte_order : List ℕ → List ℕ → Ordering
byte_order = slice_cmp nat_cmp

-- keys, each with the hash of its leaf
abbrev pub KeyedHashes : Type 0
KeyedHashes = List (List ℕ × List ℕ)

-- each is put in turn: a key that is there gets the hash, a new one stands in the order of keys
abbrev pub all_put : KeyedHashes → KeyedHashes → KeyedHashes
all_put kept [] = kept
all_put kept (leaf ∷ leaves) = all_put (insert_entry byte_order kept leaf.0 leaf.1) leaves

-- each key is less than those behind it
abbrev pub AreRising : List (List ℕ) → Type 0
AreRising keys = (i j : ℕ) → i < j → j < length keys →
    byte_order (slice_index_or keys i []) (slice_index_or keys j []) ≡ Less

-- a leaf as an entry of the list
abbrev pub leaf_entry : Leaf → List ℕ × List ℕ
leaf_entry leaf = (leaf.key.items, leaf.hash)

abbrev pub leaf_entries : List Leaf → KeyedHashes
leaf_entries leaves = map leaf_entry leaves

-- ---- where a key stands

-- each key before a place is less
abbrev pub AreBelow : List (List ℕ) → List ℕ → ℕ → Type 0
AreBelow keys key place = (i : ℕ) → i < place → byte_order key (slice_index_or keys i []) ≡ Greater

-- it stands at a place
pub record IsAt (keys : List (List ℕ)) (key : List ℕ) (place : ℕ) : Type 0 where
  pub within : place < length keys
  pub below : AreBelow keys key place
  pub here : byte_order key (slice_index_or keys place []) ≡ Equal

-- it isn't there, and would stand at a place
pub record IsGap (keys : List (List ℕ)) (key : List ℕ) (place : ℕ) : Type 0 where
  pub within : place ≤ length keys
  pub below : AreBelow keys key place
  pub above : (i : ℕ) → place ≤ i → i < length keys → byte_order key (slice_index_or keys i []) ≡ Less
