-- What is put: first leaves whose keys are there, and then the rest.
use Rattle.std.specs.Prelude.{◌≡◌, ℕ, ◌<◌, ◌≤◌, List, [], length, take, zip, slice_index, slice_index_or}
use Rattle.std.specs.declared.cmp.Ordering.TheVariants.{Greater}
use Rattle.std.specs.Map.{keys_of}
use Rattle.std.specs.BTreeMap.{insert_entry}
use Rattle.cs_merkle_kept.specs.Leaves.{KeyedHashes, byte_order, all_put, IsAt}
use Rattle.cs_merkle_kept.specs.Kept.{AreKept}
use Rattle.std.specs.List.Sorted.{IsNonDecreasing}
use Rattle.cs_merkle_kept.specs.Changes.{Spares, IsChanged}
use Rattle.cs_merkle_kept.specs.Counts.{IsFirstNew, AreOldKeys}

-- the first of these leaves were put under keys that are there, at these places
pub record IsPutFront (keys : List (List ℕ)) (leaves : KeyedHashes) (old new : List (List ℕ)) (places : List ℕ)
    : Type 0 where
  pub few : length places ≤ length leaves
  pub long : length new ≡ length old
  pub put : zip keys new ≡ all_put (zip keys old) (take (length places) leaves)
  pub same : (i : ℕ) → Spares places i → slice_index_or new i [] ≡ slice_index_or old i []
  pub here : (i : ℕ) → i < length places →
      IsAt keys (slice_index_or (keys_of leaves) i []) (slice_index places i)

-- one leaf was put at a place, before which nothing changed
pub record IsPutOne (keys hashes : List (List ℕ)) (leaf : List ℕ × List ℕ) (keys' hashes' : List (List ℕ)) (place : ℕ)
    : Type 0 where
  pub kept : AreKept keys' hashes'
  pub put : zip keys' hashes' ≡ insert_entry byte_order (zip keys hashes) leaf.0 leaf.1
  pub more : length hashes ≤ length hashes'
  pub reach : place ≤ length hashes
  pub same_hash : (i : ℕ) → i < place → slice_index_or hashes' i [] ≡ slice_index_or hashes i []
  pub same_key : (i : ℕ) → i < place → slice_index_or keys' i [] ≡ slice_index_or keys i []
  pub here : IsAt keys' leaf.0 place
  pub behind : (i : ℕ) → i < length keys → byte_order leaf.0 (slice_index_or keys i []) ≡ Greater → i < place

-- leaves were put among others, and none before a place
pub record IsPutRest (keys hashes : List (List ℕ)) (leaves : KeyedHashes) (keys' hashes' : List (List ℕ)) (first : ℕ)
    : Type 0 where
  pub kept : AreKept keys' hashes'
  pub put : zip keys' hashes' ≡ all_put (zip keys hashes) leaves
  pub more : length hashes ≤ length hashes'
  pub reach : first ≤ length hashes
  pub none : length leaves ≡ 0 → first ≡ length hashes'
  pub same : (i : ℕ) → i < first → slice_index_or hashes' i [] ≡ slice_index_or hashes i []

-- All were put. What changed are the hashes at the places of old keys before the first new one, and all from there on.
pub record IsPutAll (keys hashes : List (List ℕ)) (leaves : KeyedHashes) (keys' hashes' : List (List ℕ))
    (places : List ℕ) (first : ℕ) : Type 0 where
  pub kept : AreKept keys' hashes'
  pub put : zip keys' hashes' ≡ all_put (zip keys hashes) leaves
  pub more : length hashes ≤ length hashes'
  pub changed : IsChanged hashes hashes' places first
  pub rising : IsNonDecreasing places
  pub olds : AreOldKeys keys (keys_of leaves) → (length places ≡ length leaves) × (first ≡ length hashes')
  pub new : (before place : ℕ) → IsFirstNew keys keys' (keys_of leaves) before place →
      (length places ≡ before) × (first ≡ place)
