-- Objects whose names differ are under different keys, so none stands twice.
use Rattle.std.proofs.Common.{◌≡◌, ◌≢◌, ℕ, suc, ◌<◌, ◌==◌, Bool, true, false, ◌||◌, cond, List, [], ◌∷◌, ◌++◌, length, get_or, map, Some, None, refl, ap, sym, subst, inl, inr, ◌∙◌, arith}
use Rattle.std.specs.List.{AllPairs}
use Rattle.std.specs.Str.{bytes_eq}
use Rattle.std.proofs.lemmas.Bool.{cases_Bool}
use Rattle.std.proofs.lemmas.Slice.Eq.{bytes_eq-Decides}
use Rattle.cs_base.specs.Key.{shard_of_key}
use Rattle.cs_base.specs.declared.key.Key.{Key}
use Rattle.cs_base.specs.declared.key.Key.TheVariants as key
use Rattle.cs_tx_value.specs.declared.object.Object.{Object}
use Rattle.cs_tx_types.specs.Transaction.{Keyed}
use Rattle.cs_ledger.specs.Session as ledger
use Rattle.cs_table.specs.declared.piece.Piece.{Piece}
use Rattle.cs_table.specs.Genesis.{keyed_of, second_of, twice}
use Rattle.cs_table.specs.Pieces.{pieces_in}
use Rattle.cs_table.specs.Seen.{seen_piece}
use Rattle.cs_sbac.specs.Genesis.{keyed_from, names_in}

bytes-other : (a b : List ℕ) → a ≢ b → bytes_eq b a ≡ false
bytes-other a b other = elim (cases_Bool (bytes_eq b a)) [
  | inl is ↦ absurd (other (sym ((bytes_eq-Decides b a).0 is)))
  | inr is ↦ is
]

-- a key that is none of these pieces', and not the next one's
has_key-push : (name : ledger.Key) (before : List ledger.Piece) (piece : ledger.Piece) → ledger.has_key name before ≡ false → ledger.key_eq name piece.key ≡ false → ledger.has_key name (before ++ piece ∷ []) ≡ false
has_key-push name [] piece none other = ap (λ b. b || false) other
has_key-push name (first ∷ before) piece none other = by (ledger.key_eq name first.key) none (λ is. has_key-push name before piece is other)
  where
    by : (test : Bool) → (test || ledger.has_key name before) ≡ false → (ledger.has_key name before ≡ false → ledger.has_key name (before ++ piece ∷ []) ≡ false) → (test || ledger.has_key name (before ++ piece ∷ [])) ≡ false
    by true is more = is
    by false is more = more is

abbrev names_of : List Keyed → List (List ℕ)
names_of items = map (λ item. item.0) items

-- the names of these objects are none of these pieces' keys
abbrev AreNew : List ledger.Piece → List Keyed → Type 0
AreNew before items = (k : ℕ) (d : List ℕ) → k < length (names_of items) → ledger.has_key (ledger.Object (get_or (names_of items) k d)) before ≡ false

module _ (shards shard : ℕ) where
  abbrev NoneSecond : List ledger.Piece → List Keyed → Type 0
  NoneSecond before items = second_of before (pieces_in shards shard items) ≡ None

  -- the piece of an object that is of the shard
  abbrev piece_of : Keyed → Piece
  piece_of item = record { key = key.Object item.0; object = item.1 }

  -- the names behind the first are new behind its piece
  behind : (before : List ledger.Piece) (item : Keyed) (items : List Keyed) → AllPairs (λ a b. a ≢ b) (names_of (item ∷ items)) → AreNew before (item ∷ items)
      → AreNew (before ++ seen_piece (piece_of item) ∷ []) items
  behind before item items differ new = λ k d within.
      let other = get_or (names_of items) k d in
      has_key-push (ledger.Object other) before (seen_piece (piece_of item)) (new (suc k) d (omega arith)) (bytes-other item.0 other (differ 0 (suc k) d (omega arith) (omega arith)))

  none-second : (before : List ledger.Piece) (items : List Keyed) → AllPairs (λ a b. a ≢ b) (names_of items) → AreNew before items → NoneSecond before items
  none-second before [] differ new = refl
  none-second before (item ∷ items) differ new =
      let apart : AllPairs (λ a b. a ≢ b) (names_of items) = λ i j d first within. differ (suc i) (suc j) d (omega arith) (omega arith) in
      by (shard_of_key shards (key.Object item.0) == shard)
      (none-second (before ++ seen_piece (piece_of item) ∷ []) items apart (behind before item items differ new))
      (none-second before items apart (λ k d within. new (suc k) d (omega arith)))
    where
      more : List Piece
      more = pieces_in shards shard items

      by : (here : Bool) → NoneSecond (before ++ seen_piece (piece_of item) ∷ []) items → NoneSecond before items
          → second_of before (cond here (piece_of item ∷ more) more) ≡ None
      by true taken left =
          ap (λ b. cond b (Some (piece_of item).key) (second_of (before ++ seen_piece (piece_of item) ∷ []) more)) (new 0 item.0 (omega arith)) ∙ taken
      by false taken left = left

  pub none-twice : (objects : List Object) (items : List (Key × Object)) (names : List (List ℕ)) → items ≡ keyed_from 0 objects → names ≡ names_in (keyed_from 0 objects) → AllPairs (λ a b. a ≢ b) names
      → twice shards shard items ≡ None
  none-twice objects items names is named differ =
      ap (twice shards shard) is
      ∙ none-second [] (keyed_of (keyed_from 0 objects)) (subst (λ (xs : List (List ℕ)). AllPairs (λ a b. a ≢ b) xs) named differ) (λ k d within. refl)
