-- The table that is filled at the start is that with which a shard begins.
use Rattle.std.proofs.Common.{◌≡◌, ℕ, ◌==◌, nat_lt, Bool, true, false, ◌&&◌, if◌then◌else◌, List, [], ◌∷◌, map, None, refl, ap, ◌∙◌}
use Rattle.std.specs.List.{All, AllByRecursion}
use Rattle.std.proofs.lemmas.List.Elements.{All-head, All-tail}
use Rattle.cs_base.specs.declared.config.Config.{Config}
use Rattle.cs_base.specs.declared.key.Key.{Key}
use Rattle.cs_base.specs.declared.key.Key.TheVariants as key
use Rattle.cs_tx_value.specs.declared.object.Object.{Object}
use Rattle.cs_tx_value.specs.Object.{object_encoding, ObjectFits}
use Rattle.cs_tx_types.specs.Transaction.{Keyed}
use Rattle.cs_ledger.specs.Ledger.{Item}
use Rattle.cs_ledger.specs.Session as ledger
use Rattle.cs_ledger.specs.Table as table
use Rattle.cs_ledger.specs.Table.{Unknown, Active, Record, Table}
use Rattle.cs_table.specs.declared.piece.Piece.{Piece}
use Rattle.cs_table.specs.Seen.{Stored, seen, seen_piece}
use Rattle.cs_table.specs.Changes.{Becomes, appeared_record, appeared_each}
use Rattle.cs_table.specs.Pieces.{pieces_in}
use Rattle.cs_tx.specs.Dummies.{dummy_object}
use Rattle.cs_table.specs.Genesis.{with_keyed, keyed_of, genesis_rules, is_dummy_below, with_dummy_objects, empty}
use Rattle.cs_table.proofs.Rows.{same_table}
use Rattle.cs_table.proofs.Each.{appears, all_appeared, made_record}
use Rattle.cs_table.proofs.Shown.{items_seen}
use Rattle.cs_table.proofs.Fitting.{PieceFits, ItemFits, items_fit}

-- ---- the objects fit

with_fit : (k : Key) (object : Object) (items : List Keyed) → ObjectFits object → AllByRecursion ItemFits items → AllByRecursion ItemFits (with_keyed k object items)
with_fit (key.Object name) object items fits rest = (fits, rest)
with_fit (key.Dummy shard serial) object items fits rest = rest

abbrev ObjectsFit : Key × Object → Type 0
ObjectsFit item = ObjectFits item.1

keyed_fit : (objects : List (Key × Object)) → All ObjectsFit objects → AllByRecursion ItemFits (keyed_of objects)
keyed_fit [] fits = tt
keyed_fit (item ∷ items) fits = with_fit item.0 item.1 (keyed_of items) (All-head ObjectsFit item items fits) (keyed_fit items (All-tail ObjectsFit item items fits))

pub genesis_fit : (shards shard : ℕ) (objects : List (Key × Object)) → All ObjectsFit objects → All PieceFits (pieces_in shards shard (keyed_of objects))
genesis_fit shards shard objects fits = items_fit shards shard (keyed_of objects) (keyed_fit objects fits)

-- ---- the records

module _ (rules : ledger.Rules) (shard : ℕ) where
  if_none : (b : Bool) (p : ledger.Piece) (ps : List ledger.Piece) (s k : ℕ) → ledger.key_eq (ledger.Dummy s k) p.key ≡ false → ledger.object_under ps (ledger.Dummy s k) ≡ None → ledger.object_under (if b then p ∷ ps else ps) (ledger.Dummy s k) ≡ None
  if_none true p ps s k apart none = rw apart none
  if_none false p ps s k apart none = none

  -- no object stands under a dummy's name
  no_object : (items : List Item) (s k : ℕ) → ledger.object_under (ledger.objects_in rules shard items) (ledger.Dummy s k) ≡ None
  no_object [] s k = refl
  no_object (item ∷ items) s k = if_none (rules.shard_of item.name == shard) _ (ledger.objects_in rules shard items) s k refl (no_object items s k)

dummy_state : (b : Bool) (o : List ℕ) → (if b then appeared_record o (record { state = Unknown; book = [] }) else record { state = Unknown; book = [] }) ≡ record { state = if b then Active o else Unknown; book = [] }
dummy_state true o = refl
dummy_state false o = refl

module _ (config : Config) (objects : List (Key × Object)) (shard : ℕ) where
  abbrev rules : ledger.Rules
  rules = genesis_rules config objects

  abbrev loaded : List ledger.Piece
  loaded = ledger.objects_in rules shard rules.genesis

  abbrev unknown : Record
  unknown = record { state = Unknown; book = [] }

  begun : (name : ledger.Key) → (if is_dummy_below shard config.dummies name then appeared_record rules.dummy_object (made_record (ledger.object_under loaded name) unknown) else made_record (ledger.object_under loaded name) unknown) ≡ record { state = table.start_state rules shard name; book = [] }
  begun (ledger.Object d) = refl
  begun (ledger.Dummy s k) =
      ap (λ object. if is_dummy_below shard config.dummies (ledger.Dummy s k) then appeared_record rules.dummy_object (made_record object unknown) else made_record object unknown) (no_object rules shard rules.genesis s k)
      ∙ dummy_state (s == shard && nat_lt k config.dummies) rules.dummy_object

  filled : with_dummy_objects shard config.dummies rules.dummy_object (all_appeared [] loaded (empty config.dummies)) ≡ table.start rules shard
  filled = same_table _ _ config.dummies begun

  pub genesis_is : (a b e : Stored) (pieces : List Piece) → seen a ≡ empty config.dummies → a.shard ≡ shard → pieces ≡ pieces_in config.shards shard (keyed_of objects) → Becomes a b (appeared_each [] (map seen_piece pieces) (seen a)) → Becomes b e (with_dummy_objects b.shard config.dummies (object_encoding dummy_object) (seen b)) → seen e ≡ table.start rules shard
  genesis_is a b e pieces empty_is shard_is pieces_is one two =
      two.shows
      ∙ ap (λ n. with_dummy_objects n config.dummies rules.dummy_object (seen b)) (one.shard ∙ shard_is)
      ∙ ap (with_dummy_objects shard config.dummies rules.dummy_object)
      (one.shows
      ∙ ap (appeared_each [] (map seen_piece pieces)) empty_is
      ∙ ap (λ ps. appeared_each [] ps (empty config.dummies)) (ap (map seen_piece) pieces_is ∙ items_seen config.shards shard (keyed_of objects))
      ∙ appears [] loaded (empty config.dummies))
      ∙ filled
