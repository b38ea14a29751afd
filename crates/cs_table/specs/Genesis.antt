-- The table with which a shard begins.
use Rattle.std.specs.Prelude.{◌≡◌, ℕ, ◌==◌, nat_lt, Bool, false, ◌&&◌, if◌then◌else◌, List, [], ◌∷◌, ◌++◌, map, Option, Some, None, Result, Ok, Err}
use Rattle.cs_base.specs.declared.config.Config.{Config}
use Rattle.cs_base.specs.declared.key.Key.{Key}
use Rattle.cs_base.specs.declared.key.Key.TheVariants as key
use Rattle.cs_tx_value.specs.declared.object.Object.{Object}
use Rattle.cs_tx_types.specs.Transaction.{Keyed}
use Rattle.cs_ledger.specs.Session as ledger
use Rattle.cs_ledger.specs.Table.{Unknown, Table}
use Rattle.cs_table.specs.declared.piece.Piece.{Piece}
use Rattle.cs_table.specs.declared.genesis.TableError.{TableError}
use Rattle.cs_table.specs.declared.genesis.TableError.TheVariants.{Duplicate, Memory}
use Rattle.cs_table.specs.Seen.{seen_piece}
use Rattle.cs_table.specs.Pieces.{rules_in, pieces_in}
use Rattle.cs_tx.specs.Sessions.{item_of, key_seen}
use Rattle.cs_table.specs.Changes.{appeared_record}

-- the objects under their names
abbrev pub with_keyed : Key → Object → List Keyed → List Keyed
with_keyed (key.Object name) object items = (name, object) ∷ items
with_keyed (key.Dummy shard serial) object items = items

abbrev pub keyed_of : List (Key × Object) → List Keyed
keyed_of [] = []
keyed_of (item ∷ items) = with_keyed item.0 item.1 (keyed_of items)

-- the rules of a configuration with these objects
abbrev pub genesis_rules : Config → List (Key × Object) → ledger.Rules
genesis_rules config objects = record {
  shard_of = (rules_in config.shards).shard_of;
  genesis = map item_of (keyed_of objects);
  dummies = config.dummies;
  dummy_object = (rules_in config.shards).dummy_object;
}

-- the first key that is one of an earlier piece
abbrev pub second_of : List ledger.Piece → List Piece → Option Key
second_of before [] = None
second_of before (p ∷ ps) =
    if ledger.has_key (key_seen p.key) before
    then Some p.key
    else second_of (before ++ seen_piece p ∷ []) ps

-- the first key of the shard that stands twice
abbrev pub twice : ℕ → ℕ → List (Key × Object) → Option Key
twice shards shard objects = second_of [] (pieces_in shards shard (keyed_of objects))

-- a call finds the key that stands twice, unless memory ran out
abbrev pub FindsKeyTwice : {A : Type 0} → Result A TableError → Option Key → Type 0
FindsKeyTwice {A} (Ok done) found = found ≡ None
FindsKeyTwice {A} (Err (Duplicate key)) found = found ≡ Some key
FindsKeyTwice {A} (Err Memory) found = Unit {0}

-- the dummies of these serials come into being
abbrev pub is_dummy_below : ℕ → ℕ → ledger.Key → Bool
is_dummy_below shard n (ledger.Object name) = false
is_dummy_below shard n (ledger.Dummy s serial) = s == shard && nat_lt serial n

abbrev pub with_dummy_objects : ℕ → ℕ → List ℕ → Table → Table
with_dummy_objects shard n object t = record {
  at = λ name. if is_dummy_below shard n name then appeared_record object (t.at name) else t.at name;
  next = t.next;
}

-- nothing is known of any key
abbrev pub empty : ℕ → Table
empty next = record { at = λ name. record { state = Unknown; book = [] }; next = next }
