-- A session: a transaction, and what ties it to the shards.
use Rattle.std.specs.Prelude.{◌≡◌, ℕ, Bool, true, false, not, ◌&&◌, ◌||◌, List, [], ◌∷◌, ◌++◌, Option, Some, None, bytes_eq, ◌==◌, nat_lt, if◌then◌else◌}
use Rattle.cs_base.specs.Lists.{IsIn}
use Rattle.cs_ledger.specs.Ledger.{Bytes, Item, Transaction, is_well_formed}

-- the name of a dummy: its shard, and its serial number there
pub record DummyName : Type 0 where
  pub shard : ℕ
  pub serial : ℕ

-- what the shards need of a session
pub record Session : Type 0 where
  pub digest : Bytes
  pub transaction : Transaction
  pub dummies : List DummyName

-- sessions of one digest are one
abbrev pub AreToldApart : List Session → Type 0
AreToldApart known = (x y : Session) → IsIn x known → IsIn y known → x.digest ≡ y.digest → x ≡ y

-- what is fixed from the start
pub record Rules : Type 0 where
  pub shard_of : Bytes → ℕ  -- the shard of an object's name
  pub genesis : List Item
  pub dummies : ℕ  -- so many in each shard at the start
  pub dummy_object : Bytes  -- the object that each dummy carries

-- a key is an object's name or a dummy's
pub data Key : Type 0 where
  Object : (name : Bytes) → Key
  Dummy : (shard serial : ℕ) → Key

abbrev pub key_eq : Key → Key → Bool
key_eq (Object a) (Object b) = bytes_eq a b
key_eq (Object a) (Dummy s n) = false
key_eq (Dummy s n) (Object b) = false
key_eq (Dummy s n) (Dummy t m) = s == t && n == m

-- a key with the object that a session carries under it
pub record Piece : Type 0 where
  pub key : Key
  pub object : Bytes

abbrev pub has_key : Key → List Piece → Bool
has_key key [] = false
has_key key (piece ∷ pieces) = key_eq key piece.key || has_key key pieces

abbrev pub object_under : List Piece → Key → Option Bytes
object_under [] key = None
object_under (piece ∷ pieces) key = if key_eq key piece.key then Some piece.object else object_under pieces key

abbrev pub all_items : Transaction → List Item
all_items tx = tx.inputs ++ (tx.references ++ tx.outputs)

-- whether one of these objects is of a shard
abbrev pub is_among : Rules → ℕ → List Item → Bool
is_among rules shard [] = false
is_among rules shard (item ∷ items) = (rules.shard_of item.name == shard) || is_among rules shard items

-- the shard is that of an input, a reference or an output
abbrev pub concerns : Rules → Session → ℕ → Bool
concerns rules x shard = is_among rules shard (all_items x.transaction)

-- those of these objects that are of a shard, as pieces
abbrev pub objects_in : Rules → ℕ → List Item → List Piece
objects_in rules shard [] = []
objects_in rules shard (item ∷ items) =
    if rules.shard_of item.name == shard
    then record { key = Object item.name; object = item.object } ∷ objects_in rules shard items
    else objects_in rules shard items

abbrev pub dummies_in : Rules → ℕ → List DummyName → List Piece
dummies_in rules shard [] = []
dummies_in rules shard (dummy ∷ dummies) =
    if dummy.shard == shard
    then record { key = Dummy dummy.shard dummy.serial; object = rules.dummy_object } ∷ dummies_in rules shard dummies
    else dummies_in rules shard dummies

-- what a session uses up in a shard: its inputs and its dummy there
abbrev pub used_up : Rules → Session → ℕ → List Piece
used_up rules x shard = objects_in rules shard x.transaction.inputs ++ dummies_in rules shard x.dummies

-- what it only reads there: its references
abbrev pub read_only : Rules → Session → ℕ → List Piece
read_only rules x shard = objects_in rules shard x.transaction.references

abbrev pub first_key : List Piece → Option Key
first_key [] = None
first_key (piece ∷ pieces) = Some piece.key

-- the first input in a shard, or else the dummy there
abbrev pub anchor : Rules → Session → ℕ → Option Key
anchor rules x shard = first_key (used_up rules x shard)

-- a dummy is wanted in exactly those of the concerned shards in which there is no input
abbrev pub wants_dummy : Rules → Transaction → ℕ → Bool
wants_dummy rules tx shard = is_among rules shard (all_items tx) && not (is_among rules shard tx.inputs)

abbrev pub each_is_wanted : Rules → Transaction → List DummyName → Bool
each_is_wanted rules tx [] = true
each_is_wanted rules tx (dummy ∷ dummies) = wants_dummy rules tx dummy.shard && each_is_wanted rules tx dummies

-- in rising order of shards, so none stands twice
abbrev pub are_rising : List DummyName → Bool
are_rising [] = true
are_rising (dummy ∷ []) = true
are_rising (dummy ∷ next ∷ dummies) = nat_lt dummy.shard next.shard && are_rising (next ∷ dummies)

abbrev pub has_dummy : ℕ → List DummyName → Bool
has_dummy shard [] = false
has_dummy shard (dummy ∷ dummies) = (dummy.shard == shard) || has_dummy shard dummies

-- the shard of each of these objects has an input or a dummy
abbrev pub each_is_served : Rules → Session → List Item → Bool
each_is_served rules x [] = true
each_is_served rules x (item ∷ items) =
    (is_among rules (rules.shard_of item.name) x.transaction.inputs || has_dummy (rules.shard_of item.name) x.dummies)
    && each_is_served rules x items

-- exactly one dummy for each concerned shard without an input, in rising order of shards
abbrev pub has_its_dummies : Rules → Session → Bool
has_its_dummies rules x =
    are_rising x.dummies
    && (each_is_wanted rules x.transaction x.dummies && each_is_served rules x (all_items x.transaction))

abbrev pub well_formed : Rules → Session → Bool
well_formed rules x = is_well_formed x.transaction && has_its_dummies rules x
