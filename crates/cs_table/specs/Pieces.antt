-- The keys that a session has in a shard, with the objects that it carries under them.
use Rattle.std.specs.Prelude.{ℕ, ◌==◌, List, [], ◌∷◌, ◌++◌, All, if◌then◌else◌}
use Rattle.cs_base.specs.declared.key.Key.TheVariants as key
use Rattle.cs_base.specs.Key.{shard_of_key}
use Rattle.cs_tx_value.specs.Object.{object_encoding, ObjectFits}
use Rattle.cs_tx_types.specs.declared.session.Session.{Session}
use Rattle.cs_tx_types.specs.Transaction.{Keyed}
use Rattle.cs_tx.specs.Uses.{inputs_of, references_of, outputs_of}
use Rattle.cs_ledger.specs.Session.{Rules}
use Rattle.cs_table.specs.declared.piece.Piece.{Piece}
use Rattle.cs_tx.specs.Dummies.{dummy_object}

-- the rules of so many shards, as far as an execution goes by them
abbrev pub rules_in : ℕ → Rules
rules_in shards = record {
  shard_of = λ name. shard_of_key shards (key.Object name);
  genesis = [];
  dummies = 0;
  dummy_object = object_encoding dummy_object;
}

-- those of the objects that are in the shard
abbrev pub pieces_in : ℕ → ℕ → List Keyed → List Piece
pieces_in shards shard [] = []
pieces_in shards shard (item ∷ items) =
    if shard_of_key shards (key.Object item.0) == shard
    then record { key = key.Object item.0; object = item.1 } ∷ pieces_in shards shard items
    else pieces_in shards shard items

-- each object is within all limits
abbrev pub PiecesFit : List Piece → Type 0
PiecesFit pieces = All (λ piece. ObjectFits piece.object) pieces

abbrev pub dummy_pieces : ℕ → List (ℕ × ℕ) → List Piece
dummy_pieces shard [] = []
dummy_pieces shard (dummy ∷ dummies) =
    if dummy.0 == shard
    then record { key = key.Dummy dummy.0 dummy.1; object = dummy_object } ∷ dummy_pieces shard dummies
    else dummy_pieces shard dummies

-- what a session uses up, what it only reads, and what it brings into being
abbrev pub used_in : ℕ → ℕ → Session → List Piece
used_in shards shard x = pieces_in shards shard (inputs_of x.tx) ++ dummy_pieces shard x.dummies

abbrev pub read_in : ℕ → ℕ → Session → List Piece
read_in shards shard x = pieces_in shards shard (references_of x.tx)

abbrev pub made_in : ℕ → ℕ → Session → List Piece
made_in shards shard x = pieces_in shards shard (outputs_of x.tx)
