-- What the fields of a line say that stands in dumps alone, or why they are refused.
use Rattle.std.specs.Prelude.{ℕ, ◌==◌, List, [], ◌∷◌, Result, Err, if◌then◌else◌}
use Rattle.std.specs.Option.{ok_or}
use Rattle.cs_base.specs.Codes.{number_of, bytes_of}
use Rattle.cs_base.specs.Fields.{whole_at}
use Rattle.cs_tx_types.specs.declared.leaf.Leaf.{Leaf}
use Rattle.cs_base.specs.declared.version.Version.TheVariants.{One}
use Rattle.cs_tx_types.specs.Log.{leaf_at}
use Rattle.cs_text.specs.Values.{◌>>=◌, only_field}
use Rattle.cs_text.specs.declared.cause.Cause.{Cause}
use Rattle.cs_text.specs.declared.cause.Cause.TheVariants as cause

-- how many slots the log has of the shard whose turn it is
abbrev pub slots_said : ℕ → List ℕ → List ℕ → Result ℕ Cause
slots_said turn shard slots = do
  number ← ok_or (number_of shard) cause.Number
  if number == turn then ok_or (number_of slots) cause.Number else Err cause.Node

abbrev pub log_said : ℕ → List (List ℕ) → Result ℕ Cause
log_said turn (shard ∷ slots ∷ []) = slots_said turn shard slots
log_said turn _ = Err cause.Count

-- the leaf of which these bytes are the encoding
abbrev pub encoded_leaf : List ℕ → Result Leaf Cause
encoded_leaf bytes = ok_or (whole_at (leaf_at One) bytes) cause.Object

-- a leaf in hex, of any length
abbrev pub leaf_of_hex : List ℕ → Result Leaf Cause
leaf_of_hex field = do
  bytes ← ok_or (bytes_of field) cause.Hex
  encoded_leaf bytes

abbrev pub leaf_said : List (List ℕ) → Result Leaf Cause
leaf_said fields = do
  field ← only_field fields
  leaf_of_hex field
