-- What a session uses, the shards that it concerns, and its anchor in each.
use Rattle.std.specs.Prelude.{ℕ, zero, suc, Bool, ◌==◌, List, [], ◌∷◌, ◌++◌, map, Option, Some, None, find, if◌then◌else◌}
use Rattle.std.specs.List.{flat_map, list_any}
use Rattle.cs_base.specs.declared.config.Config.{Config}
use Rattle.cs_base.specs.declared.key.Key.{Key}
use Rattle.cs_base.specs.declared.key.Key.TheVariants as key
use Rattle.cs_base.specs.Key.{shard_of_key}
use Rattle.cs_tx_types.specs.declared.transaction.Tx.{Tx}
use Rattle.cs_tx_types.specs.declared.session.Session.{Session}
use Rattle.cs_tx_types.specs.Transaction.{Keyed}
use Rattle.cs_tx.specs.declared.names.Names.{Names}
use Rattle.cs_tx.specs.Digest.{digest_of_tx, outputs_from}

-- the objects of a transaction under their names, in the order of traces
abbrev pub inputs_of : Tx → List Keyed
inputs_of tx = flat_map (λ trace. trace.inputs) tx.traces

abbrev pub references_of : Tx → List Keyed
references_of tx = flat_map (λ trace. trace.references) tx.traces

abbrev pub outputs_of : Tx → List Keyed
outputs_of tx = flat_map (λ outputs. outputs) (outputs_from (digest_of_tx tx) 0 tx.traces)

abbrev pub names : List Keyed → List (List ℕ)
names items = map (λ item. item.0) items

-- every name that a transaction uses
abbrev pub used_names : Tx → List (List ℕ)
used_names tx = names (inputs_of tx) ++ (names (references_of tx) ++ names (outputs_of tx))

-- every name that was found
abbrev pub all_of : Names → List (List ℕ)
all_of found = found.inputs ++ (found.references ++ found.outputs)

-- an object's name is that of a key in this shard
abbrev pub is_in : Config → ℕ → List ℕ → Bool
is_in config shard name = shard_of_key config.shards (key.Object name) == shard

-- one of these names is
abbrev pub is_among : Config → ℕ → List (List ℕ) → Bool
is_among config shard names = list_any (is_in config shard) names

-- the shard is that of an input, a reference or an output
abbrev pub concerns : Config → Session → ℕ → Bool
concerns config x shard = is_among config shard (used_names x.tx)

-- the concerned ones of the shards below n, in rising order
abbrev pub concerned_below : Config → Session → ℕ → List ℕ
concerned_below config x zero = []
concerned_below config x (suc n) = concerned_below config x n ++ (if concerns config x n then n ∷ [] else [])

abbrev pub concerned_shards : Config → Session → List ℕ
concerned_shards config x = concerned_below config x config.shards

-- the first dummy of a shard
abbrev pub dummy_in : ℕ → List (ℕ × ℕ) → Option Key
dummy_in shard [] = None
dummy_in shard (dummy ∷ dummies) =
    if dummy.0 == shard then Some (key.Dummy dummy.0 dummy.1) else dummy_in shard dummies

-- the first of these names, or else the dummy
abbrev pub anchor_among : Option (List ℕ) → Option Key → Option Key
anchor_among (Some name) dummy = Some (key.Object name)
anchor_among None dummy = dummy

-- the first input in a shard, or else the dummy there
abbrev pub anchor_of : Config → Session → ℕ → Option Key
anchor_of config x shard = anchor_among (find (is_in config shard) (names (inputs_of x.tx))) (dummy_in shard x.dummies)
