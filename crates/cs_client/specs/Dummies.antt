-- What nodes say of dummies, and what is believed of it.
use Rattle.std.specs.Prelude.{ℕ, ◌==◌, List, [], ◌∷◌, map, is_some, Option, Some, None, option_map, option_and_then, if◌then◌else◌}
use Rattle.cs_base.specs.declared.config.Config.{Config}
use Rattle.cs_base.specs.declared.key.Key.{Key}
use Rattle.cs_base.specs.declared.key.Key.TheVariants as key
use Rattle.cs_base.specs.declared.node_id.NodeId.{NodeId}
use Rattle.cs_tx_types.specs.declared.state.State.{State}
use Rattle.cs_wire.specs.declared.keys.Keys.{Keys}
use Rattle.cs_wire_message.specs.declared.message.Message.{Message}
use Rattle.cs_wire_message.specs.declared.message.Message.TheVariants as message
use Rattle.cs_dummies.specs.Named.{DummyWord, named_with, least_named}
use Rattle.cs_client.specs.Nodes.{nodes_in}
use Rattle.cs_client.specs.Inputs.{ClientInput, said_from}
use Rattle.cs_client.specs.Objects.{active}

-- ---- what a node says

-- what is told of a dummy of this shard: its serial, and whether it is active
abbrev pub dummy_told : ℕ → Key → State → Option DummyWord
dummy_told shard (key.Object name) s = None
dummy_told shard (key.Dummy other serial) s = if other == shard then Some (serial, is_some (active s)) else None

abbrev pub dummy_word_in : ℕ → Message → Option DummyWord
dummy_word_in shard (message.Told key state) = dummy_told shard key state
dummy_word_in shard m = None

-- the dummies that it names, after what it says by one input more
abbrev pub named_after : Option ℕ → Option DummyWord → List ℕ → List ℕ
named_after first (Some word) named = named_with first word named
named_after first None named = named

-- the dummies of its shard that a node names
abbrev pub named_by : Option ℕ → Keys → List ClientInput → NodeId → List ℕ
named_by first keys [] node = []
named_by first keys (input ∷ past) node =
    named_after first (option_and_then (dummy_word_in node.shard) (said_from keys node input))
    (named_by first keys past node)

abbrev pub serials_in : Option ℕ → Config → Keys → List ClientInput → ℕ → List (List ℕ)
serials_in first config keys inputs shard = map (named_by first keys inputs) (nodes_in config.f shard)

-- ---- what is believed

-- the dummy of a shard that is taken, where those from the first one on are asked for, or any
abbrev pub dummy_believed : Option ℕ → Config → Keys → List ClientInput → ℕ → Option ℕ
dummy_believed first config keys inputs shard = least_named config.f (serials_in first config keys inputs shard)

-- the shards, each with its dummy, where each has one
abbrev pub with_dummy : ℕ → Option ℕ → Option (List (ℕ × ℕ)) → Option (List (ℕ × ℕ))
with_dummy shard (Some serial) more = option_map (λ dummies. (shard, serial) ∷ dummies) more
with_dummy shard None more = None

abbrev pub dummies_for : (ℕ → Option ℕ) → List ℕ → Option (List (ℕ × ℕ))
dummies_for dummy [] = Some []
dummies_for dummy (shard ∷ shards) = with_dummy shard (dummy shard) (dummies_for dummy shards)
