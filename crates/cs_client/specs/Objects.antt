-- What nodes say of an object, and what is believed of it.
use Rattle.std.specs.Prelude.{ℕ, nat_lt, Bool, false, bytes_eq, List, [], ◌∷◌, map, count_by, Option, Some, None, option_and_then, if◌then◌else◌}
use Rattle.cs_base.specs.declared.config.Config.{Config}
use Rattle.cs_base.specs.declared.key.Key.{Key}
use Rattle.cs_base.specs.declared.key.Key.TheVariants as key
use Rattle.cs_base.specs.declared.node_id.NodeId.{NodeId}
use Rattle.cs_base.specs.Key.{shard_of_key}
use Rattle.cs_tx_value.specs.declared.object.Object.{Object}
use Rattle.cs_tx_value.specs.Object.{object_encoding}
use Rattle.cs_tx_types.specs.declared.state.State.{State}
use Rattle.cs_tx_types.specs.declared.state.State.TheVariants as state
use Rattle.cs_wire.specs.declared.keys.Keys.{Keys}
use Rattle.cs_wire_message.specs.declared.message.Message.{Message}
use Rattle.cs_wire_message.specs.declared.message.Message.TheVariants as message
use Rattle.cs_client.specs.Nodes.{nodes_in}
use Rattle.cs_client.specs.Inputs.{ClientInput, said_from, latest, or_none}

-- ---- what a node says

-- the object with which a state is active
abbrev pub active : State → Option Object
active state.Unknown = None
active (state.Active object) = Some object
active (state.Locked object session) = None
active (state.Inactive session) = None
active (state.Shared object readers) = None

-- the object that is there to be read: its state is active, or shared
abbrev pub free_in : State → Option Object
free_in (state.Shared object readers) = Some object
free_in s = active s

-- what is said of a key: the object that is there under a name, or with which a dummy is active
abbrev pub word_told : Key → State → Option Object
word_told (key.Object name) s = free_in s
word_told (key.Dummy shard serial) s = active s

-- what is told of the object of this name: one that is there, or that none is
abbrev pub object_told : List ℕ → Key → State → Option (Option Object)
object_told name (key.Object told) s = if bytes_eq name told then Some (free_in s) else None
object_told name (key.Dummy shard serial) s = None

abbrev pub told_in : List ℕ → Message → Option (Option Object)
told_in name (message.Told key state) = object_told name key state
told_in name m = None

-- a node's last word on a name: an object that is there, or none
abbrev pub word_on : Keys → List ℕ → List ClientInput → NodeId → Option Object
word_on keys name inputs node =
    or_none (latest (λ input. option_and_then (told_in name) (said_from keys node input)) inputs)

abbrev pub shard_of_name : Config → List ℕ → ℕ
shard_of_name config name = shard_of_key config.shards (key.Object name)

-- the last words of the nodes of its shard
abbrev pub words_on : Config → Keys → List ℕ → List ClientInput → List (Option Object)
words_on config keys name inputs = map (word_on keys name inputs) (nodes_in config.f (shard_of_name config name))

-- ---- what is believed

-- the word is this object, byte for byte
abbrev pub word_is : Object → Option Object → Bool
word_is object (Some other) = bytes_eq (object_encoding object) (object_encoding other)
word_is object None = false

abbrev pub voices : Object → List (Option Object) → ℕ
voices object words = count_by (word_is object) words

-- the first of these words that more than f of all are
abbrev pub first_believed : ℕ → List (Option Object) → List (Option Object) → Option Object
first_believed f all [] = None
first_believed f all (None ∷ words) = first_believed f all words
first_believed f all (Some object ∷ words) =
    if nat_lt f (voices object all) then Some object else first_believed f all words

-- the object that f+1 of the nodes say; of two that of the node of least index
abbrev pub believed_in : ℕ → List (Option Object) → Option Object
believed_in f words = first_believed f words words

abbrev pub believed : Config → Keys → List ClientInput → List ℕ → Option Object
believed config keys inputs name = believed_in config.f (words_on config keys name inputs)
