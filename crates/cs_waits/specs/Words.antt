-- What nodes say of who used an object up, and what is believed of it.
use Rattle.std.specs.Prelude.{ℕ, nat_lt, Bool, true, false, bytes_eq, List, [], ◌∷◌, map, count_by, unwrap_or, Option, Some, None, option_and_then, if◌then◌else◌}
use Rattle.cs_base.specs.declared.config.Config.{Config}
use Rattle.cs_base.specs.declared.key.Key.{Key}
use Rattle.cs_base.specs.declared.key.Key.TheVariants as key
use Rattle.cs_base.specs.declared.node_id.NodeId.{NodeId}
use Rattle.cs_tx_types.specs.declared.state.State.{State}
use Rattle.cs_tx_types.specs.declared.state.State.TheVariants as state
use Rattle.cs_wire.specs.declared.keys.Keys.{Keys}
use Rattle.cs_wire_message.specs.declared.message.Message.{Message}
use Rattle.cs_wire_message.specs.declared.message.Message.TheVariants as message
use Rattle.cs_client.specs.Nodes.{nodes_in}
use Rattle.cs_client.specs.Inputs.{ClientInput, said_from, latest}
use Rattle.cs_client.specs.Objects.{shard_of_name}
use Rattle.cs_waits.specs.declared.words.Word.{Word}
use Rattle.cs_waits.specs.declared.words.Word.TheVariants.{Silent, Unused, Used}

-- ---- what a node says

-- the session that used an object up, as a state tells it
abbrev pub word_of_state : State → Word
word_of_state state.Unknown = Unused
word_of_state (state.Active object) = Unused
word_of_state (state.Locked object session) = Unused
word_of_state (state.Inactive session) = Used session
word_of_state (state.Shared object readers) = Unused

-- what is told of the object of this name
abbrev pub word_on : List ℕ → Key → State → Option Word
word_on name (key.Object told) s = if bytes_eq name told then Some (word_of_state s) else None
word_on name (key.Dummy shard serial) s = None

abbrev pub word_in : List ℕ → Message → Option Word
word_in name (message.Told key state) = word_on name key state
word_in name m = None

-- what a node says of it by an input
abbrev pub word_by : Keys → List ℕ → NodeId → ClientInput → Option Word
word_by keys name node input = option_and_then (word_in name) (said_from keys node input)

-- its last word on it
abbrev pub last_word : Keys → List ℕ → List ClientInput → NodeId → Word
last_word keys name inputs node = unwrap_or (latest (word_by keys name node) inputs) Silent

-- the last words of the nodes of its shard
abbrev pub words_on : Config → Keys → List ClientInput → List ℕ → List Word
words_on config keys inputs name = map (last_word keys name inputs) (nodes_in config.f (shard_of_name config name))

-- ---- what is believed

-- the word is that this session used it up
abbrev pub is_use : List ℕ → Word → Bool
is_use session Silent = false
is_use session Unused = false
is_use session (Used other) = bytes_eq session other

abbrev pub tellers : List ℕ → List Word → ℕ
tellers session words = count_by (is_use session) words

-- the first session of which more than f of all say so
abbrev pub first_user : ℕ → List Word → List Word → Option (List ℕ)
first_user f all [] = None
first_user f all (Silent ∷ words) = first_user f all words
first_user f all (Unused ∷ words) = first_user f all words
first_user f all (Used session ∷ words) =
    if nat_lt f (tellers session all) then Some session else first_user f all words

-- the session that used it up, as f+1 of the nodes say; of two that of the node of least index
abbrev pub user_in : ℕ → List Word → Option (List ℕ)
user_in f words = first_user f words words

-- f+1 of the nodes say anything
abbrev pub is_said : Word → Bool
is_said Silent = false
is_said Unused = true
is_said (Used session) = true

abbrev pub is_told : ℕ → List Word → Bool
is_told f words = nat_lt f (count_by is_said words)
