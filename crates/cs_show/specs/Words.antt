-- What nodes say of the key that is looked up, and what is believed of it.
use Rattle.std.specs.Prelude.{ℕ, ◌==◌, nat_lt, Bool, false, ◌&&◌, bytes_eq, List, [], ◌∷◌, map, count_by, Option, Some, None, option_and_then, if◌then◌else◌}
use Rattle.cs_base.specs.declared.key.Key.{Key}
use Rattle.cs_base.specs.declared.key.Key.TheVariants as key
use Rattle.cs_base.specs.declared.node_id.NodeId.{NodeId}
use Rattle.cs_base.specs.Key.{shard_of_key}
use Rattle.cs_wire_message.specs.declared.message.Message.{Message}
use Rattle.cs_wire_message.specs.declared.message.Message.TheVariants as message
use Rattle.cs_client.specs.Nodes.{nodes_in}
use Rattle.cs_client.specs.Inputs.{ClientInput, said_from, latest}
use Rattle.cs_show.specs.declared.lookup.Lookup.{Lookup}
use Rattle.cs_show.specs.Lines.{state_line}

-- ---- what a node says

abbrev pub same_key : Key → Key → Bool
same_key (key.Object name) (key.Object other) = bytes_eq name other
same_key (key.Object name) (key.Dummy shard serial) = false
same_key (key.Dummy shard serial) (key.Object name) = false
same_key (key.Dummy shard serial) (key.Dummy other number) = shard == other && serial == number

-- what a message tells of a key, as the line that is printed of it
abbrev pub line_in : Key → Message → Option (List ℕ)
line_in k (message.Told other state) = if same_key k other then Some (state_line state) else None
line_in k m = None

-- a node's last word on the key
abbrev pub word_of : Lookup → List ClientInput → NodeId → Option (List ℕ)
word_of l inputs node = latest (λ input. option_and_then (line_in l.key) (said_from l.keys node input)) inputs

-- the shard that holds the key, and all its nodes
abbrev pub shard_asked : Lookup → ℕ
shard_asked l = shard_of_key l.config.shards l.key

abbrev pub nodes_asked : Lookup → List NodeId
nodes_asked l = nodes_in l.config.f (shard_asked l)

-- their last words
abbrev pub words_of : Lookup → List ClientInput → List (Option (List ℕ))
words_of l inputs = map (word_of l inputs) (nodes_asked l)

-- ---- what is believed

abbrev pub is_word : List ℕ → Option (List ℕ) → Bool
is_word line (Some other) = bytes_eq line other
is_word line None = false

abbrev pub sayers : List ℕ → List (Option (List ℕ)) → ℕ
sayers line words = count_by (is_word line) words

-- the first of these words that more than f of all are
abbrev pub first_said : ℕ → List (Option (List ℕ)) → List (Option (List ℕ)) → Option (List ℕ)
first_said f all [] = None
first_said f all (None ∷ words) = first_said f all words
first_said f all (Some line ∷ words) = if nat_lt f (sayers line all) then Some line else first_said f all words

-- the line that the last words of f+1 nodes have; of two that of the node of least index
abbrev pub seen : Lookup → List ClientInput → Option (List ℕ)
seen l inputs = first_said l.config.f (words_of l inputs) (words_of l inputs)
