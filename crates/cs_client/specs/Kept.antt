-- What a client keeps of its inputs.
use Rattle.std.specs.Prelude.{◌≡◌, ℕ, ◌+◌, ◌*◌, ◌==◌, Bool, false, bytes_eq, is_some, List, [], ◌∷◌, length, map, replicate, slice_get, slice_set, unwrap_or, Option, Some, None, option_map, option_and_then, if◌then◌else◌}
use Rattle.std.specs.List.{list_all, AllByRecursion}
use Rattle.cs_base.specs.declared.config.Config.{Config}
use Rattle.cs_base.specs.declared.key.Key.{Key}
use Rattle.cs_base.specs.declared.key.Key.TheVariants as key
use Rattle.cs_base.specs.declared.node_id.NodeId.{NodeId}
use Rattle.cs_base.specs.Key.{shard_of_key}
use Rattle.cs_tx_value.specs.declared.object.Object.{Object}
use Rattle.cs_tx_value.specs.Object.{ObjectFits}
use Rattle.cs_tx_types.specs.Transaction.{Keyed}
use Rattle.cs_tx_types.specs.declared.state.State.{State}
use Rattle.cs_wire.specs.declared.keys.Keys.{Keys}
use Rattle.cs_client.specs.declared.beliefs.Asked.{Asked}
use Rattle.cs_client.specs.declared.beliefs.Objects.{Objects}
use Rattle.cs_client.specs.declared.errand.Errand.{Errand}
use Rattle.cs_client.specs.Nodes.{numbers_below}
use Rattle.cs_client.specs.Inputs.{ClientInput}
use Rattle.cs_client.specs.Objects.{word_told, words_on, believed_in}
use Rattle.cs_dummies.specs.Named.{DummyWord, named_with, least_named}
use Rattle.cs_client.specs.Dummies.{serials_in}
use Rattle.cs_client.specs.Calls.{objects_with}

-- the last words of nodes on all that a client is to know
pub record WordsTold : Type 0 where
  pub inputs : List Asked
  pub reads : List Asked
  pub first : Option ℕ  -- the first dummy that is asked for; else any is
  pub serials : List (List (List ℕ))  -- of each shard, the dummies that each node names

-- ---- as a function of the inputs

abbrev pub asked_with : ℕ → List ℕ → List (Option Object) → Asked
asked_with f name words = record { name = name; words = words; settled = is_some (believed_in f words) }

abbrev pub asked_on : Config → Keys → List ClientInput → List ℕ → Asked
asked_on config keys inputs name = asked_with config.f name (words_on config keys name inputs)

abbrev pub told_by_inputs : Errand → List ClientInput → WordsTold
told_by_inputs e inputs = record {
  inputs = map (asked_on e.config e.keys inputs) e.call.inputs;
  reads = map (asked_on e.config e.keys inputs) e.call.reads;
  first = e.dummy;
  serials = map (serials_in e.dummy e.config e.keys inputs) (numbers_below e.config.shards);
}

-- ---- before the first input

abbrev pub unheard_on : ℕ → List ℕ → Asked
unheard_on members name = record { name = name; words = replicate members None; settled = false }

abbrev pub unheard : Config → Option ℕ → List (List ℕ) → List (List ℕ) → WordsTold
unheard config first inputs reads = record {
  inputs = map (unheard_on (3 * config.f + 1)) inputs;
  reads = map (unheard_on (3 * config.f + 1)) reads;
  first = first;
  serials = replicate config.shards (replicate (3 * config.f + 1) []);
}

-- ---- one word more

abbrev pub with_word : ℕ → ℕ → Option Object → Asked → Asked
with_word f index word asked = asked_with f asked.name (slice_set asked.words index word)

-- where it is on this name
abbrev pub word_of_name : ℕ → List ℕ → ℕ → Option Object → Asked → Asked
word_of_name f name index word asked = if bytes_eq asked.name name then with_word f index word asked else asked

-- what the nodes of a shard name, and what the one of this index there does
abbrev pub serials_kept : List (List (List ℕ)) → ℕ → List (List ℕ)
serials_kept serials shard = unwrap_or (slice_get serials shard) []

abbrev pub named_kept : List (List ℕ) → ℕ → List ℕ
named_kept words index = unwrap_or (slice_get words index) []

abbrev pub with_dummy_word : Option ℕ → ℕ → DummyWord → List (List ℕ) → List (List ℕ)
with_dummy_word first index word words = slice_set words index (named_with first word (named_kept words index))

abbrev pub with_serial : Option ℕ → ℕ → ℕ → DummyWord → List (List (List ℕ)) → List (List (List ℕ))
with_serial first shard index word serials =
    slice_set serials shard (with_dummy_word first index word (serials_kept serials shard))

-- a node of the key's shard told of it
abbrev pub told_with_state : ℕ → NodeId → Key → Option Object → WordsTold → WordsTold
told_with_state f from (key.Object name) word told =
    record told {
      inputs = map (word_of_name f name from.index word) told.inputs;
      reads = map (word_of_name f name from.index word) told.reads;
    }
told_with_state f from (key.Dummy shard serial) word told =
    record told {
      serials = with_serial told.first from.shard from.index (serial, is_some word) told.serials;
    }

-- what a node told of a key, where it is one of the key's shard
abbrev pub heard_of : Config → NodeId → Key → State → WordsTold → WordsTold
heard_of config from key state told =
    if shard_of_key config.shards key == from.shard
    then told_with_state config.f from key (word_told key state) told
    else told

-- ---- its form

-- an object within its limits, if any
abbrev pub WordFits : Option Object → Type 0
WordFits None = Unit {0}
WordFits (Some object) = ObjectFits object

abbrev pub WordsFit : List (Option Object) → Type 0
WordsFit words = AllByRecursion WordFits words

-- a word of each of so many nodes
pub record AskedFits (members : ℕ) (asked : Asked) : Type 0 where
  pub all : length asked.words ≡ members
  pub fit : WordsFit asked.words

abbrev pub EachFits : ℕ → List Asked → Type 0
EachFits members asked = AllByRecursion (AskedFits members) asked

abbrev pub HasAll : ℕ → List (List ℕ) → Type 0
HasAll members words = length words ≡ members

-- words of all nodes of all shards
pub record ToldFits (config : Config) (told : WordsTold) : Type 0 where
  pub inputs : EachFits (3 * config.f + 1) told.inputs
  pub reads : EachFits (3 * config.f + 1) told.reads
  pub shards : length told.serials ≡ config.shards
  pub serials : AllByRecursion (HasAll (3 * config.f + 1)) told.serials

-- ---- what is believed of what is kept

abbrev pub objects_believed : ℕ → List Asked → Option (List Keyed)
objects_believed f [] = Some []
objects_believed f (asked ∷ more) = objects_with asked.name (believed_in f asked.words) (objects_believed f more)

abbrev pub are_settled : List Asked → Bool
are_settled asked = list_all (λ one. one.settled) asked

-- the flags say what the words do
abbrev pub FlagsSayWords : ℕ → Asked → Type 0
FlagsSayWords f asked = asked.settled ≡ is_some (believed_in f asked.words)

abbrev pub dummy_kept : ℕ → List (List (List ℕ)) → ℕ → Option ℕ
dummy_kept f serials shard = least_named f (serials_kept serials shard)

-- the objects of both, where there are both
abbrev pub objects_kept : ℕ → WordsTold → Option Objects
objects_kept f told =
    option_and_then (λ i. option_map (λ r. record { inputs = i; reads = r }) (objects_believed f told.reads))
    (objects_believed f told.inputs)

-- all flags say what the words do
pub record ToldMarked (f : ℕ) (told : WordsTold) : Type 0 where
  pub inputs : AllByRecursion (FlagsSayWords f) told.inputs
  pub reads : AllByRecursion (FlagsSayWords f) told.reads
