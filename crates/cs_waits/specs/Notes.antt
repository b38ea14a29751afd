-- What a client notes, as a function of its inputs, and how it changes. Of lists of inputs the newest stands first.
use Rattle.std.specs.Prelude.{ℕ, ◌+◌, ◌*◌, ◌==◌, Bool, List, [], ◌∷◌, ◌++◌, map, replicate, slice_set, Option, Some, None, if◌then◌else◌}
use Rattle.std.specs.List.{list_any}
use Rattle.cs_base.specs.declared.config.Config.{Config}
use Rattle.cs_base.specs.declared.node_id.NodeId.{NodeId}
use Rattle.cs_base.specs.NodeId.{same_name}
use Rattle.cs_wire.specs.declared.input.Out.{Out}
use Rattle.cs_wire.specs.declared.keys.Keys.{Keys}
use Rattle.cs_wire_message.specs.declared.message.Message.{Message}
use Rattle.cs_config.specs.declared.call.CallFile.{CallFile}
use Rattle.cs_client.specs.declared.errand.Errand.{Errand}
use Rattle.cs_client.specs.Inputs.{ClientInput, Said, heard}
use Rattle.cs_client.specs.Objects.{shard_of_name}
use Rattle.cs_client.specs.Sayings.{says_at, outs_of_sayings}
use Rattle.cs_waits.specs.declared.notes.Watched.{Watched}
use Rattle.cs_waits.specs.declared.words.Word.{Word}
use Rattle.cs_waits.specs.declared.words.Word.TheVariants.{Silent}
use Rattle.cs_waits.specs.Words.{word_in, words_on}

pub record Noted : Type 0 where
  pub watched : List Watched  -- the objects of the call, with the last word of each node
  pub asked : List NodeId  -- who was asked
  pub heard : List NodeId  -- of whom something came that opened

-- ---- lists of nodes

abbrev pub is_listed : NodeId → List NodeId → Bool
is_listed node nodes = list_any (λ other. same_name other node) nodes

abbrev pub with_node : NodeId → List NodeId → List NodeId
with_node node nodes = if is_listed node nodes then nodes else nodes ++ node ∷ []

-- with those for whom these are
abbrev pub with_asked : List Out → List NodeId → List NodeId
with_asked [] nodes = nodes
with_asked (out ∷ outs) nodes = with_asked outs (with_node out.to nodes)

-- with who says something, if anyone does
abbrev pub with_heard : Said → List NodeId → List NodeId
with_heard (Some said) nodes = with_node said.0 nodes
with_heard None nodes = nodes

-- ---- as a function of the inputs

-- the objects of a call, those to be used up first
abbrev pub objects_of : CallFile → List (List ℕ)
objects_of call = call.inputs ++ call.reads

abbrev pub watched_on : Config → Keys → List ClientInput → List ℕ → Watched
watched_on config keys inputs name = record { name = name; words = words_on config keys inputs name }

-- those for whom something was that the client said
abbrev pub asked_by : Errand → List ClientInput → List NodeId
asked_by e [] = []
asked_by e (input ∷ past) = with_asked (outs_of_sayings e.keys (says_at e input past)) (asked_by e past)

abbrev pub heard_by : Keys → List ClientInput → List NodeId
heard_by keys [] = []
heard_by keys (input ∷ past) = with_heard (heard keys input) (heard_by keys past)

abbrev pub notes_of : Errand → List ClientInput → Noted
notes_of e inputs = record {
  watched = map (watched_on e.config e.keys inputs) (objects_of e.call);
  asked = asked_by e inputs;
  heard = heard_by e.keys inputs;
}

-- ---- before the first input

abbrev pub unwatched : ℕ → List ℕ → Watched
unwatched members name = record { name = name; words = replicate members Silent }

abbrev pub nothing_noted : Config → CallFile → Noted
nothing_noted config call = record {
  watched = map (unwatched (3 * config.f + 1)) call.inputs ++ map (unwatched (3 * config.f + 1)) call.reads;
  asked = [];
  heard = [];
}

-- ---- one input more

-- these words, with one in the place of this node's last one, where it is of the shard
abbrev pub put_from : NodeId → Word → List Word → Bool → List Word
put_from from word words there = if there then slice_set words from.index word else words

abbrev pub with_told : Config → NodeId → Option Word → Watched → Watched
with_told config from (Some word) w =
    record w { words = put_from from word w.words (from.shard == shard_of_name config w.name) }
with_told config from None w = w

abbrev pub with_word : Config → NodeId → Message → Watched → Watched
with_word config from m w = with_told config from (word_in w.name m) w

-- a node said this
abbrev pub after_said : Config → Said → Noted → Noted
after_said config (Some said) noted =
    record noted { watched = map (with_word config said.0 said.1) noted.watched; heard = with_node said.0 noted.heard }
after_said config None noted = noted

-- the client said this
abbrev pub after_asking : List Out → Noted → Noted
after_asking outs noted = record noted { asked = with_asked outs noted.asked }
