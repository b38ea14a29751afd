-- What a client says, by its inputs.
use Rattle.std.specs.Prelude.{ℕ, ◌+◌, ◌^◌, nat_lt, List, [], ◌∷◌, ◌++◌, map, Option, Some, None, if◌then◌else◌}
use Rattle.std.specs.List.{flat_map}
use Rattle.cs_base.specs.declared.config.Config.{Config}
use Rattle.cs_base.specs.declared.key.Key.TheVariants as key
use Rattle.cs_base.specs.declared.node_id.NodeId.{NodeId}
use Rattle.cs_io.specs.declared.link.MemInput.TheVariants as came
use Rattle.cs_tx_types.specs.declared.session.Session.{Session}
use Rattle.cs_tx.specs.Uses.{concerned_shards}
use Rattle.cs_wire_message.specs.declared.message.Message.{Message}
use Rattle.cs_wire_message.specs.declared.message.Message.TheVariants as message
use Rattle.cs_base.specs.declared.version.Version.{Version}
use Rattle.cs_wire_message.specs.Message.{kind_of, body_of}
use Rattle.cs_wire.specs.declared.input.Out.{Out}
use Rattle.cs_wire.specs.declared.keys.Row.{Row}
use Rattle.cs_wire.specs.declared.keys.Keys.{Keys}
use Rattle.cs_wire.specs.Keys.{row_of}
use Rattle.cs_wire.specs.Datagram.{datagram_with}
use Rattle.cs_client.specs.declared.errand.Errand.{Errand}
use Rattle.cs_client.specs.declared.known.Known.{Known}
use Rattle.cs_client.specs.declared.known.Known.TheVariants as known
use Rattle.cs_dummies.specs.declared.limits.TheConstants.{MOST_ASKED}
use Rattle.cs_client.specs.Nodes.{nodes_in, nodes_of_shards, numbers_below}
use Rattle.cs_client.specs.Inputs.{ClientInput}
use Rattle.cs_client.specs.Objects.{shard_of_name}
use Rattle.cs_client.specs.Sessions.{bare_shards}
use Rattle.cs_client.specs.Phases.{Phase, Asking, Wanting, Submitting, Idle, phase}
use Rattle.cs_client.specs.Knowing.{knows}

-- who is told what
abbrev pub Saying : Type 0
Saying = NodeId × Message

abbrev pub say_to_each : List NodeId → Message → List Saying
say_to_each nodes m = map (λ to. (to, m)) nodes

-- ---- the sayings of the phases

-- it asks the nodes of its shard for an object
abbrev pub asks_on : Config → List ℕ → List Saying
asks_on config name =
    say_to_each (nodes_in config.f (shard_of_name config name)) (message.Ask (Some (key.Object name)))

-- the inputs are asked for before what is read
abbrev pub asks : Errand → List Saying
asks e = flat_map (asks_on e.config) e.call.inputs ++ flat_map (asks_on e.config) e.call.reads

-- it asks the nodes of a shard for the dummy so far behind the first one
abbrev pub wants_one : Config → ℕ → ℕ → ℕ → List Saying
wants_one config first shard number =
    if nat_lt (first + number) (2 ^ 64)
    then say_to_each (nodes_in config.f shard) (message.Ask (Some (key.Dummy shard (first + number)))) else []

abbrev pub wants_from : Config → ℕ → ℕ → List Saying
wants_from config first shard = flat_map (wants_one config first shard) (numbers_below MOST_ASKED)

-- it asks the nodes of these shards for dummies from the first one on, or for any
abbrev pub wants_in : Config → Option ℕ → List ℕ → List Saying
wants_in config (Some first) shards = flat_map (wants_from config first) shards
wants_in config None shards = say_to_each (nodes_of_shards config.f shards) (message.Ask None)

-- it wants one of each concerned shard without an input
abbrev pub wants : Errand → Session → List Saying
wants e x = wants_in e.config e.dummy (bare_shards e.config x)

-- it submits the session to the nodes of all concerned shards
abbrev pub submits : Errand → Session → List Saying
submits e x = say_to_each (nodes_of_shards e.config.f (concerned_shards e.config x)) (message.Submit x)

-- ---- at an input

abbrev pub where_open : Known → List Saying → List Saying
where_open known.Open sayings = sayings
where_open (known.Accepted digest) sayings = []
where_open (known.Aborted digest) sayings = []

-- what a phase says at a tick, with this known
abbrev pub again : Errand → Known → Phase → List Saying
again e so_far Asking = asks e
again e so_far (Wanting x) = wants e x
again e so_far (Submitting x) = where_open so_far (submits e x)
again e so_far Idle = []

abbrev pub at_tick : ClientInput → List Saying → List Saying
at_tick (came.Datagram bytes) sayings = []
at_tick came.Tick sayings = sayings

-- what is said as one phase follows on another; the first says nothing as it begins
abbrev pub on_entering : Errand → Phase → Phase → List Saying
on_entering e Asking (Wanting x) = wants e x
on_entering e Asking (Submitting x) = wants e x ++ submits e x
on_entering e (Wanting y) (Submitting x) = submits e x
on_entering e old new = []

-- what a client says at an input, after those before it
abbrev pub says_at : Errand → ClientInput → List ClientInput → List Saying
says_at e input past =
    at_tick input (again e (knows e past) (phase e past)) ++ on_entering e (phase e past) (phase e (input ∷ past))

-- all that it says at these inputs, the oldest first
abbrev pub says_by : Errand → List ClientInput → List Saying
says_by e [] = []
says_by e (input ∷ past) = says_by e past ++ says_at e input past

-- ---- as datagrams

-- the datagram to a peer; to one without a key there is none
abbrev pub out_by : Version → NodeId → NodeId → ℕ → List ℕ → Option Row → List Out
out_by version me to kind body (Some row) = record { to = to; bytes = datagram_with version row.to me to kind body } ∷ []
out_by version me to kind body None = []

-- that of one body to each of these
abbrev pub outs_with : Keys → ℕ → List ℕ → List NodeId → List Out
outs_with keys kind body nodes = flat_map (λ to. out_by keys.version keys.me to kind body (row_of to keys)) nodes

abbrev pub out_of : Keys → Saying → List Out
out_of keys said = out_by keys.version keys.me said.0 (kind_of said.1) (body_of keys.version said.1) (row_of said.0 keys)

abbrev pub outs_of_sayings : Keys → List Saying → List Out
outs_of_sayings keys sayings = flat_map (out_of keys) sayings
