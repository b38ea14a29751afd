-- What a client knows, by its inputs.
use Rattle.std.specs.Prelude.{ℕ, ◌+◌, ◌*◌, nat_lt, Bool, true, false, not, ◌&&◌, ◌||◌, bytes_eq, List, [], ◌∷◌, if◌then◌else◌}
use Rattle.std.specs.List.{list_all, list_any}
use Rattle.std.specs.Option.{option_map_or}
use Rattle.cs_order.specs.Counts.{count_below}
use Rattle.cs_base.specs.declared.node_id.NodeId.{NodeId}
use Rattle.cs_tx_types.specs.declared.session.Session.{Session}
use Rattle.cs_tx.specs.Digest.{digest_of_session}
use Rattle.cs_tx.specs.Uses.{concerned_shards}
use Rattle.cs_wire_message.specs.declared.message.Message.{Message}
use Rattle.cs_wire_message.specs.declared.message.Message.TheVariants as message
use Rattle.cs_client.specs.declared.errand.Errand.{Errand}
use Rattle.cs_client.specs.declared.known.Known.{Known}
use Rattle.cs_client.specs.declared.known.Known.TheVariants as known
use Rattle.cs_client.specs.Inputs.{ClientInput, said_from}
use Rattle.cs_client.specs.Phases.{Phase, Asking, Wanting, Submitting, Idle, phase}

-- a message says that the session of this digest is accepted, or that it is aborted
abbrev pub is_decision : List ℕ → Bool → Message → Bool
is_decision digest accepted (message.Decided other so) =
    bytes_eq digest other && (if accepted then so else not so)
is_decision digest accepted m = false

-- it says so of the session that is submitted
abbrev pub says_decided : Phase → Bool → Message → Bool
says_decided Asking accepted m = false
says_decided (Wanting x) accepted m = false
says_decided (Submitting x) accepted m = is_decision (digest_of_session x) accepted m
says_decided Idle accepted m = false

-- a node has said so since submission began
abbrev pub has_decided : Errand → Bool → List ClientInput → NodeId → Bool
has_decided e accepted [] node = false
has_decided e accepted (input ∷ past) node =
    option_map_or (says_decided (phase e past) accepted) (said_from e.keys node input) false
    || has_decided e accepted past node

-- how many nodes of a shard have said so
abbrev pub deciders : Errand → Bool → List ClientInput → ℕ → ℕ
deciders e accepted inputs shard =
    count_below (3 * e.config.f + 1) (λ index. has_decided e accepted inputs (record { shard = shard; index = index }))

-- f+1 of them have
abbrev pub knows_decided : Errand → Bool → List ClientInput → ℕ → Bool
knows_decided e accepted inputs shard = nat_lt e.config.f (deciders e accepted inputs shard)

-- accepted, where f+1 nodes of each shard say so; else aborted, where f+1 nodes of one say so
abbrev pub outcome : List ℕ → Bool → Bool → Known
outcome digest accepted aborted =
    if accepted then known.Accepted digest else if aborted then known.Aborted digest else known.Open

abbrev pub known_of : Errand → List ClientInput → Session → Known
known_of e inputs x =
    outcome (digest_of_session x)
    (list_all (knows_decided e true inputs) (concerned_shards e.config x))
    (list_any (knows_decided e false inputs) (concerned_shards e.config x))

abbrev pub known_in : Errand → List ClientInput → Phase → Known
known_in e inputs Asking = known.Open
known_in e inputs (Wanting x) = known.Open
known_in e inputs (Submitting x) = known_of e inputs x
known_in e inputs Idle = known.Open

-- what a client knows after these inputs
abbrev pub knows : Errand → List ClientInput → Known
knows e inputs = known_in e inputs (phase e inputs)
