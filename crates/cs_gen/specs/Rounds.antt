-- The rounds of a generated schedule, one for each coin: the coin is split, by a session that is said to all nodes of
-- the shards that it concerns, and then datagrams come. In one round of four a second session of the same transaction
-- is said too.
use Rattle.std.specs.Prelude.{ℕ, zero, suc, ◌+◌, ◌-◌, ◌*◌, ◌%◌, ◌==◌, not, List, [], ◌∷◌, ◌++◌, length, map, filter, count_by, slice_index, Option, Some, None, codes, if◌then◌else◌}
use Rattle.std.specs.List.{flat_map}
use Rattle.cs_base.specs.Config.{config_of}
use Rattle.cs_base.specs.NodeId.{members_below}
use Rattle.cs_base.specs.declared.config.Config.{Config}
use Rattle.cs_base.specs.declared.node_id.NodeId.{NodeId}
use Rattle.cs_base.specs.declared.node_id.TheConstants.{CLIENT_SHARD}
use Rattle.cs_tx_types.specs.declared.transaction.Tx.{Tx}
use Rattle.cs_tx_types.specs.declared.session.Session.{Session}
use Rattle.cs_tx_types.specs.Transaction.{Keyed}
use Rattle.cs_tx.specs.Digest.{name_of_genesis}
use Rattle.cs_tx.specs.Token.{token_id}
use Rattle.cs_tx.specs.Uses.{inputs_of, names, is_among, concerned_shards}
use Rattle.cs_base.specs.declared.version.Version.TheVariants.{One}
use Rattle.cs_wire_message.specs.Message.{kind_of, body_of}
use Rattle.cs_wire_message.specs.declared.message.Message.TheVariants.{Submit}
use Rattle.cs_sched.specs.declared.schedule.Event.{Event}
use Rattle.cs_sched.specs.declared.schedule.Event.TheVariants.{Say, Drain}
use Rattle.cs_gen.specs.Draws.{draw}
use Rattle.cs_gen.specs.Coins.{coin}

-- three shards of four nodes, each with eight dummies
abbrev pub layout : Config
layout = config_of 3 1 8

-- ---- the transaction of a round

-- one coin becomes two of these worths
abbrev pub transfer : Keyed → ℕ → ℕ → Tx
transfer input first second = record {
  traces =
      record {
        contract = token_id;
        method = codes "transfer";
        inputs = input ∷ [];
        references = [];
        parameters = [];
        outputs = coin first ∷ coin second ∷ [];
        returns = [];
        deps = [];
      }
      ∷ [];
}

-- the coin of this place and worth becomes one of this share and one of what is left
abbrev pub split_tx : ℕ → ℕ → ℕ → Tx
split_tx place worth share = transfer (name_of_genesis place (coin worth), coin worth) share (worth - share)

-- The transaction of the round of this number, in which the coin of that place is split. Each round has two draws, and
-- the first round's are made from this state: the first decides the share.
abbrev pub round_tx : ℕ → List ℕ → ℕ → Tx
round_tx state worths round =
    let worth = slice_index worths round in split_tx round worth (draw state (2 * round) % (worth + 1))

-- the second draw decides whether a second session is said, which then has this number: it is counted on behind the
-- first sessions of all rounds
abbrev pub second_number : ℕ → List ℕ → ℕ → Option ℕ
second_number state worths round =
    if draw state (2 * round + 1) % 4 == 0 then Some (length worths + round) else None

-- ---- its sessions

abbrev pub session : Tx → ℕ → List (ℕ × ℕ) → Session
session tx number dummies = record { tx = tx; number = number; dummies = dummies }

-- the shards that a transaction concerns
abbrev pub concerned_by : Tx → List ℕ
concerned_by tx = concerned_shards layout (session tx 0 [])

-- those of them that want a dummy, since no input is there
abbrev pub wanting_dummies : Tx → List ℕ
wanting_dummies tx = filter (λ shard. not (is_among layout shard (names (inputs_of tx)))) (concerned_by tx)

-- how many dummies of a shard the rounds before this one used: each shard counts its own
unfoldable pub serial : ℕ → List ℕ → ℕ → ℕ → ℕ
serial state worths shard zero = 0
serial state worths shard (suc round) =
    serial state worths shard round + count_by (λ other. other == shard) (wanting_dummies (round_tx state worths round))

-- the dummies of a round
abbrev pub dummies_of : ℕ → List ℕ → ℕ → List (ℕ × ℕ)
dummies_of state worths round =
    map (λ shard. (shard, serial state worths shard round)) (wanting_dummies (round_tx state worths round))

-- the session of a round, which has its number
abbrev pub round_session : ℕ → List ℕ → ℕ → Session
round_session state worths round = session (round_tx state worths round) round (dummies_of state worths round)

-- ---- what is said of them

-- the first client
abbrev pub client : NodeId
client = record { shard = CLIENT_SHARD; index = 0 }

-- a session is submitted to a node
abbrev pub submitted : Session → NodeId → Event
submitted x node = Say client node (kind_of (Submit x)) (body_of One (Submit x))

-- it is submitted to every node of these shards
abbrev pub submitted_to : Session → List ℕ → List Event
submitted_to x shards = flat_map (λ shard. map (submitted x) (members_below shard 4)) shards

-- so is the same session under another number, if one is said
abbrev pub submitted_again : Session → List ℕ → Option ℕ → List Event
submitted_again x shards None = []
submitted_again x shards (Some number) = submitted_to (record x { number = number }) shards

-- sessions that are said, and datagrams that come
abbrev pub round_with : Session → List ℕ → Option ℕ → List Event
round_with x shards second = submitted_to x shards ++ (submitted_again x shards second ++ Drain 100000 ∷ [])

-- the events of a round
abbrev pub events_of : ℕ → List ℕ → ℕ → List Event
events_of state worths round =
    round_with (round_session state worths round) (concerned_by (round_tx state worths round))
    (second_number state worths round)

-- the events of the first so many rounds
unfoldable pub events_below : ℕ → List ℕ → ℕ → List Event
events_below state worths zero = []
events_below state worths (suc rounds) = events_below state worths rounds ++ events_of state worths rounds
