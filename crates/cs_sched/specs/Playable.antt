-- What every schedule meets that is read.
use Rattle.std.specs.Prelude.{◌≡◌, ◌≢◌, ℕ, ◌<◌, ◌≤◌, ◌^◌, true, false, ◌||◌, List, length}
use Rattle.std.specs.List.{All, AllPairs}
use Rattle.cs_base.specs.Fields.{IsBytes}
use Rattle.cs_base.specs.NodeId.{is_node, is_named, is_client}
use Rattle.cs_base.specs.declared.config.Config.{Config}
use Rattle.cs_base.specs.declared.limits.TheConstants.{MOST_SHARDS, MOST_LIARS, MOST_BODY, MOST_DATAGRAM, MOST_GENESIS}
use Rattle.cs_base.specs.declared.node_id.NodeId.{NodeId}
use Rattle.cs_tx_value.specs.Object.{ObjectFits}
use Rattle.cs_lang_token.specs.declared.limits.TheConstants.{MOST_TEXT}
use Rattle.cs_types.specs.Accepting.{is_refused}
use Rattle.cs_sched.specs.declared.schedule.Schedule.{Schedule}
use Rattle.cs_sched.specs.declared.schedule.Event.{Event}
use Rattle.cs_sched.specs.declared.schedule.Event.TheVariants.{Say, Inject, Deliver, Tick, Drain}
use Rattle.cs_sched.specs.declared.limits.TheConstants.{MOST_CONTRACTS}
use Rattle.cs_sched.specs.Naming.{is_liar, liars_of}
use Rattle.cs_tx.specs.GenesisNames.{genesis_names}

-- an honest node: one of the configuration that is none of the liars
pub record IsHonest (config : Config) (liars : List NodeId) (name : NodeId) : Type 0 where
  pub node : is_node config name ≡ true
  pub honest : is_liar liars name ≡ false

-- one whose words the schedule says: a client or a liar
pub record IsSpeaker (config : Config) (liars : List NodeId) (name : NodeId) : Type 0 where
  pub named : is_named config name ≡ true
  pub speaks : (is_client name || is_liar liars name) ≡ true

-- a client or a liar says something to an honest node
pub record IsPlayableSay (config : Config) (liars : List NodeId) (from to : NodeId) (number : ℕ) (bytes : List ℕ)
    : Type 0 where
  pub speaker : IsSpeaker config liars from
  pub listener : IsHonest config liars to
  pub kind : number ≤ 255
  pub short : length bytes ≤ MOST_BODY
  pub in_bytes : IsBytes bytes

-- an honest node is given bytes
pub record IsInjected (config : Config) (liars : List NodeId) (to : NodeId) (bytes : List ℕ) : Type 0 where
  pub node : IsHonest config liars to
  pub short : length bytes ≤ MOST_DATAGRAM
  pub in_bytes : IsBytes bytes

-- an event that can stand in a schedule of these liars
abbrev pub IsPlayableEvent : Config → List NodeId → Event → Type 0
IsPlayableEvent config liars (Say from to kind body) = IsPlayableSay config liars from to kind body
IsPlayableEvent config liars (Inject to bytes) = IsInjected config liars to bytes
IsPlayableEvent config liars (Deliver number) = number < 2 ^ 64
IsPlayableEvent config liars (Tick node) = IsHonest config liars node
IsPlayableEvent config liars (Drain times) = times < 2 ^ 64

-- a text of bytes that is a contract, and is accepted
pub record IsContractText (text : List ℕ) : Type 0 where
  pub in_bytes : IsBytes text
  pub short : length text ≤ MOST_TEXT
  pub accepted : is_refused text ≡ false

-- Up to 16 shards of 3f+1 nodes each make up the deployment, of version 1, with f up to 5. At most f nodes of a shard are liars, and
-- none is one twice. The contracts are accepted. The objects have encodings, and no two of them one key.
pub record IsPlayable (schedule : Schedule) : Type 0 where
  pub some_shard : 0 < schedule.config.shards
  pub few_shards : schedule.config.shards ≤ MOST_SHARDS
  pub few_faulty : schedule.config.f ≤ MOST_LIARS
  pub version : schedule.config.version ≡ 1
  pub liars : All (λ name. is_node schedule.config name ≡ true) schedule.liars
  pub few_liars : (shard : ℕ) → liars_of schedule.liars shard ≤ schedule.config.f
  pub liars_differ : AllPairs (λ a b. a ≢ b) schedule.liars
  pub contracts : All IsContractText schedule.contracts
  pub few_contracts : length schedule.contracts ≤ MOST_CONTRACTS
  pub objects : All ObjectFits schedule.genesis
  pub few_objects : length schedule.genesis ≤ MOST_GENESIS
  pub keys_differ : AllPairs (λ a b. a ≢ b) (genesis_names 0 schedule.genesis)
  pub events : All (λ numbered. IsPlayableEvent schedule.config schedule.liars numbered.1) schedule.events
