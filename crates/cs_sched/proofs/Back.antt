-- What is printed of a name is read as that name.
use Rattle.std.specs.Prelude.{◌≡◌, ◌<◌, ◌≤◌, ◌*◌, ◌^◌, ◌==◌, nat_lt, nat_le, true, false, List, Ok}
use Rattle.std.proofs.Common.{refl, arith, inl, inr}
use Rattle.std.proofs.lemmas.Bool.{cases_Bool, and_parts, ltb-true, leb-true, eqb-true}
use Rattle.std.proofs.lemmas.Bool.Decides.{nat_tests}
use Rattle.cs_base.specs.NodeId.{node_text, is_node, is_named, is_client}
use Rattle.cs_base.specs.declared.config.Config.{Config}
use Rattle.cs_base.specs.declared.limits.TheConstants.{MOST_SHARDS, MOST_LIARS}
use Rattle.cs_base.specs.declared.node_id.NodeId.{NodeId}
use Rattle.cs_base.specs.declared.node_id.TheConstants.{CLIENT_SHARD, CLIENTS}
use Rattle.cs_base.proofs.NodeTexts.{node_of-node_text}
use Rattle.cs_sched.specs.Naming.{name_of_field, speaker_in, honest_in}
use Rattle.cs_sched.specs.Playable.{IsHonest, IsSpeaker}

-- a name of the configuration has numbers of 16 bits
pub record IsSmall (name : NodeId) : Type 0 where
  pub shard : name.shard < 2 ^ 16
  pub index : name.index < 2 ^ 16

pub node_small : (config : Config) (name : NodeId) → is_node config name ≡ true → IsSmall name
node_small config name is =
    let (in_shard, in_range) = and_parts (nat_lt name.shard config.shards) (nat_le name.index (3 * config.f)) is in
    let below : name.shard < config.shards = ltb-true name.shard config.shards in_shard in
    let within : name.index ≤ 3 * config.f = leb-true name.index (3 * config.f) in_range in
    let few_shards : config.shards ≤ MOST_SHARDS = config.few_shards in
    let few_liars : config.f ≤ MOST_LIARS = config.few_liars in
    record { shard = omega arith; index = omega arith }

client_small : (name : NodeId) → is_client name ≡ true → IsSmall name
client_small name is =
    let (client, few) = and_parts (name.shard == CLIENT_SHARD) (nat_lt name.index CLIENTS) is in
    let shard : name.shard ≡ CLIENT_SHARD = eqb-true name.shard CLIENT_SHARD client in
    let index : name.index < CLIENTS = ltb-true name.index CLIENTS few in
    record { shard = omega arith; index = omega arith }

pub named_small : (config : Config) (name : NodeId) → is_named config name ≡ true → IsSmall name
named_small config name is =
    elim (cases_Bool (is_node config name)) [
      | inl node ↦ node_small config name node
      | inr other ↦ let client : is_client name ≡ true = rw other at is in client_small name client
    ]

pub named_back : (config : Config) (name : NodeId) → is_named config name ≡ true → name_of_field config (node_text name) ≡ Ok name
named_back config name is =
    let small = named_small config name is in
    rw (node_of-node_text name small.shard small.index, is) refl

-- a node is no client
pub node_named : (config : Config) (name : NodeId) → is_node config name ≡ true → is_named config name ≡ true
node_named config name is = rw is refl

pub node_no_client : (config : Config) (name : NodeId) → is_node config name ≡ true → is_client name ≡ false
node_no_client config name is =
    let (in_shard, in_range) = and_parts (nat_lt name.shard config.shards) (nat_le name.index (3 * config.f)) is in
    let below : name.shard < config.shards = ltb-true name.shard config.shards in_shard in
    let few_shards : config.shards ≤ MOST_SHARDS = config.few_shards in
    let other : (name.shard == CLIENT_SHARD) ≡ false = grind (arith, nat_tests) in
    rw other refl

pub speaker_back : (config : Config) (liars : List NodeId) (name : NodeId) → IsSpeaker config liars name → speaker_in config liars (node_text name) ≡ Ok name
speaker_back config liars name is = rw (named_back config name is.named, is.speaks) refl

pub honest_small : (config : Config) (liars : List NodeId) (name : NodeId) → IsHonest config liars name → IsSmall name
honest_small config liars name is = node_small config name is.node

pub honest_back : (config : Config) (liars : List NodeId) (name : NodeId) → IsHonest config liars name → honest_in config liars (node_text name) ≡ Ok name
honest_back config liars name is = rw (named_back config name (node_named config name is.node), node_no_client config name is.node, is.honest) refl
