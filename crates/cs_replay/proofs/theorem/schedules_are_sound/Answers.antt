use Rattle.std.proofs.Common.{◌≤◌, refl}
use Rattle.cs_tx.specs.Sessions.{ledger_session}
use Rattle.cs_node_wire.specs.SlotCarried.{slot_carrier}
use Rattle.cs_node_wire.specs.laws.SlotCarried.{slot_carries}
use Rattle.cs_node_rules.specs.Net.{net_of}
use Rattle.cs_world_law.specs.Worlds.{IsWorld}
use Rattle.cs_world_law.specs.laws.Nets.{master_net}
use Rattle.cs_replay.specs.Site.{site_of_schedule}
use Rattle.cs_replay.specs.Played.{world_of}
use Rattle.cs_replay.proofs.Deployed.{are-given, few-liars}
use Rattle.cs_replay.proofs.theorem.schedules_are_sound.Goals as goal

pub returns : goal.returns
returns c = λ approves schedule playable traced.
    let config = schedule.config in
    let master = schedule.master in
    let liars = schedule.liars in
    let genesis = schedule.genesis in
    let few : config.f ≤ 5 = playable.few_faulty in
    let played = c.schedules_play_worlds.ensures slot_carrier slot_carries config master liars genesis (ledger_session approves) traced schedule.events playable.few_shards few (are-given schedule playable) in
    let world = world_of approves traced schedule in
    let settled : IsWorld (site_of_schedule approves schedule) world = record {
      serves = refl;
      few = few-liars schedule playable;
      honest = played.honest;
      life = played.life;
      bytes = played.bytes;
      genuine = played.genuine;
    } in
    c.worlds_are_sound.ensures config (net_of config master liars) genesis approves world playable.few_shards few (master_net config master liars) settled
