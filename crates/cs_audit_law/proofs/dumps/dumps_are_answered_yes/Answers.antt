use Rattle.std.proofs.Common.{ap, ◌≤◌, List, ℕ, refl, [], ◌++◌, length, arith}
use Rattle.std.proofs.lemmas.List.{length-append}
use Rattle.cs_base.specs.Version.{version_of}
use Rattle.cs_tx.specs.Sessions.{ledger_session}
use Rattle.cs_node_wire.specs.SlotCarried.{slot_carrier}
use Rattle.cs_node_wire.specs.laws.SlotCarried.{slot_carries}
use Rattle.cs_node_rules.specs.Net.{net_of}
use Rattle.cs_world_law.specs.Worlds.{IsWorld}
use Rattle.cs_world_law.specs.laws.Nets.{master_net}
use Rattle.cs_replay_rules.specs.Dumps.{dump_text}
use Rattle.cs_replay_rules.specs.Play.{lines}
use Rattle.cs_replay.specs.Site.{site_of_schedule}
use Rattle.cs_replay.specs.Played.{world_of, history_of}
use Rattle.cs_replay.proofs.Deployed.{are-given, few-liars}
use Rattle.cs_audit_law.specs.Answered.{digests, IsYes}
use Rattle.cs_audit_law.proofs.Dumped.{answered}
use Rattle.cs_audit_law.proofs.Printed.{yes-behind}
use Rattle.cs_audit_law.proofs.dumps.dumps_are_answered_yes.Goals as goal

pub returns : goal.returns
returns c = λ limit low approves schedule playable traced apart.
    let config = schedule.config in
    let genesis = schedule.genesis in
    let net = net_of config schedule.master schedule.liars in
    let is_net = master_net config schedule.master schedule.liars in
    let few : config.f ≤ 5 = playable.few_faulty in
    let world = world_of approves traced schedule in
    let played = c.schedules_play_worlds.ensures slot_carrier slot_carries config schedule.master schedule.liars genesis (ledger_session approves) traced schedule.events playable.few_shards few (are-given schedule playable) in
    let settled : IsWorld (site_of_schedule approves schedule) world = record {
      serves = refl;
      few = few-liars schedule playable;
      honest = played.honest;
      life = played.life;
      bytes = played.bytes;
      genuine = played.genuine;
    } in
    let first = ap version_of playable.version in
    let told = c.worlds_pass_audit.ensures in
    let longest = told.longest slot_carrier slot_carries config net genesis approves world playable.few_shards few is_net settled apart first in
    let passes = told.passes slot_carrier slot_carries config net genesis approves world playable.few_shards few is_net settled apart first in
    let fit = told.fit slot_carrier slot_carries config net genesis approves world playable.few_shards few is_net settled apart first in
    let sound = c.schedules_are_sound.ensures approves schedule playable traced [] world refl in
    let site = site_of_schedule approves schedule in
    let text = dump_text site schedule.contracts world in
    let before = lines site traced schedule.events in
    let told_history = digests (history_of approves traced schedule) in
    let alone : length text ≤ limit → IsYes limit approves schedule.contracts told_history text = answered limit low (c.printed_dumps_are_read.ensures limit) approves schedule playable world longest passes fit sound.executed_fit in
    record {
      alone = alone;
      behind = λ short.
          let within : length text ≤ limit = omega (arith, length-append before text) in
          yes-behind site traced schedule.events limit approves schedule.contracts told_history text (c.dumps_are_read_behind_lines.ensures limit) (alone within) short;
    }
