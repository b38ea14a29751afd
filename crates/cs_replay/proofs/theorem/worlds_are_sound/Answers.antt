use Rattle.std.proofs.Common.{refl, subst}
use Rattle.cs_order_rules.specs.SlotMachine.{slot_machine}
use Rattle.cs_node_wire.specs.SlotCarried.{slot_carrier}
use Rattle.cs_node_wire.specs.laws.SlotCarried.{slot_carries}
use Rattle.cs_node_rules.specs.Ready.{AllQuiet}
use Rattle.cs_world_law.specs.Worlds.{IsWorld, deployed_site}
use Rattle.cs_replay.proofs.Earlier.{earlier_world}
use Rattle.cs_replay.proofs.theorem.worlds_are_sound.Goals as goal

pub returns : goal.returns
returns c = λ config net genesis approves world shards few is_net settled later earlier split.
    let site = deployed_site config net genesis approves slot_machine slot_carrier in
    let now : IsWorld site earlier = earlier_world site later earlier (subst (λ w. IsWorld site w) split settled) in
    let quiet : AllQuiet site earlier = λ i honest. c.events_end_quiet.ensures site refl earlier now.life i in
    let told = c.settled_world.ensures in
    let heads = c.heads_show_executions.ensures in
    record {
      executed = told.executed slot_carrier slot_carries config net genesis approves earlier shards few is_net now;
      executed_known = told.executed_known slot_carrier slot_carries config net genesis approves earlier shards few is_net now;
      executed_fit = told.executed_fit slot_carrier slot_carries config net genesis approves earlier shards few is_net now;
      executes_chosen = told.executes_chosen slot_carrier slot_carries config net genesis approves earlier shards few is_net now;
      says_handed = c.second_phase.ensures.said slot_carrier slot_carries config net genesis approves earlier shards few is_net now;
      quiet = quiet;
      agreement = c.second_phase.ensures.done slot_carrier slot_carries config net genesis approves earlier shards few is_net now quiet;
      tables = told.tables slot_carrier slot_carries config net genesis approves earlier shards few is_net now;
      checkpoints = heads.kept slot_carrier slot_carries config net genesis approves earlier shards few is_net now;
      shown = heads.shown slot_carrier slot_carries config net genesis approves earlier shards few is_net now;
      trusted = λ alone. record {
        allowed = told.allowed_alone slot_carrier slot_carries config net genesis approves earlier shards few is_net now alone;
        computed = told.computed_alone slot_carrier slot_carries config net genesis approves earlier shards few is_net now alone;
        logs = told.logs_alone slot_carrier slot_carries config net genesis approves earlier shards few is_net now alone;
        up_to_date = told.alone slot_carrier slot_carries config net genesis approves earlier shards few is_net now alone;
        votes_free = told.votes_free_alone slot_carrier slot_carries config net genesis approves earlier shards few is_net now alone;
      };
      one_history = λ apart. record {
        allowed = told.allowed slot_carrier slot_carries config net genesis approves earlier shards few is_net now apart;
        computed = told.computed slot_carrier slot_carries config net genesis approves earlier shards few is_net now apart;
        logs = told.logs slot_carrier slot_carries config net genesis approves earlier shards few is_net now apart;
        one_vote = told.one_vote slot_carrier slot_carries config net genesis approves earlier shards few is_net now apart;
        serial = told.serial slot_carrier slot_carries config net genesis approves earlier shards few is_net now apart;
        spent_once = told.spent_once slot_carrier slot_carries config net genesis approves earlier shards few is_net now apart;
        one_decision = told.one_decision slot_carrier slot_carries config net genesis approves earlier shards few is_net now apart;
        accepted = told.accepted slot_carrier slot_carries config net genesis approves earlier shards few is_net now apart;
        before = told.before slot_carrier slot_carries config net genesis approves earlier shards few is_net now apart;
        committed = told.committed slot_carrier slot_carries config net genesis approves earlier shards few is_net now apart;
        told_accepted = told.told_accepted slot_carrier slot_carries config net genesis approves earlier shards few is_net now apart;
        told_aborted = told.told_aborted slot_carrier slot_carries config net genesis approves earlier shards few is_net now apart;
        votes_free = told.votes_free slot_carrier slot_carries config net genesis approves earlier shards few is_net now apart;
        accepts_locked = told.accepts_locked slot_carrier slot_carries config net genesis approves earlier shards few is_net now apart;
        node_objects = told.node_objects slot_carrier slot_carries config net genesis approves earlier shards few is_net now apart;
        objects = told.objects slot_carrier slot_carries config net genesis approves earlier shards few is_net now apart;
        same_heads = heads.agreed slot_carrier slot_carries config net genesis approves earlier shards few is_net now apart;
      };
    }
