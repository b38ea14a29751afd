use Rattle.std.specs.Prelude.{IfOk}
use Rattle.std.proofs.Common.{◌≡◌, true, sym, ap, subst, ◌∙◌}
use Rattle.cs_base.specs.Version.{version_of}
use Rattle.cs_base.specs.NodeId.{is_node}
use Rattle.cs_base.specs.declared.node_id.NodeId.{NodeId}
use Rattle.cs_node_rules.specs.Site.{start_view}
use Rattle.cs_node.specs.Cores.{CoreStandsFor}
use Rattle.cs_log.specs.contracts.slot_order.SlotOrderOrder.TheImpl as order
use Rattle.cs_replay.specs.Site.{site_of_schedule, net_of_schedule}
use Rattle.cs_replay.proofs.starting.start_node.Goals as goal

pub start-requires-clause-first : goal.start-requires-clause-first
start-requires-clause-first g c = c.in_ok-keys.ensures.version ∙ ap version_of c.requires.playable.version

pub start-requires-clause-version : goal.start-requires-clause-version
start-requires-clause-version g c = c.requires.playable.version

pub start-requires-clause-node : goal.start-requires-clause-node
start-requires-clause-node g c =
    subst (λ (name : NodeId). is_node c.args.schedule.now.config name ≡ true) (sym c.in_ok-keys.ensures.me) c.requires.node

pub start-requires-clause-genesis : goal.start-requires-clause-genesis
start-requires-clause-genesis g c = (
  c.args.schedule.now.genesis,
  record {
    keyed = c.requires.genesis;
    fits = c.requires.playable.objects;
    differ = c.requires.playable.keys_differ;
  },
)

pub returns : goal.returns
returns g c =
    let schedule = c.args.schedule.now in
    let approves = g.J.Judge.is_approved c.args.judge in
    let site = site_of_schedule approves schedule in
    let keys = c.in_ok-keys.keys in
    let speaks = c.keys_of_a_master_speak.ensures schedule.config schedule.master schedule.liars c.args.name keys c.requires.playable.few_shards c.requires.playable.version c.requires.node c.in_ok-keys.ensures in
    subst (λ (name : NodeId). IfOk c.start.result (λ core. CoreStandsFor order.ghosts.stands g.J.Judge.is_approved site core (start_view site name))) c.in_ok-keys.ensures.me
    (c.start.ensures schedule.genesis c.requires.genesis (net_of_schedule schedule) speaks)
