use Rattle.std.proofs.Common.{◌≡◌, ◌<◌, ◌+◌, true, List, [], ◌∷◌, length, ap, sym, subst, ◌∙◌, arith}
use Rattle.std.proofs.lemmas.List.{length-append}
use Rattle.cs_base.specs.NodeId.{is_node}
use Rattle.cs_base.specs.declared.node_id.NodeId.{NodeId}
use Rattle.cs_log.specs.contracts.slot_order.SlotOrderOrder.TheImpl as order
use Rattle.cs_node_rules.specs.Site.{start_view}
use Rattle.cs_node.specs.Cores.{CoreStandsFor}
use Rattle.cs_replay.specs.Site.{site_of_schedule}
use Rattle.cs_replay.specs.Settings.{honest_nodes, name_at_place}
use Rattle.cs_replay.proofs.Deployed.{each-more, all-begin, node-at}
use Rattle.cs_replay.proofs.starting.start_nodes.Goals as goal

pub start_node-requires-clause-node : goal.start_node-requires-clause-node
start_node-requires-clause-node g c =
    let schedule = c.args.schedule.now in
    let same : c.deref-name-items.result.now ≡ honest_nodes schedule = c.deref-name-items.ensures.value ∙ c.in_ok-names.ensures in
    let within : c.loop-name.name-index < length (honest_nodes schedule) = omega (arith, c.loop-name-test.true, ap length same) in
    subst (λ (names : List NodeId). is_node schedule.config (name_at_place names c.loop-name.name-index) ≡ true) (sym same) (node-at schedule c.requires c.loop-name.name-index within)

pub loop-name-preserved : goal.loop-name-preserved
loop-name-preserved g c =
    let schedule = c.args.schedule.now in
    let approves = g.J.Judge.is_approved c.args.judge in
    let site = site_of_schedule approves schedule in
    let cores = c.loop-name.cores.items in
    let core = c.in_ok-core.core in
    let same : c.deref-name-items.result.now ≡ honest_nodes schedule = c.deref-name-items.ensures.value ∙ c.in_ok-names.ensures in (
      ap length c.in_ok-push.ensures.items ∙ length-append cores (core ∷ []) ∙ ap (λ n. n + 1) c.loop-name.invariant.0,
      each-more order.ghosts.stands g.J.Judge.is_approved site cores c.push.new.self.items core (λ i. start_view site (name_at_place (honest_nodes schedule) i)) c.loop-name.name-index
          c.in_ok-push.ensures.items c.loop-name.invariant.0 c.loop-name.invariant.1
          (subst (λ (names : List NodeId). CoreStandsFor order.ghosts.stands g.J.Judge.is_approved site core (start_view site (name_at_place names c.loop-name.name-index))) same c.in_ok-core.ensures),
    )

pub returns-clause-nodes : goal.returns-clause-nodes
returns-clause-nodes g c =
    let schedule = c.args.schedule.now in
    let same : c.deref-name-items.result.now ≡ honest_nodes schedule = c.deref-name-items.ensures.value ∙ c.in_ok-names.ensures in
    let count : length c.loop-name.cores.items ≡ length (honest_nodes schedule) = omega (arith, c.loop-name.invariant.0, c.loop-name-test.false, c.loop-name.auto.name-index-end, ap length same) in
    all-begin order.ghosts.stands g.J.Judge.is_approved (site_of_schedule (g.J.Judge.is_approved c.args.judge) schedule) c.loop-name.cores.items schedule count c.loop-name.invariant.1
