use Rattle.std.proofs.Common.{◌≡◌, None, sym, subst, ap, refl, ◌∙◌}
use Rattle.cs_base.specs.declared.node_id.NodeId.{NodeId}
use Rattle.cs_base.specs.Version.{version_of}
use Rattle.cs_ledger.specs.Table.{start as begun}
use Rattle.cs_node_rules.specs.Site.{start_view}
use Rattle.cs_node_rules.specs.Deployment.{site_of}
use Rattle.cs_node_rules.proofs.Starting.{start-quiet}
use Rattle.cs_table.specs.Genesis.{twice, genesis_rules}
use Rattle.cs_node_pool.specs.Deployed.{deployed_setup}
use Rattle.cs_sbac.specs.Held.{Held}
use Rattle.cs_node.specs.Cores.{KeepsView}
use Rattle.cs_node.specs.Speaking.{Speaks}
use Rattle.cs_sbac.proofs.Fit.{all-fit}
use Rattle.cs_node.proofs.Judged.{keeps-judged}
use Rattle.cs_node.proofs.Starting.{begun_with, started}
use Rattle.cs_node.proofs.node_core.Core.start.Goals as goal

pub genesis-requires : goal.genesis-requires
genesis-requires g c = all-fit c.args.genesis.now c.requires.objects

pub returns-clause-starts : goal.returns-clause-starts
returns-clause-starts g c =
    subst (λ (name : NodeId). twice c.args.config.shards name.shard c.args.genesis.now ≡ None) c.me-me.ensures c.in-Ok.ensures.finds

pub returns-clause-stands : goal.returns-clause-stands
returns-clause-stands g c = λ objects named net speaks.
    let approves = g.J.Judge.is_approved in
    let rules = g.O.Order.rules in
    let carried = g.O.Carried.carrier in
    let me = c.args.keys.me in
    let setup = deployed_setup c.args.config objects (approves c.args.judge) in
    let site = site_of setup net rules carried in
    let held : NodeId → Held = begun_with c.args.config c.in-Ok.table c.in_ok-sbac.sbac.archived.hashed in
    let sbac-is : c.in_ok-sbac.sbac ≡ held me = c.in_ok-sbac.ensures ∙ ap held c.me-me.ensures in
    let P : Held → Type 0 = λ sbac. KeepsView g.O.Order.stands approves setup (record { order = c.args.order; judge = c.args.judge; sbac = sbac }) (start_view site me) in
    let S : Held → Type 0 = λ sbac. Speaks sbac.config net c.args.keys in
    record {
      keeps = keeps-judged g.O.Order.stands approves setup (record { order = c.args.order; judge = c.args.judge; sbac = c.in_ok-sbac.sbac }) c.new-judge.result (start_view site me) c.new-judge.ensures
          (subst P (sym sbac-is)
          (started g.O.Order.stands approves rules carried net c.args.config me objects c.args.genesis.now c.args.order c.args.judge c.in-Ok.table c.in_ok-sbac.sbac.archived.hashed (g.O.Order.f c.args.order) (g.O.Order.me c.args.order)
          (g.met.O.Order.begins c.args.order c.requires.start) c.requires.f c.requires.me c.requires.node (ap version_of c.requires.version) named
          (c.in-Ok.ensures.table ∙ ap (λ (name : NodeId). begun (genesis_rules c.args.config c.args.genesis.now) name.shard) c.me-me.ensures)
          c.root_is_shown.ensures.keys));
      me_is = refl;
      speaks = subst S (sym sbac-is) speaks;
      quiet = start-quiet site me g.met.O.Order.holds g.O.Order.left g.met.O.Order.comes_to_rest;
    }
