use Rattle.std.proofs.Common.{◌∙◌, ap, subst}
use Rattle.std.specs.Prelude.{IfOk}
use Rattle.cs_order_rules.specs.SlotMachine.{slot_machine}
use Rattle.cs_approve.specs.Books.{Contracts}
use Rattle.cs_native.specs.Approval.{is_approved_with_rules}
use Rattle.cs_native.specs.contracts.ruling.RuledBookJudge.TheImpl as judge
use Rattle.cs_node_rules.specs.Site.{start_view}
use Rattle.cs_node_rules.specs.Deployment.{site_of}
use Rattle.cs_log.specs.contracts.slot_order.SlotOrderOrder.TheImpl as order
use Rattle.cs_node_wire.specs.SlotCarried.{slot_carrier}
use Rattle.cs_node_pool.specs.Deployed.{deployed_setup}
use Rattle.cs_node.specs.Cores.{CoreStandsFor}
use Rattle.cs_sbac.specs.Genesis.{keyed_from}
use Rattle.cs_deploy.proofs.starting.start_node.Goals as goal

pub start-requires-clause-first : goal.start-requires-clause-first
start-requires-clause-first c = c.requires.first

pub start-requires-clause-version : goal.start-requires-clause-version
start-requires-clause-version c = c.requires.version

pub start-requires-clause-node : goal.start-requires-clause-node
start-requires-clause-node c = c.requires.right

pub start-requires-clause-genesis : goal.start-requires-clause-genesis
start-requires-clause-genesis c = (
  c.args.setup.site.genesis,
  record {
    keyed = c.as_slice-2.ensures.value ∙ c.in_ok-genesis.ensures ∙ ap (keyed_from 0) c.as_slice.ensures;
    fits = c.requires.objects;
    differ = c.requires.keys_differ;
  },
)

-- by the book that stands within the rules
pub returns : goal.returns
returns c = λ net speaks.
    let setup = c.args.setup in
    subst
    (λ (contracts : Contracts).
    let site = site_of (deployed_setup setup.site.config setup.site.genesis (is_approved_with_rules contracts)) net slot_machine slot_carrier in
    IfOk c.start.result (λ core. CoreStandsFor order.ghosts.stands judge.ghosts.is_approved site core (start_view site setup.keys.me)))
    c.new-judge.ensures
    (c.start.ensures setup.site.genesis (c.as_slice-2.ensures.value ∙ c.in_ok-genesis.ensures ∙ ap (keyed_from 0) c.as_slice.ensures) net speaks)
