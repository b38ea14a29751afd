use Rattle.std.proofs.lemmas.Result.{IfOk-weaker}
use Rattle.std.proofs.Common.{sym, subst}
use Rattle.cs_tx_types.specs.declared.action.Action.TheVariants.{Prepare}
use Rattle.cs_tx_types.specs.Entry.{EntryFits}
use Rattle.cs_node_rules.specs.Deployment.{no_session}
use Rattle.cs_node_rules.proofs.Entries.{alone-fits}
use Rattle.cs_node_rules.proofs.Void.{nothing_fits}
use Rattle.cs_node.proofs.executions.chosen.Goals as goal

pub returns-in-None-clause-fits : goal.returns-in-None-clause-fits
returns-in-None-clause-fits c =
    IfOk-weaker c.void_entry.result _ _
    (λ entry is. subst (EntryFits c.args.version) (sym is) (alone-fits c.args.version (Prepare no_session) nothing_fits))
    c.void_entry.ensures
