use Rattle.std.proofs.Common.{Bool, List}
use Rattle.cs_tx_value.specs.declared.object.Object.{Object}
use Rattle.cs_tx_types.specs.declared.transaction.Tx.{Tx}
use Rattle.cs_node_pool.specs.Deployed.{deployed_setup}
use Rattle.cs_node.specs.Notes.{TellsSigns}
use Rattle.cs_node.proofs.Ticked.{asked_of}
use Rattle.cs_node.proofs.sending.ask_again.Given as goal

abbrev pub invariant-loop-session : goal.invariant-loop-session
invariant-loop-session l =
    (genesis : List Object) (approves : Tx → Bool) → TellsSigns (asked_of (deployed_setup l.sbac.config genesis approves) l.sbac.me l.yielded) l.initial.draft l.draft
