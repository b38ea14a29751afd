use Rattle.std.proofs.Common.{◌≡◌, Bool, List}
use Rattle.cs_base.specs.Version.{version_of}
use Rattle.cs_base.specs.declared.version.Version.TheVariants.{One}
use Rattle.cs_tx_value.specs.declared.object.Object.{Object}
use Rattle.cs_tx_types.specs.declared.transaction.Tx.{Tx}
use Rattle.cs_node_rules.specs.Net.{Net}
use Rattle.cs_node_rules.specs.Trail.{handed}
use Rattle.cs_node.specs.Notes.{TellsSigns}
use Rattle.cs_node.specs.Cores.{site_at}
use Rattle.cs_node.proofs.handing.hand_out.Given as goal

abbrev pub invariant-loop-out : goal.invariant-loop-out
invariant-loop-out g l =
    (net : Net) (genesis : List Object) (approves : Tx → Bool) → version_of l.sbac.config.version ≡ One → TellsSigns (handed (site_at g.O.Order.rules g.O.Carried.carrier net l.sbac genesis approves) l.sbac.me l.yielded) l.initial.draft l.draft
