-- Nothing follows a mark that leaves the node as it is.
use Rattle.cs_node_law.proofs.Dropping.{drop-changes-nothing}
use Rattle.cs_node_law.proofs.rules.a_dropped_datagram_changes_nothing.Goals as goal

pub returns : goal.returns
returns g c site = drop-changes-nothing site
