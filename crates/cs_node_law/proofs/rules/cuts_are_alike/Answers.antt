-- Order and chain of a node are cut at the same slots.
use Rattle.cs_node_law.proofs.Cuts.{cuts-alike}
use Rattle.cs_node_law.proofs.rules.cuts_are_alike.Goals as goal

pub returns : goal.returns
returns g c = λ site. cuts-alike site
