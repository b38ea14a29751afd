use Rattle.cs_base.proofs.NodeTexts.{node_of-no_dot}
use Rattle.cs_base.proofs.node_id.read_node.Goals as goal

pub returns-in_err-front : goal.returns-in_err-front
returns-in_err-front c = let none = node_of-no_dot c.args.field.now c.in_err-front.ensures.absent in cc
