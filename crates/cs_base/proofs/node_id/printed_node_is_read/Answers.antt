use Rattle.cs_base.proofs.NodeTexts.{node_of-node_text}
use Rattle.cs_base.proofs.node_id.printed_node_is_read.Goals as goal

pub returns : goal.returns
returns c = node_of-node_text
