use Rattle.cs_node.proofs.Masters.{of_master}
use Rattle.cs_node.proofs.speaking.keys_of_a_master_speak.Goals as goal

pub returns : goal.returns
returns c = λ config master liars me keys few first node of. of_master config master liars me keys few first node of
