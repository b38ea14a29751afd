use Rattle.std.proofs.Common.{ap, is_some}
use Rattle.cs_node.proofs.sending.say_vote.Goals as goal

pub voters_of_fit-requires : goal.voters_of_fit-requires
voters_of_fit-requires c = c.requires.fit (ap is_some c.in-Some.is)
