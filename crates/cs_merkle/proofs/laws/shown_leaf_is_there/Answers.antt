use Rattle.cs_merkle.proofs.Shown.{shown_is_there}
use Rattle.cs_merkle.proofs.laws.shown_leaf_is_there.Goals as goal

pub returns : goal.returns
returns c = shown_is_there
