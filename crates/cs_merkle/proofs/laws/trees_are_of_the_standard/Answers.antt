use Rattle.cs_merkle.proofs.Equations.{tree_hash, audit}
use Rattle.cs_merkle.proofs.laws.trees_are_of_the_standard.Goals as goal

pub returns-clause-root : goal.returns-clause-root
returns-clause-root c = tree_hash

pub returns-clause-path : goal.returns-clause-path
returns-clause-path c = audit
