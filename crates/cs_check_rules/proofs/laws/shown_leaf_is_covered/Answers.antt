use Rattle.cs_check_rules.proofs.Covered.{covered, covered_leaf}
use Rattle.cs_check_rules.proofs.laws.shown_leaf_is_covered.Goals as goal

pub returns-clause-bytes : goal.returns-clause-bytes
returns-clause-bytes c = covered

pub returns-clause-leaf : goal.returns-clause-leaf
returns-clause-leaf c = covered_leaf
