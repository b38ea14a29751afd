use Rattle.cs_check_rules.proofs.Same.{one_list}
use Rattle.cs_check_rules.proofs.known_keys.known_keys_are_one.Goals as goal

pub returns : goal.returns
returns c = one_list
