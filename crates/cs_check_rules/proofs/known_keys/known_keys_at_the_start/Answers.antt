use Rattle.cs_check_rules.proofs.Known.{start_known}
use Rattle.cs_check_rules.proofs.known_keys.known_keys_at_the_start.Goals as goal

pub returns : goal.returns
returns c = start_known
