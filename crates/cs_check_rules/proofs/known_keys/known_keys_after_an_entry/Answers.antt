use Rattle.cs_check_rules.proofs.Known.{exec_known}
use Rattle.cs_check_rules.proofs.known_keys.known_keys_after_an_entry.Goals as goal

pub returns : goal.returns
returns c rules shard t entry keys known = exec_known rules shard t keys entry known
