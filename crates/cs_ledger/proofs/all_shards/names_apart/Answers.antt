use Rattle.cs_ledger.proofs.Strings.{no_collision}
use Rattle.cs_ledger.proofs.all_shards.names_apart.Goals as goal

pub returns : goal.returns
returns c hash origins written size faithful apart = no_collision hash size origins written faithful apart
