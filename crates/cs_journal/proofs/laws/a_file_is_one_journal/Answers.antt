use Rattle.cs_journal.proofs.Readings.{one_journal}
use Rattle.cs_journal.proofs.laws.a_file_is_one_journal.Goals as goal

pub returns : goal.returns
returns c = λ id inputs others file j k. one_journal id inputs others file j k
