use Rattle.cs_journal.proofs.Readings.{survivor}
use Rattle.cs_journal.proofs.laws.what_survives_is_a_journal.Goals as goal

pub returns : goal.returns
returns c = λ id inputs next file left. survivor id inputs next file left
