use Rattle.cs_show.proofs.Voices.{seen-told}
use Rattle.cs_show.proofs.laws.what_is_seen_was_told.Goals as goal

pub returns : goal.returns
returns c = seen-told
