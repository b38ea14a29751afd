use Rattle.cs_merkle.proofs.Roots.{path_shows}
use Rattle.cs_merkle.proofs.laws.paths_verify.Goals as goal

pub returns : goal.returns
returns c = path_shows
