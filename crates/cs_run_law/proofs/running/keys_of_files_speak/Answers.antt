use Rattle.std.proofs.Common.{ap}
use Rattle.cs_base.specs.Version.{version_of}
use Rattle.cs_run_law.proofs.Families.{family_speaks}
use Rattle.cs_config.proofs.First.{file_first}
use Rattle.cs_run_law.proofs.Reaching.{file-reaches}
use Rattle.cs_run_law.proofs.running.keys_of_files_speak.Goals as goal

pub returns : goal.returns
returns c = λ config text keys liars i first is mine. family_speaks config keys liars i mine (file_first config text (keys i) is) (ap version_of first) (file-reaches config text (keys i) is)
