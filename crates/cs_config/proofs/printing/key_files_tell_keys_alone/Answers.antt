use Rattle.cs_config.proofs.KeyTexts.{keys-alone}
use Rattle.cs_config.proofs.printing.key_files_tell_keys_alone.Goals as goal

pub returns : goal.returns
returns c = keys-alone
