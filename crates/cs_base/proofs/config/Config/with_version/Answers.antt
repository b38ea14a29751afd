use Rattle.std.proofs.Common.{sym}
use Rattle.cs_base.proofs.Configs.{configured_in-config}
use Rattle.cs_base.proofs.config.Config.with_version.Goals as goal

pub returns : goal.returns
returns c = sym (configured_in-config _)
