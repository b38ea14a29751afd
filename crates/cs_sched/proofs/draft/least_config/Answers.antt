use Rattle.std.proofs.Common.{sym}
use Rattle.cs_base.proofs.Configs.{config_in-config}
use Rattle.cs_sched.proofs.draft.least_config.Goals as goal

pub returns : goal.returns
returns c = sym (config_in-config _)
