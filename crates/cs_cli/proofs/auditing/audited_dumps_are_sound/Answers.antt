use Rattle.std.proofs.Common.{Ok}
use Rattle.cs_audit_dump.specs.declared.limits.TheConstants.{MOST_DUMP}
use Rattle.cs_audit_dump.proofs.Whole.{given_formed}
use Rattle.cs_cli.proofs.Dumps.{says_sound}
use Rattle.cs_cli.proofs.auditing.audited_dumps_are_sound.Goals as goal

pub returns-clause-sound : goal.returns-clause-sound
returns-clause-sound c = λ text dump is. says_sound MOST_DUMP text dump is

pub returns-clause-formed : goal.returns-clause-formed
returns-clause-formed c = λ text dump is. given_formed (Ok dump) MOST_DUMP text is
