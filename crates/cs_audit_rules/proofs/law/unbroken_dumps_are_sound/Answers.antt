use Rattle.cs_audit_rules.proofs.Unbroken.{unbroken_sound}
use Rattle.cs_audit_rules.proofs.law.unbroken_dumps_are_sound.Goals as goal

pub returns : goal.returns
returns c = unbroken_sound
