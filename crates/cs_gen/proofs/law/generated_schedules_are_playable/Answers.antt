use Rattle.cs_gen.proofs.Playing.{playable, own_lines}
use Rattle.cs_gen.proofs.law.generated_schedules_are_playable.Goals as goal

pub returns-clause-playable : goal.returns-clause-playable
returns-clause-playable c = playable

pub returns-clause-lines : goal.returns-clause-lines
returns-clause-lines c = own_lines
