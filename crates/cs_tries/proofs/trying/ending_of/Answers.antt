use Rattle.std.proofs.Common.{sym, ◌∙◌}
use Rattle.cs_tries.proofs.trying.ending_of.Goals as goal

pub returns-in-Ok-Some-clause-ends : goal.returns-in-Ok-Some-clause-ends
returns-in-Ok-Some-clause-ends c = λ t stands. sym (c.in-Ok-Some.ensures t.errand t.details t.inputs stands) ∙ c.in-Ok-Some.field-0-is

pub returns-in-Ok-None-clause-ends : goal.returns-in-Ok-None-clause-ends
returns-in-Ok-None-clause-ends c = λ t stands. sym (c.in-Ok-None.ensures t.errand t.details t.inputs stands) ∙ c.in-Ok-None.field-0-is
