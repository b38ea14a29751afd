use Rattle.cs_text.proofs.Refused.{refused_first}
use Rattle.cs_sched.specs.Text.{schedule_form, schedule_of}
use Rattle.cs_sched.proofs.reader.refusals_name_the_first_bad_line.Goals as goal

pub returns : goal.returns
unfolding schedule_of
returns c = refused_first schedule_form
