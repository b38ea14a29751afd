use Rattle.cs_base.specs.declared.limits.TheConstants.{MOST_SCHEDULE}
use Rattle.cs_sched.proofs.Played.{given_playable}
use Rattle.cs_sched.proofs.reader.parse.Goals as goal

pub returns-clause-playable : goal.returns-clause-playable
unfolding Rattle.cs_sched.specs.Text.schedule_of
returns-clause-playable c = given_playable c.parse_text.result MOST_SCHEDULE c.args.text.now c.parse_text.ensures
