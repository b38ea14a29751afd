use Rattle.cs_text.proofs.Refused.{refused_first}
use Rattle.cs_text.proofs.reader.refusals_name_the_first_bad_line.Goals as goal

pub returns : goal.returns
returns g c = refused_first g.R.LineReader.form
