use Rattle.cs_base.proofs.Numbers.{number_printed}
use Rattle.cs_base.proofs.number.printed_number_is_read.Goals as goal

pub returns : goal.returns
returns c = number_printed
