use Rattle.cs_onetime.proofs.Calls.{one_message}
use Rattle.cs_onetime.proofs.laws.no_number_signs_two_messages.Goals as goal

pub returns : goal.returns
returns c = one_message
