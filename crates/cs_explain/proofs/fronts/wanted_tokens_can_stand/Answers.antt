use Rattle.cs_explain.proofs.FrontLaws.{goes_front, front_goes}
use Rattle.cs_explain.proofs.WantedLaws.{wanted_fronts}
use Rattle.cs_explain.proofs.fronts.wanted_tokens_can_stand.Goals as goal

pub returns-clause-fronts : goal.returns-clause-fronts
returns-clause-fronts c = λ text. (goes_front text, front_goes text)

pub returns-clause-wanted : goal.returns-clause-wanted
returns-clause-wanted c = λ text place kind. wanted_fronts text place kind
