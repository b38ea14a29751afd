use Rattle.cs_types.proofs.Accepting.{read_contract, contract_read}
use Rattle.cs_types.proofs.judging.contracts_are_read.Goals as goal

pub returns : goal.returns
returns c = λ text contract. (read_contract text contract, contract_read text contract)
