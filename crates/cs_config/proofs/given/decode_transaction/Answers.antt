use Rattle.std.proofs.Common.{sym, arith}
use Rattle.cs_config.proofs.Transactions.{tx_found, tx_missing}
use Rattle.cs_config.proofs.given.decode_transaction.Goals as goal

pub returns-in-Ok-clause-given : goal.returns-in-Ok-clause-given
returns-in-Ok-clause-given c =
    sym (tx_found c.args.bytes.now c.in-Ok.tx c.in-Ok.ensures.found.0 c.in-Ok.ensures.found.1)

pub returns-in-Err-BadForm-clause-given : goal.returns-in-Err-BadForm-clause-given
returns-in-Err-BadForm-clause-given c =
    sym (tx_missing c.args.bytes.now (λ i. omega (arith, c.type_inv.bytes i)) (λ tx fits same. let h = c.in-Err-BadForm.ensures.only tx fits same in cc))

pub returns-in-Err-TooLong-clause-given : goal.returns-in-Err-TooLong-clause-given
returns-in-Err-TooLong-clause-given c =
    sym (tx_missing c.args.bytes.now (λ i. omega (arith, c.type_inv.bytes i)) (λ tx fits same. let h = c.in-Err-TooLong.ensures.only tx fits same in cc))
