use Rattle.cs_base.proofs.Written.{each_more}
use Rattle.cs_text.specs.Printed.{line_text}
use Rattle.cs_sched.specs.Printed.{contract_words}
use Rattle.cs_sched.proofs.Texts.{lines_done}
use Rattle.cs_sched.proofs.printing.print_contracts.Goals as goal

pub loop-contract-preserved : goal.loop-contract-preserved
loop-contract-preserved c =
    each_more (λ contract. line_text (contract_words contract)) c.args.contracts.now c.loop-contract.contract-index c.contract-item.result c.args.out.now c.loop-contract.out c.print_contract.new.out c.loop-contract-test.true c.contract-item.is c.loop-contract.invariant
    c.in_ok-print_contract.ensures.ok

pub returns-clause-ok : goal.returns-clause-ok
returns-clause-ok c = lines_done contract_words c.args.contracts.now c.loop-contract.contract-index c.args.out.now c.loop-contract.out c.loop-contract-test.false c.loop-contract.invariant
