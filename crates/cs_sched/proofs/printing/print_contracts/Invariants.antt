use Rattle.std.proofs.Common.{◌≡◌, ◌++◌, take}
use Rattle.cs_base.specs.Fields.{each}
use Rattle.cs_text.specs.Printed.{line_text}
use Rattle.cs_sched.specs.Printed.{contract_words}
use Rattle.cs_sched.proofs.printing.print_contracts.Given as goal

abbrev pub invariant-loop-contract : goal.invariant-loop-contract
invariant-loop-contract l = l.out ≡ l.fn.out ++ each (λ contract. line_text (contract_words contract)) (take l.contract-index l.contracts)
