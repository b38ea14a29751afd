use Rattle.std.proofs.Common.{subst}
use Rattle.cs_types_kinds.specs.Lookups.{method_number}
use Rattle.cs_proc.specs.declared.call.Call.{Call}
use Rattle.cs_proc.specs.Calling.{numbered_ran}
use Rattle.cs_proc.specs.Answering.{RunAnswers}
use Rattle.cs_trial.proofs.traces.run_case.Goals as goal

pub returns : goal.returns
returns c =
    subst (λ (call : Call). RunAnswers (numbered_ran c.args.contract.now call (method_number call.method c.args.contract.now.methods)) c.run_in.result)
    c.in_ok-call.ensures c.run_in.ensures
