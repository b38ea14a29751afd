use Rattle.std.proofs.Common.{◌≡◌, ◌∙◌, subst}
use Rattle.std.specs.Prelude.{IfOk}
use Rattle.cs_lang.specs.declared.tree.ContractTree.{ContractTree}
use Rattle.cs_eval_place.specs.Locating.{verdict_of_check}
use Rattle.cs_eval_place.proofs.Agreeing.{told_agrees}
use Rattle.cs_eval_place.proofs.checks.check_verdict.Goals as goal

pub returns-clause-verdict : goal.returns-clause-verdict
returns-clause-verdict c =
    let P : ContractTree → Type 0 = λ contract. IfOk c.verdict_in.result (λ verdict. verdict ≡ verdict_of_check contract c.args.method.now c.args.view.now) in
    subst P (c.tree-contract.ensures.value ∙ c.contract.ensures.value) c.verdict_in.ensures

pub returns-clause-says : goal.returns-clause-says
returns-clause-says c =
    told_agrees c.verdict_in.result c.args.checked.now.contract c.args.method.now c.args.view.now (returns-clause-verdict c)
