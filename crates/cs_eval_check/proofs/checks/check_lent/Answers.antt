use Rattle.std.proofs.Common.{◌≡◌, ◌∙◌, subst}
use Rattle.std.specs.Prelude.{IfOk}
use Rattle.cs_lang.specs.declared.tree.ContractTree.{ContractTree}
use Rattle.cs_eval_law.specs.Checks.{says}
use Rattle.cs_eval_check.proofs.checks.check_lent.Goals as goal

pub returns-clause-says : goal.returns-clause-says
returns-clause-says g c =
    let P : ContractTree → Type 0 = λ contract. IfOk c.check_in.result (λ yes. yes ≡ says contract c.args.method.now c.args.view.now) in
    subst P (c.tree-contract.ensures.value ∙ c.contract.ensures.value) c.check_in.ensures.says
