use Rattle.std.proofs.Common.{ap, ◌∙◌}
use Rattle.std.proofs.lemmas.Result.{IfOk-weaker}
use Rattle.cs_config.specs.Printed.{list_with}
use Rattle.cs_config.proofs.listing.list_with_all.Goals as goal

pub returns-clause-is : goal.returns-clause-is
returns-clause-is c =
    let same = c.as_slice.ensures ∙ c.in_ok-names.ensures in
    IfOk-weaker c.list_with.result _ _ (λ list is. is ∙ ap (list_with c.args.master.now c.args.me) same) c.list_with.ensures.is
