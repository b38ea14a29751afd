use Rattle.std.proofs.Common.{ap, ◌∙◌}
use Rattle.std.proofs.lemmas.Result.{IfOk-weaker}
use Rattle.cs_wire.specs.AllNames.{has_name}
use Rattle.cs_wire.specs.Keys.{row_expected}
use Rattle.cs_wire.proofs.Named.{has_named}
use Rattle.cs_wire.proofs.names.rows_of_master.Goals as goal

pub returns : goal.returns
returns c =
    let same = c.as_slice.ensures ∙ c.in_ok-names.ensures in
    IfOk-weaker c.rows_for.result _ _
    (λ rows there peer. there peer ∙ ap (λ b. row_expected c.args.master.now c.args.me b peer) (ap (has_name peer) same ∙ has_named c.args.config.now peer))
    c.rows_for.ensures
