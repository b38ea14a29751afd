use Rattle.std.proofs.Common.{◌≡◌, sym, subst, ◌∙◌, IfOk}
use Rattle.std.proofs.lemmas.Result.{IfOk-weaker}
use Rattle.cs_table.specs.Seen.{seen}
use Rattle.cs_node_state.specs.Asked.{told_at}
use Rattle.cs_sbac.specs.Held.{Held}
use Rattle.cs_sbac.proofs.Asking.{told-some}
use Rattle.cs_sbac.proofs.sbac.Sbac.told.Goals as goal

pub returns-in-Some-clause-told : goal.returns-in-Some-clause-told
returns-in-Some-clause-told c =
    let Says : Held → Type 0 = λ held. IfOk c.copy_state.result (λ state. state ≡ told_at (seen held.table) c.args.key.now) in
    subst Says c.self.view_is
    (IfOk-weaker c.copy_state.result _ _ (λ state copied. copied ∙ told-some c.self.inside.table c.args.key.now c.in-Some.row.now (sym c.in-Some.ensures.row) c.in-Some.ensures.fits) c.copy_state.ensures.copied)
