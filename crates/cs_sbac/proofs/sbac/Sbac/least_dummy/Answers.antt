use Rattle.std.proofs.Common.{◌≡◌, ◌∙◌, ap, subst, true, rules}
use Rattle.cs_table.specs.Seen.{seen}
use Rattle.cs_node_state.specs.Asked.{least_dummy}
use Rattle.cs_sbac.specs.Held.{Held}
use Rattle.cs_sbac.proofs.Asking.{least-is}
use Rattle.cs_sbac.proofs.sbac.Sbac.least_dummy.Goals as goal

pub returns-clause-key : goal.returns-clause-key
returns-clause-key c =
    let whole : c.self.inside.whole ≡ true = search rules in
    let table = c.self.inside.table in
    let Says : Held → Type 0 = λ held. c.least_dummy-key.result ≡ least_dummy (seen held.table) held.me.shard in
    subst Says c.self.view_is
    (least-is (seen table) table.shard c.least_dummy-key.result c.key_fits.ensures c.least_dummy-key.ensures ∙ ap (least_dummy (seen table)) (c.self.invariant.placed whole).shard)
