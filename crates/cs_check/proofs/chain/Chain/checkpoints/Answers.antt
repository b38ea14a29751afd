use Rattle.std.proofs.Common.{◌≡◌, ap, ◌∙◌}
use Rattle.cs_merkle.specs.Tree.{leaves_of_vectors}
use Rattle.cs_check_rules.specs.Chain.{kept_of}
use Rattle.cs_check.specs.Kept.{kept_by}
use Rattle.cs_check.specs.Leaves.{Chained}
use Rattle.cs_check.proofs.Keeping.{heads_long}
use Rattle.cs_check.proofs.chain.Chain.checkpoints.Goals as goal

pub returns : goal.returns
returns c = λ log is.
    let kept = kept_by c.self.inside.shard c.self.inside.slots c.self.inside.covered.items (leaves_of_vectors c.self.inside.uncovered.items) c.self.inside.heads.items in
    let here : kept ≡ kept_of log = ap (λ (x : Chained). x.kept) c.self.view_is ∙ is in
    c.len.ensures ∙ c.self.inside.heads.ok.0 ∙ heads_long log kept here
