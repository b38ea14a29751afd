use Rattle.std.proofs.Common.{ap, ◌∙◌}
use Rattle.cs_order_rules.specs.Safe.{is_safe}
use Rattle.cs_change.specs.Kept.{KeptChanges, told_change}
use Rattle.cs_change.proofs.Readable.{safe_at}
use Rattle.cs_change.proofs.changes.Changes.safe.Goals as goal

pub returns-clause-readable : goal.returns-clause-readable
returns-clause-readable c =
    safe_at c.args.self.now.f (told_change c.args.self.now) c.args.self.now.view c.args.digest.now c.safe.result
    (c.safe.ensures ∙ ap (λ (k : KeptChanges). is_safe k.f (told_change k) k.view c.args.digest.now) c.self.view_is)
