use Rattle.std.proofs.lemmas.Result.{IfOk-weaker}
use Rattle.cs_change.proofs.Adding.{told_added}
use Rattle.cs_change.proofs.changes.Changes.add.Goals as goal

pub returns-clause-now : goal.returns-clause-now
returns-clause-now c = rw (← c.self.view_is) (IfOk-weaker c.add.result _ _ (λ fresh is. told_added fresh c.self.inside.all.changes c.add.new.self.changes c.self.inside.view c.args.member c.args.change is) c.add.ensures.now)
