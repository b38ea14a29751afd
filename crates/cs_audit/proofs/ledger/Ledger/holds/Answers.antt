use Rattle.cs_audit.proofs.Shown.{held, not-held}
use Rattle.cs_audit.proofs.ledger.Ledger.holds.Goals as goal

pub returns-in-Some : goal.returns-in-Some
returns-in-Some c ledger shows = held c.args.self.now ledger c.args.item.now c.in-Some.object.now c.same.result shows c.in-Some.ensures.value c.requires c.same.ensures

pub returns-in-None : goal.returns-in-None
returns-in-None c ledger shows = not-held c.args.self.now ledger c.args.item.now shows c.in-None.ensures.value
