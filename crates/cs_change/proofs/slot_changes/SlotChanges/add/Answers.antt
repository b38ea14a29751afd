use Rattle.cs_change.specs.Kept.{change_in}
use Rattle.cs_change.proofs.Adding.{change_added, none_copied}
use Rattle.cs_change.proofs.slot_changes.SlotChanges.add.Goals as goal

pub returns-clause-now : goal.returns-clause-now
returns-clause-now c =
    change_added c.args.self.now.changes c.insert.new.self.entries c.args.view c.args.member c.args.change
    (none_copied c.get.result (change_in c.args.self.now.changes c.args.view c.args.member) c.get.ensures c.if-is_some.ensures)
    (rw (← c.self.view_is) c.in_default.ensures.updates.0)
