use Rattle.std.proofs.Common.{is_some, Some, if◌then◌else◌, ◌==◌, sym, ap, ◌∙◌}
use Rattle.cs_slot.specs.Kept.{said_in_view}
use Rattle.cs_slot.proofs.Adding.{vote_added, none_if}
use Rattle.cs_slot.proofs.votes.Votes.add.Goals as goal

pub returns-clause-now : goal.returns-clause-now
returns-clause-now c =
    vote_added c.args.self.now c.insert.new.self.entries c.with_said-row.result c.args.view c.args.member c.args.digest
    (none_if (said_in_view c.args.self.now c.args.view c.args.member) (sym (c.if-is_some.ensures ∙ ap is_some c.get.ensures)))
    (λ m. c.with_said-row.ensures m ∙ ap (λ o. if c.args.member == m then Some c.args.digest else o) (c.row.ensures m))
    (rw (← c.self.view_is) c.in_default.ensures.updates.0)
