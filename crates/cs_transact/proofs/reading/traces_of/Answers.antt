use Rattle.std.proofs.Common.{sym, subst, ◌∙◌}
use Rattle.cs_transact.specs.Refusing.{ReadsAs}
use Rattle.cs_transact.proofs.TraceLists.{items-read, items-unread}
use Rattle.cs_transact.proofs.reading.traces_of.Goals as goal

pub returns-then-are_tables-clause-given : goal.returns-then-are_tables-clause-given
returns-then-are_tables-clause-given c =
    subst (ReadsAs c.some_traces.result) (sym (items-read c.args.items.now (sym c.are_tables.ensures ∙ c.if-are_tables.true))) c.some_traces.ensures.given

pub returns-else-are_tables-clause-given : goal.returns-else-are_tables-clause-given
returns-else-are_tables-clause-given c = items-unread c.args.items.now (sym c.are_tables.ensures ∙ c.if-are_tables.false)
