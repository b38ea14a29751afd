-- The law of the order gives equal entries in each slot, and lists that agree so are prefixes of one another.
use Rattle.cs_order.proofs.Logs.{law_agrees, logs_stay, entries_stay}
use Rattle.cs_order.proofs.agreement.logs_agree.Goals as goal

pub returns-clause-prefixes : goal.returns-clause-prefixes
returns-clause-prefixes g c = law_agrees g.O.Order.rules g.met.O.Order.law

pub returns-clause-stay : goal.returns-clause-stay
returns-clause-stay g c = logs_stay g.row.O-Message.Denot

pub returns-clause-entries : goal.returns-clause-entries
returns-clause-entries g c = entries_stay g.row.O-Message.Denot
