use Rattle.std.proofs.Common.{sym, subst}
use Rattle.cs_tx_types.specs.declared.action.Action.{Action}
use Rattle.cs_ledger.specs.Table.{Voted}
use Rattle.cs_table.specs.Effects.{ComesTo}
use Rattle.cs_tx.specs.Votes.{vote_of}
use Rattle.cs_audit.specs.Standing.{entry_seen, acted}
use Rattle.cs_audit.proofs.stand.act.Goals as goal

pub returns-in_ok-answer-in-Prepare : goal.returns-in_ok-answer-in-Prepare
returns-in_ok-answer-in-Prepare c approves =
    let Says : Action → Type 0 = λ entry. ComesTo (acted c.args.table.now (entry_seen approves entry)) c.args.table.now c.prepare.new.self (Voted (vote_of c.in_ok-answer-in-Prepare.answer.vote)) in
    subst Says (sym c.in-Prepare.is) (c.in_ok-answer-in-Prepare.ensures.vote approves)
