use Rattle.std.proofs.Common.{sym, ap, subst, ◌∙◌}
use Rattle.cs_types.specs.Judging.{unread, HasFault}
use Rattle.cs_types.specs.Accepting.{accepted_of, Unaccepts}
use Rattle.cs_types.proofs.Accepting.{unread-exact, unaccepted-exact, accepted-exact}
use Rattle.cs_types.proofs.Faulty.{unaccepted-fault, unaccepted-not, costs-same}
use Rattle.cs_types.proofs.judging.judged.Goals as goal

pub returns-in-Err-clause-only : goal.returns-in-Err-clause-only
returns-in-Err-clause-only c = λ contract costs is accepted. c.unread.ensures ∙ ap unread (c.in-Err.ensures.only contract is)

pub returns-in-Ok-accept-clause-only : goal.returns-in-Ok-accept-clause-only
returns-in-Ok-accept-clause-only c = λ contract costs is accepted.
    costs-same c.in-Ok-accept.checked c.in-Ok.contract contract costs (c.in-Ok.ensures.only contract is) accepted c.in-Ok-accept.ensures

pub returns-in-Err-accept-clause-refused : goal.returns-in-Err-accept-clause-refused
returns-in-Err-accept-clause-refused c =
    subst (HasFault c.args.text.now) (sym c.unaccepted.ensures)
    (unaccepted-fault c.args.text.now c.in-Ok.contract c.in-Err-accept.error c.in-Ok.ensures.found c.in-Err-accept.ensures)

pub returns-in-Err-accept-clause-only : goal.returns-in-Err-accept-clause-only
returns-in-Err-accept-clause-only c = λ contract costs is accepted.
    c.unaccepted.ensures ∙ unaccepted-not c.in-Ok.contract contract costs c.in-Err-accept.error (c.in-Ok.ensures.only contract is) accepted c.in-Err-accept.ensures

pub returns-in-Err-clause-exact : goal.returns-in-Err-clause-exact
returns-in-Err-clause-exact c =
    subst (λ e. Unaccepts e (accepted_of c.args.text.now)) (sym c.unread.ensures) (unread-exact c.args.text.now c.in-Err.error c.in-Err.ensures.only)

pub returns-in-Ok-accept-clause-exact : goal.returns-in-Ok-accept-clause-exact
returns-in-Ok-accept-clause-exact c =
    accepted-exact c.args.text.now c.in-Ok.contract c.in-Ok-accept.checked c.in-Ok.ensures.found c.in-Ok-accept.ensures

pub returns-in-Err-accept-clause-exact : goal.returns-in-Err-accept-clause-exact
returns-in-Err-accept-clause-exact c =
    subst (λ e. Unaccepts e (accepted_of c.args.text.now)) (sym c.unaccepted.ensures)
    (unaccepted-exact c.args.text.now c.in-Ok.contract c.in-Err-accept.error c.in-Ok.ensures.found c.in-Err-accept.ensures)
