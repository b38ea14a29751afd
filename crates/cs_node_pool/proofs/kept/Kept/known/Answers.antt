use Rattle.std.proofs.Common.{◌≡◌, ◌∙◌, true, false, Some, is_some, refl, ap, sym, subst}
use Rattle.cs_tx_types.specs.declared.session.Session.{Session}
use Rattle.cs_node_pool.specs.Seats.{Seats, IsRightIn, session_on_seat, first_passing, waits, is_due}
use Rattle.cs_node_pool.proofs.Right.{right-first}
use Rattle.cs_node_pool.proofs.Dues.{next-decided, next-waiting}
use Rattle.cs_node_pool.proofs.kept.Kept.known.Goals as goal

pub returns-in-Some-clause-known : goal.returns-in-Some-clause-known
returns-in-Some-clause-known c config right =
    c.in-Some.ensures.known config (subst (IsRightIn config) (sym (c.first_at.ensures is_due c.requires.ready)) (right-first config is_due c.args.self.now.seats.entries right))

pub returns-in-Some-clause-next : goal.returns-in-Some-clause-next
returns-in-Some-clause-next c config right genesis approves =
    let seats : Seats = c.args.self.now.seats.entries in
    let first : session_on_seat (first_passing is_due seats) ≡ Some c.args.session.now = ap session_on_seat (sym (c.first_at.ensures is_due c.requires.ready)) ∙ c.in-Some.ensures.same.0 refl in
    (λ there. next-decided config genesis approves seats right c.args.session.now first, λ next. refl)

pub returns-in-None-clause-known : goal.returns-in-None-clause-known
returns-in-None-clause-known c config right =
    c.known_as-in-None.ensures.known config (subst (IsRightIn config) (sym (c.first_at-in-None.ensures waits c.requires.waiting)) (right-first config waits c.args.self.now.seats.entries right))

pub returns-in-None-clause-next : goal.returns-in-None-clause-next
returns-in-None-clause-next c config right genesis approves =
    let seats : Seats = c.args.self.now.seats.entries in
    let x : Session = c.args.session.now in
    let ready = ap session_on_seat (c.first_at.ensures is_due c.requires.ready) in
    let waiting = ap session_on_seat (c.first_at-in-None.ensures waits c.requires.waiting) in
    next-waiting config genesis approves seats right x (is_some c.known_as-in-None.result)
    (λ first. let q : false ≡ true = c.in-None.ensures.same.1 (ready ∙ first) in cc)
    (λ there. sym waiting ∙ c.known_as-in-None.ensures.same.0 there, λ second. c.known_as-in-None.ensures.same.1 (waiting ∙ second))
