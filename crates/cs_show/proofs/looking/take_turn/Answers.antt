use Rattle.std.proofs.Common.{◌≡◌, ℕ, List, ◌∷◌, refl, sym, subst}
use Rattle.std.proofs.lemmas.Result.{err_from_is_err_and}
use Rattle.cs_io.specs.Told.{Changes}
use Rattle.cs_io.specs.declared.link.MemInput.TheVariants as came
use Rattle.cs_client.specs.Inputs.{ClientInput}
use Rattle.cs_show.proofs.Runs.{heard-on, heard-last, tick-on, tick-short}
use Rattle.cs_show.proofs.looking.take_turn.Goals as goal

pub returns-in_ok-looker-in-Datagram-clause-goes : goal.returns-in_ok-looker-in-Datagram-clause-goes
returns-in_ok-looker-in-Datagram-clause-goes g c = λ k past none stands.
    heard-on k past c.split_at.result.0.now
    (g.L.Link.told c.args.link.now)
    (g.L.Link.told c.receive.new.link)
    c.in_ok-looker-in-Datagram.looker (subst (λ (bytes : List ℕ). Changes (λ (before now : List ClientInput). before ≡ came.Datagram bytes ∷ now) (g.L.Link.told c.args.link.now).left (g.L.Link.told c.receive.new.link).left) (sym c.split_at.ensures.front) c.in-Datagram.ensures.input.1)
    c.in-Datagram.ensures.missed c.in-Datagram.ensures.offered (c.in_ok-looker-in-Datagram.ensures.hears k past stands)

pub returns-in_err-looker-in-Datagram-clause-goes : goal.returns-in_err-looker-in-Datagram-clause-goes
returns-in_err-looker-in-Datagram-clause-goes g c = λ k past none stands.
    let p = err_from_is_err_and c.from_residual.result c.from_residual.ensures.1 in
    rw (p.1, p.2)
    (heard-last k past c.split_at.result.0.now
    (g.L.Link.told c.args.link.now)
    (g.L.Link.told c.receive.new.link)
    c.in_err-looker-in-Datagram.field-0.0 (subst (λ (bytes : List ℕ). Changes (λ (before now : List ClientInput). before ≡ came.Datagram bytes ∷ now) (g.L.Link.told c.args.link.now).left (g.L.Link.told c.receive.new.link).left) (sym c.split_at.ensures.front) c.in-Datagram.ensures.input.1)
    c.in-Datagram.ensures.missed c.in-Datagram.ensures.offered (c.in_err-looker-in-Datagram.ensures.hears k past stands))

pub returns-in-Ok-clause-goes : goal.returns-in-Ok-clause-goes
returns-in-Ok-clause-goes g c = λ k past none stands.
    tick-on k past c.as_slice.result.now
    (g.L.Link.told c.args.link.now)
    (g.L.Link.told c.receive.new.link)
    (g.L.Link.told c.offer.new.link)
    c.args.looker stands none c.as_slice.ensures c.in-Tick.ensures.input
    c.in-Tick.ensures.missed c.in-Tick.ensures.offered c.offer.ensures.left c.offer.ensures.missed c.in-Ok.ensures.all

pub returns-in-Err-clause-goes : goal.returns-in-Err-clause-goes
returns-in-Err-clause-goes g c = λ k past none stands.
    tick-short k past c.as_slice.result.now
    (g.L.Link.told c.args.link.now)
    (g.L.Link.told c.receive.new.link)
    (g.L.Link.told c.offer.new.link)
    c.args.looker stands c.as_slice.ensures c.in-Tick.ensures.input
    c.in-Tick.ensures.missed c.in-Tick.ensures.offered c.offer.ensures.left c.offer.ensures.missed c.in-Err.ensures.front

pub returns-in-End-clause-goes : goal.returns-in-End-clause-goes
returns-in-End-clause-goes g c = λ k past none stands. record {
  none = c.in-End.ensures.input.0;
  left = c.in-End.ensures.input.1;
  offered = c.in-End.ensures.offered;
}

pub returns-in-Failed-clause-goes : goal.returns-in-Failed-clause-goes
returns-in-Failed-clause-goes g c = λ k past none stands. record {
  missed = c.in-Failed.ensures.missed;
  left = c.in-Failed.ensures.input;
  offered = c.in-Failed.ensures.offered;
}

pub returns-in-End-clause-cause : goal.returns-in-End-clause-cause
returns-in-End-clause-cause g c = record { later = c.in-End.ensures.cause.later; cause = λ failed. absurd cc }

pub returns-in-Failed-clause-cause : goal.returns-in-Failed-clause-cause
returns-in-Failed-clause-cause g c = record { later = c.in-Failed.ensures.cause.later; cause = λ failed. c.in-Failed.ensures.cause.cause refl }
