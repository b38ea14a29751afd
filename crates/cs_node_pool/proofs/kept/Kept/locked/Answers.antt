use Rattle.std.proofs.Common.{◌≡◌, ◌∙◌, ◌∷◌, Option, Some, ap}
use Rattle.cs_node_pool.specs.declared.seat.Seat.{Seat}
use Rattle.cs_node_pool.proofs.Locking.{fits-passed, fits-pushed, locked-pushed}
use Rattle.cs_node_pool.proofs.kept.Kept.locked.Goals as goal

pub loop-place-preserved-in-Continue-branch-2 : goal.loop-place-preserved-in-Continue-branch-2
loop-place-preserved-in-Continue-branch-2 c =
    let d = c.in-Some.field-0-0.now in
    let seat = c.in-Some-place.seat in
    let old = c.loop-place.place-iterator in
    let rest = c.next.new.self in
    let at : old ≡ (d, Some seat) ∷ rest = c.in-Some.ensures.steps ∙ ap (λ (place : Option Seat). (d, place) ∷ rest) c.in-Some-place.is in (
      tt,
      tt,
      fits-passed d old rest seat at c.loop-place.invariant.2,
      fits-pushed d old rest seat at c.loop-place.sessions.items c.push.new.self.items c.in_ok-session.session c.in_ok-session.ensures c.in_ok-push.ensures.items c.loop-place.invariant.2 c.loop-place.invariant.3,
      locked-pushed d old rest seat at c.loop-place.sessions.items c.push.new.self.items c.in_ok-session.session c.in_ok-session.ensures c.in_ok-push.ensures.items c.if-seat.true _ c.loop-place.invariant.4,
    )
