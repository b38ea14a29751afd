use Rattle.std.proofs.Common.{arith, refl, subst, List, ℕ}
use Rattle.cs_wire_message.specs.Body.{Has}
use Rattle.cs_wire.proofs.Sealed.{is_sealed}
use Rattle.cs_wire.proofs.opening.open.Goals as goal

pub returns : goal.returns
returns c =
    let b = c.has_form.ensures.0 c.if-not-has_form.false in
    let has = subst (λ (t : List ℕ). Has c.args.keys.now.version c.in_ok-head.head.kind t b.0) c.body_of-body.ensures b.1 in
    (b.0, is_sealed c.args.keys.now c.args.bytes.now c.in_ok-head.head b.0 (λ i. omega (arith, c.type_inv.bytes i)) c.in_ok-head.ensures.long c.in_ok-head.ensures.checks.1 c.in_ok-head.ensures.checks.0 has, b.1, refl)
