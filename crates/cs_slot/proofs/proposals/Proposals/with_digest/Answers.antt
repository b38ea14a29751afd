use Rattle.std.proofs.Common.{Option, Some, None, ℕ, sym, ◌∙◌, subst}
use Rattle.cs_slot.specs.Kept.{IsFirst}
use Rattle.cs_slot.proofs.Firsts.{found_none, found_some}
use Rattle.cs_slot.proofs.proposals.Proposals.with_digest.Goals as goal

pub returns-in-Some : goal.returns-in-Some
returns-in-Some c =
    rw (← c.self.view_is)
    (c.get-in-Some.ensures ∙ sym (found_some c.args.digest.now c.self.inside.entries c.in-Some.first.now (subst (λ (o : Option ℕ). IsFirst c.args.digest.now c.self.inside.entries o) (sym c.in-Some.ensures.value) (c.self.invariant c.args.digest.now))))

pub returns-in-None : goal.returns-in-None
returns-in-None c =
    rw (← c.self.view_is)
    (sym (found_none c.args.digest.now c.self.inside.entries (subst (λ (o : Option ℕ). IsFirst c.args.digest.now c.self.inside.entries o) (sym c.in-None.ensures.value) (c.self.invariant c.args.digest.now))))
