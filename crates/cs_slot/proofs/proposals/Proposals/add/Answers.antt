use Rattle.std.proofs.Common.{◌≡◌, ℕ, Bool, true, false, Option, Some, None, is_some, not, refl, sym, ap, ◌∙◌, subst}
use Rattle.cs_slot.specs.Kept.{entry_kept, with_entry, comes_first}
use Rattle.cs_order.specs.declared.proposed.Proposed.{Proposed}
use Rattle.cs_slot.proofs.Adding.{none_if}
use Rattle.cs_slot.proofs.Firsts.{same_firsts, added_later, added_first}
use Rattle.cs_slot.proofs.proposals.Proposals.add.Goals.{then-not-fresh-via-then-not-fresh, then-not-fresh-via-else-not-fresh+then-not-is_first}
use Rattle.cs_slot.proofs.proposals.Proposals.add.Goals as goal

-- a first entry comes where there was none
none_yet : (fresh : Bool) (o : Option Proposed) → fresh ≡ true → fresh ≡ not (is_some o) → o ≡ None
none_yet fresh None first is = refl
none_yet fresh (Some e) first is = absurd (let a = first in let b : fresh ≡ false = is in cc)

pub invariant_of-self-then-not-fresh : goal.invariant_of-self-then-not-fresh
invariant_of-self-then-not-fresh c =
    elim c.then-not-fresh.branch [
      | then-not-fresh-via-then-not-fresh w ↦
          same_firsts c.self.inside.firsts.entries c.self.inside.entries c.add.new.self
          (subst (λ b. entry_kept c.add.new.self ≡ with_entry b (entry_kept c.self.inside.entries) c.args.view c.args.entry) w.if-not-fresh.true c.in_ok-fresh.ensures.now) c.self.invariant
      | then-not-fresh-via-else-not-fresh+then-not-is_first w ↦
          added_later c.self.inside.entries c.add.new.self c.args.view c.args.entry
          (none_yet c.in_ok-fresh.fresh (entry_kept c.self.inside.entries c.args.view) w.if-not-fresh.false c.in_ok-fresh.ensures.fresh)
          (subst (λ b. entry_kept c.add.new.self ≡ with_entry b (entry_kept c.self.inside.entries) c.args.view c.args.entry) w.if-not-fresh.false c.in_ok-fresh.ensures.now)
          c.self.inside.firsts.entries (sym (ap (comes_first c.args.view) c.get.ensures.value) ∙ sym c.comes_first-is_first.ensures ∙ w.if-not-is_first.true) c.self.invariant
    ]

pub invariant_of-self-in_default : goal.invariant_of-self-in_default
invariant_of-self-in_default c =
    added_first c.self.inside.entries c.add.new.self c.args.view c.args.entry
    (none_yet c.in_ok-fresh.fresh (entry_kept c.self.inside.entries c.args.view) c.if-not-fresh.false c.in_ok-fresh.ensures.fresh)
    (subst (λ b. entry_kept c.add.new.self ≡ with_entry b (entry_kept c.self.inside.entries) c.args.view c.args.entry) c.if-not-fresh.false c.in_ok-fresh.ensures.now)
    c.self.inside.firsts.entries c.insert.new.self.entries (sym (ap (comes_first c.args.view) c.get.ensures.value) ∙ sym c.comes_first-is_first.ensures ∙ c.if-not-is_first.false) c.self.invariant c.in_default.ensures.updates.0
