use Rattle.std.proofs.Common.{◌≡◌, ℕ, ◌+◌, ◌*◌, nat_lt, nat_le, Bool, ◌||◌, List, sym, ap, ◌∙◌, arith}
use Rattle.std.proofs.lemmas.Bool.Decides.{nat_tests}
use Rattle.cs_order.specs.Counts.{any_below}
use Rattle.cs_order_rules.specs.Safe.{is_safe_from}
use Rattle.cs_change.specs.Kept.{KeptOfSlot, change_in}
use Rattle.cs_change.proofs.Safety.{safe_nowhere, safe_from_last}
use Rattle.cs_change.proofs.slot_changes.SlotChanges.safe.Goals as goal

next_upto : (a b : ℕ) → nat_lt a b ≡ nat_le (a + 1) b
next_upto a b = grind (arith, nat_tests)

abbrev somewhere : KeptOfSlot → ℕ → List ℕ → Bool
somewhere k view digest = any_below view (is_safe_from k.f (change_in k.changes view) view digest)

pub returns-in-Some : goal.returns-in-Some
returns-in-Some c =
    ap (λ f. nat_lt (2 * f) c.count_allowed.result) (ap (λ (k : KeptOfSlot). k.f) c.self.view_is)
    ∙ next_upto (2 * c.args.self.now.f) c.count_allowed.result
    ∙ ap (nat_le (2 * c.args.self.now.f + 1)) c.count_allowed.ensures
    ∙ sym (safe_from_last c.args.self.now.f (change_in c.args.self.now.changes c.args.view) c.args.view c.args.digest.now c.in-Some.from c.in-Some.ensures)
    ∙ ap (λ b. b || somewhere c.args.self.now c.args.view c.args.digest.now) c.if-free.ensures

pub returns-in-None : goal.returns-in-None
returns-in-None c =
    sym (safe_nowhere c.args.self.now.f (change_in c.args.self.now.changes c.args.view) c.args.view c.args.digest.now c.in-None.ensures)
    ∙ ap (λ b. b || somewhere c.args.self.now c.args.view c.args.digest.now) c.if-free.ensures
