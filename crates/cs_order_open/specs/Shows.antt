-- What is kept of a slot, and when it shows what a member took of that slot.
use Rattle.std.specs.Prelude.{◌≡◌, ℕ, ◌+◌, ◌*◌, ◌%◌, ◌==◌, Bool, true, false, not, List, ◌∷◌, None}
use Rattle.cs_order_rules.specs.declared.message.OrderMessage.{OrderMessage}
use Rattle.cs_order_rules.specs.declared.message.OrderMessage.TheVariants as message
use Rattle.cs_order_rules.specs.Facts.{Sight, member_count, is_like, proposal_said, change_said, is_change_from, took, first_of}
use Rattle.cs_order_rules.specs.Rules.{seen_at, echoed_in}
use Rattle.cs_slot.specs.Kept.{KeptSlot, seen_in}
use Rattle.cs_change.specs.Kept.{KeptOfSlot, change_in, reaches}

pub record KeptOpenSlot : Type 0 where
  pub slot : KeptSlot
  pub changes : KeptOfSlot
  pub echoed : List (List ℕ × ℕ)  -- what the member itself echoed, rising

pub record ShowsSlot (k : KeptOpenSlot) (s : Sight) (n view : ℕ) : Type 0 where
  pub seen : seen_in k.slot ≡ seen_at s n view
  pub same_f : k.changes.f ≡ s.f
  pub told : (v member : ℕ) → change_in k.changes.changes v member ≡ first_of (change_said n v) s.taken member
  pub reached : (v member : ℕ) → reaches k.changes.furthest v member ≡ took (is_change_from n v) s.taken member
  pub echoed : k.echoed ≡ echoed_in s.me n s.taken
  -- only the leader of a view proposes in it
  pub led_only : (v member : ℕ) → (member == (n + v) % member_count s) ≡ false
      → first_of (proposal_said n v) s.taken member ≡ None

-- one more message was taken
abbrev pub with_fact : Sight → ℕ → OrderMessage → Sight
with_fact s from m = record s { taken = (from, m) ∷ s.taken }

-- or none, where it was a repeat
abbrev pub ShowsNext : Bool → KeptOpenSlot → Sight → ℕ → ℕ → ℕ → OrderMessage → Type 0
ShowsNext true k s n view from m = ShowsSlot k (with_fact s from m) n view
ShowsNext false k s n view from m = ShowsSlot k s n view

-- a message of the slot is taken, unless one of its member, kind and view was
abbrev pub TakesFirst : Bool → KeptOpenSlot → Sight → ℕ → ℕ → ℕ → OrderMessage → Type 0
TakesFirst fresh k s n view from m = (fresh ≡ not (took (is_like m) s.taken from)) × ShowsNext fresh k s n view from m

-- whose it is
pub record IsSlotOf (f n me view : ℕ) (k : KeptOpenSlot) : Type 0 where
  pub f_is : k.slot.f ≡ f
  pub n_is : k.slot.n ≡ n
  pub me_is : k.slot.me ≡ me
  pub view_is : k.slot.view ≡ view
  pub changes_f_is : k.changes.f ≡ f

-- a proposal is of the member that leads its view
abbrev pub led : ℕ → ℕ → OrderMessage → Bool
led f from (message.Propose n w e) = from == (n + w) % (3 * f + 1)
led f from (message.Echo n w d) = true
led f from (message.Confirm n w d) = true
led f from (message.Change n w c) = true
led f from (message.Done n e) = true
