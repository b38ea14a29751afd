-- What the changes to the views of a slot show.
use Rattle.std.specs.Prelude.{◌≡◌, ℕ, ◌+◌, ◌*◌, ◌==◌, ◌≤◌, ◌<◌, nat_le, Bool, true, false, ◌&&◌, List, Option, Some, None}
use Rattle.std.specs.Map.{lookup}
use Rattle.std.specs.BTreeMap.{is_at}
use Rattle.std.specs.declared.cmp.Ordering.{Ordering}
use Rattle.std.specs.Ordering.{nat_cmp, ordering_then}
use Rattle.cs_order.specs.Counts.{when, count_below}
use Rattle.cs_order.specs.Limits.{view_bound}
use Rattle.cs_base.specs.Options.{or_else}
use Rattle.cs_order_rules.specs.declared.message.Change.{Change}
use Rattle.cs_order_rules.specs.Safe.{says_echoed}

-- changes by view and member, by rising view and then rising member
abbrev pub Filed : Type 0
Filed = List ((ℕ × ℕ) × Change)

abbrev pub place_cmp : ℕ × ℕ → ℕ × ℕ → Ordering
place_cmp p q = ordering_then (nat_cmp p.0 q.0) (nat_cmp p.1 q.1)

-- the greatest view to which each member gave a change
abbrev pub Furthest : Type 0
Furthest = List (ℕ × ℕ)

pub record KeptReach : Type 0 where
  pub f : ℕ
  pub furthest : Furthest

pub record KeptOfSlot : Type 0 where
  pub f : ℕ
  pub changes : Filed
  pub furthest : Furthest

pub record KeptChanges : Type 0 where
  pub f : ℕ
  pub view : ℕ
  pub changes : Filed

-- the change of a member to a view
abbrev pub change_in : Filed → ℕ → ℕ → Option Change
change_in changes view member = lookup (is_at (place_cmp (view, member))) changes

-- the member gave a change to this view or a later one
abbrev pub is_upto : ℕ → Option ℕ → Bool
is_upto view None = false
is_upto view (Some last) = nat_le view last

abbrev pub reaches : Furthest → ℕ → ℕ → Bool
reaches furthest view member = is_upto view (lookup (is_at (nat_cmp member)) furthest)

-- f+1 members did
abbrev pub is_joined : ℕ → Furthest → ℕ → Bool
is_joined f furthest view = nat_le (f + 1) (count_below (3 * f + 1) (reaches furthest view))

-- f+1 members have reached each view below this one, and none from this one on
abbrev pub EndsAt : ℕ → Furthest → ℕ → Type 0
EndsAt f furthest end =
    (end ≤ view_bound)
    × ((v : ℕ) → v < end → is_joined f furthest v ≡ true)
    × ((v : ℕ) → end ≤ v → v < view_bound → is_joined f furthest v ≡ false)

abbrev pub told_change : KeptChanges → ℕ → Option Change
told_change k = change_in k.changes k.view

abbrev pub none_told : ℕ → Option Change
none_told member = None

-- the changes with one more, where it is the member's first to the view
abbrev pub with_told : Bool → (ℕ → ℕ → Option Change) → ℕ → ℕ → Change → ℕ → ℕ → Option Change
with_told true told view member change v m = or_else (told v m) (when ((view == v) && (member == m)) (Some change))
with_told false told view member change v m = told v m

abbrev pub with_change : Bool → (ℕ → Option Change) → ℕ → Change → ℕ → Option Change
with_change true told member change m = or_else (told m) (when (member == m) (Some change))
with_change false told member change m = told m

-- f+1 members' changes list the digest as echoed from a view on, and below another
abbrev pub is_echoed : ℕ → (ℕ → Option Change) → ℕ → List ℕ → ℕ → Bool
is_echoed f changes below digest from =
    nat_le (f + 1) (count_below (3 * f + 1) (λ m. says_echoed from below digest (changes m)))
