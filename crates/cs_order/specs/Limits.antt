-- The bounds of slots and views, and the number by which a caller's loop ends.
use Rattle.std.specs.Prelude.{ℕ, ◌+◌, ◌-◌, ◌*◌}
use Rattle.cs_base.specs.declared.limits.TheConstants.{LAST_SLOT, VIEW_BOUND}

-- the last slot, which is never chosen
abbrev pub last_slot : ℕ
last_slot = LAST_SLOT

-- no view is this or above
abbrev pub view_bound : ℕ
view_bound = VIEW_BOUND

-- how many more of a caller's turns there may be,
-- where this many of proposing, echoing and confirming are left in the slot and view
abbrev pub rest_at : ℕ → ℕ → ℕ → ℕ
rest_at slot view left = ((last_slot - slot) * view_bound + (view_bound - 1 - view)) * 4 + left
