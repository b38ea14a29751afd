-- The checkpoints that other members of a shard told a node.
use Rattle.std.specs.Prelude.{ℕ, ◌==◌, nat_lt, Bool, true, if◌then◌else◌, List, [], ◌∷◌, Option, Some, None}
use Rattle.cs_tx_types.specs.declared.checkpoint.Checkpoint.{Checkpoint}

-- the last one of each member that told one, under its index
abbrev pub Heads : Type 0
Heads = List (ℕ × Checkpoint)

abbrev pub head_under : ℕ → Heads → Option Checkpoint
head_under index [] = None
head_under index (told ∷ more) = if told.0 == index then Some told.1 else head_under index more

abbrev pub is_above : Option Checkpoint → Checkpoint → Bool
is_above None c = true
is_above (Some last) c = nat_lt last.number c.number

-- its number is above that of the last one
abbrev pub is_news : ℕ → Checkpoint → Heads → Bool
is_news index c heads = is_above (head_under index heads) c

-- it takes the place of the last one
abbrev pub with_head : ℕ → Checkpoint → Heads → Heads
with_head index c [] = (index, c) ∷ []
with_head index c (told ∷ more) = if told.0 == index then (index, c) ∷ more else told ∷ with_head index c more
