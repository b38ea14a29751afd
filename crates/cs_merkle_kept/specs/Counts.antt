-- How many inner nodes are joined.
use Rattle.std.specs.Prelude.{◌≡◌, ℕ, zero, suc, ◌+◌, ◌-◌, ◌*◌, ◌^◌, ◌<◌, ◌≤◌, nat_lt, if◌then◌else◌, Bool, true, false, List, [], length, slice_index_or, Contains}

-- whether the node at a place of the level above so many is a join, or the last one alone
abbrev pub joins_at : ℕ → ℕ → ℕ
joins_at count place = if nat_lt (2 * place + 1) count then 1 else 0

-- the most, under a height, where so many leaves changed in their places and so many moved
abbrev pub most_joins : ℕ → ℕ → ℕ → ℕ
most_joins changed zero height = changed * height
most_joins changed (suc moved) height = suc moved + (changed + 1) * height

-- of keys that are put among old ones so many are old, and the one behind them is new and stands at a place
pub record IsFirstNew (old new put : List (List ℕ)) (before place : ℕ) : Type 0 where
  pub some : before < length put
  pub olds : (i : ℕ) → i < before → Contains old (slice_index_or put i [])
  pub fresh : Contains old (slice_index_or put before []) → ⊥
  pub within : place < length new
  pub here : slice_index_or new place [] ≡ slice_index_or put before []

-- each of them is old
abbrev pub AreOldKeys : List (List ℕ) → List (List ℕ) → Type 0
AreOldKeys old put = (i : ℕ) → i < length put → Contains old (slice_index_or put i [])

-- a new key among n takes at most a join for each inner node, an old one at most as many as its path is long
abbrev pub FewJoins : Bool → ℕ → ℕ → Type 0
FewJoins true n joins = joins ≤ n - 1
FewJoins false n joins = (joins ≤ n - 1) × (1 < n → 2 ^ joins ≤ 2 * (n - 1))
