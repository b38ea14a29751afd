-- What a crash may leave at this moment.
use Rattle.std.proofs.Common.{◌≡◌, inl, inr, List, [], ◌∷◌, ℕ, length, drop, Some}
use Rattle.cs_disk.specs.declared.state.State.{State}
use Rattle.cs_disk.specs.Tears.{Leaves, LeftIn, LeftSince}

none_left : (past : List State) (c : List ℕ) → LeftIn (drop (length past) past) c → ⊥
none_left [] c left = left
none_left (s ∷ past) c left = none_left past c left

-- since the last of the past there is this state alone
pub only_this : (past : List State) (s : State) (c : List ℕ) → LeftSince past s (length past) c → Leaves s c
only_this past s c (inl now) = now
only_this past s c (inr left) = absurd (none_left past c left)

-- the content is one of the outcomes
pub content_there : (s : State) (c : List ℕ) → Some s.content ≡ Some c → Leaves s c
content_there s c is = let same : c ≡ s.content = cc in inl same
