-- Tallies of what nodes say has become of a session.
use Rattle.std.specs.Prelude.{◌≡◌, ℕ, ◌+◌, ◌*◌, ◌==◌, nat_lt, Bool, true, false, not, ◌&&◌, ◌||◌, List, length, slice_get, Some}
use Rattle.std.specs.List.{AllByRecursion}
use Rattle.cs_base.specs.declared.node_id.NodeId.{NodeId}
use Rattle.cs_order.specs.Counts.{count_below}
use Rattle.cs_quorum.specs.Marks.{Marks, members_of, is_marked}
use Rattle.cs_client.specs.declared.counting.Voices.{Voices}

-- more than f members are marked
abbrev pub is_enough : ℕ → Marks → Bool
is_enough f tally = nat_lt f (count_below (members_of tally) (is_marked tally))

-- ---- before anything was said

pub record IsBlank (f : ℕ) (tally : Marks) : Type 0 where
  pub members : members_of tally ≡ 3 * f + 1
  pub unmarked : (n : ℕ) → is_marked tally n ≡ false

pub record IsUnheard (f shard : ℕ) (voices : Voices) : Type 0 where
  pub shard_is : voices.shard ≡ shard
  pub accepted : IsBlank f voices.accepted
  pub aborted : IsBlank f voices.aborted

-- these are as many, and of each two at one place it holds
pub record Pairwise {A B : Type 0} (Holds : A → B → Type 0) (xs : List A) (ys : List B) : Type 0 where
  pub many : length ys ≡ length xs
  pub each : (k : ℕ) (x : A) (y : B) → slice_get xs k ≡ Some x → slice_get ys k ≡ Some y → Holds x y

abbrev pub AreUnheard : ℕ → List ℕ → List Voices → Type 0
AreUnheard f shards voices = Pairwise (IsUnheard f) shards voices

-- ---- one voice more

-- where it says so, this member is marked too
pub record Marked (index : ℕ) (says : Bool) (old new : Marks) : Type 0 where
  pub members : members_of new ≡ members_of old
  pub marks : (n : ℕ) → is_marked new n ≡ (((n == index) && says) || is_marked old n)

pub record Heard (index : ℕ) (accepted : Bool) (old new : Voices) : Type 0 where
  pub shard_is : new.shard ≡ old.shard
  pub accepted_is : Marked index accepted old.accepted new.accepted
  pub aborted_is : Marked index (not accepted) old.aborted new.aborted

-- those of its own shard heard it, and the others are as they were
abbrev pub HeardThere : Bool → ℕ → Bool → Voices → Voices → Type 0
HeardThere true index accepted old new = Heard index accepted old new
HeardThere false index accepted old new = new ≡ old

abbrev pub HeardFrom : NodeId → Bool → Voices → Voices → Type 0
HeardFrom from accepted old new = HeardThere (old.shard == from.shard) from.index accepted old new

abbrev pub EachHeard : NodeId → Bool → List Voices → List Voices → Type 0
EachHeard from accepted old new = Pairwise (HeardFrom from accepted) old new

-- tallies of all members
abbrev pub VoicesFit : ℕ → Voices → Type 0
VoicesFit f v = (members_of v.accepted ≡ 3 * f + 1) × (members_of v.aborted ≡ 3 * f + 1)

abbrev pub EachFits : ℕ → List Voices → Type 0
EachFits f voices = AllByRecursion (VoicesFit f) voices
