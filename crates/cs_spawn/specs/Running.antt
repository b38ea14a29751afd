-- What deeds leave at the spawner and the sink, and how the running of a cluster ends.
use Rattle.std.specs.Prelude.{◌≡◌, ◌⊎◌, ℕ, ◌+◌, ◌<◌, ◌≤◌, List, [], ◌∷◌, ◌++◌, length, Option, IfSome, Result, Ok, Err}
use Rattle.std.specs.Io.KnownBytes.{Appends}
use Rattle.cs_base.specs.Answers.{AppendsFront}
use Rattle.cs_io.specs.Told.{Changes, Stays}
use Rattle.cs_io.specs.Spawner.{Children, EndsThese}
use Rattle.cs_io.specs.Outside.{SpawnerTold, Beside}
use Rattle.cs_spawn.specs.Words.{child_end_line}
use Rattle.cs_spawn.specs.Deeds.{ClusterDeed, Start, Wait, words_in, left_after}
use Rattle.cs_spawn.specs.declared.error.ClusterError.{ClusterError}
use Rattle.cs_spawn.specs.declared.error.ClusterError.TheVariants.{SpawnFault, WriteFault, Memory}

-- the child of this number ends with this status, where the spawner tells that
abbrev pub ChildEndsWith : Option (ℕ → ℕ) → ℕ → ℕ → Type 0
ChildEndsWith statuses number status = IfSome statuses (λ status_of. status ≡ status_of number)

-- the lines of those that are waited for, each with the status that it ended with
abbrev pub AreLines : Option (ℕ → ℕ) → List ClusterDeed → List ℕ → Type 0
AreLines statuses [] lines = lines ≡ []
AreLines statuses (Start words ∷ deeds) lines = AreLines statuses deeds lines
AreLines statuses (Wait title number ∷ deeds) lines =
    (status : ℕ) × (later : List ℕ) × ChildEndsWith statuses number status
    × (lines ≡ child_end_line title status ++ later) × AreLines statuses deeds later

-- these children were started, and their statuses stay
pub record StartsChildren (words : Children) (old new : Beside SpawnerTold) : Type 0 where
  pub started : Changes (λ before now. now ≡ before ++ words) old.told.started new.told.started
  pub children : new.told.children ≡ old.told.children + length words
  pub statuses : Stays old.told.statuses new.told.statuses

-- no child was started, no start was tried, and no child was told to end
pub record IsIdle (old new : Beside SpawnerTold) : Type 0 where
  pub starts : StartsChildren [] old new
  pub tried : new.told.unstarted ≡ old.told.unstarted
  pub ended : new.told.ended ≡ old.told.ended

-- Of these deeds, none of which was done, the first was tried once at most where it is a start: so many starts gave no
-- child before and now.
abbrev pub TriesFirst : List ClusterDeed → ℕ → ℕ → Type 0
TriesFirst [] before now = now ≡ before
TriesFirst (Start words ∷ deeds) before now = now ≤ before + 1
TriesFirst (Wait title number ∷ deeds) before now = now ≡ before

-- all of these deeds were done, and no others
pub record DoesDeeds (deeds : List ClusterDeed) (old new : Beside SpawnerTold) : Type 0 where
  pub starts : StartsChildren (words_in deeds) old new
  pub lines : List ℕ
  pub told : AreLines old.told.statuses deeds lines
  pub written : Appends old.written new.written lines

-- A front of these was done, each start at the first try, with such children left; and of the others none but the next
-- was tried.
pub record DoesFront (Left : List ClusterDeed → Type 0) (deeds : List ClusterDeed) (old new : Beside SpawnerTold) : Type 0 where
  pub done : List ClusterDeed
  pub rest : List ClusterDeed
  pub front : deeds ≡ done ++ rest
  pub does : DoesDeeds done old new
  pub tried : TriesFirst rest old.told.unstarted new.told.unstarted
  pub left : Left done

-- All deeds before a wait were done; then the child had ended, and of its line a front was written. Such children are
-- left.
pub record BreaksOff (Left : List ClusterDeed → Type 0) (deeds : List ClusterDeed) (old new : Beside SpawnerTold) : Type 0 where
  pub done : List ClusterDeed
  pub title : List ℕ
  pub number : ℕ
  pub rest : List ClusterDeed
  pub front : deeds ≡ done ++ Wait title number ∷ rest
  pub status : ℕ
  pub ended : ChildEndsWith old.told.statuses number status
  pub middle : Beside SpawnerTold
  pub does : DoesDeeds done old middle
  pub kept : StartsChildren [] middle new
  pub tried : new.told.unstarted ≡ old.told.unstarted
  pub written : AppendsFront middle.written new.written (child_end_line title status)
  pub left : Left (done ++ Wait title number ∷ [])

-- Where the spawner failed, the deeds before were done; where the sink failed, all but the end of a line; and where memory
-- ran out, one or the other.
abbrev pub ClusterFails : (List ClusterDeed → Type 0) → List ClusterDeed → Beside SpawnerTold → Beside SpawnerTold → ClusterError → Type 0
ClusterFails Left deeds old new SpawnFault = DoesFront Left deeds old new
ClusterFails Left deeds old new WriteFault = BreaksOff Left deeds old new
ClusterFails Left deeds old new Memory = DoesFront Left deeds old new ⊎ BreaksOff Left deeds old new

-- ---- the children that are left

-- those that were started and not waited for were told to end, and no others
abbrev pub EndsLeft : Beside SpawnerTold → Beside SpawnerTold → List ClusterDeed → Type 0
EndsLeft old new done = EndsThese (left_after [] old.told.children done) old.told.ended new.told.ended

-- All deeds were done, each start at the first try; or a part of them, and then the children that are left were told to
-- end.
abbrev pub ClusterEnds : {A : Type 0} → List ClusterDeed → Beside SpawnerTold → Beside SpawnerTold → Result A ClusterError → Type 0
ClusterEnds {A} deeds old new (Ok x) =
    DoesDeeds deeds old new × (new.told.ended ≡ old.told.ended) × (new.told.unstarted ≡ old.told.unstarted)
ClusterEnds {A} deeds old new (Err error) = ClusterFails (EndsLeft old new) deeds old new error

-- none was told to end; these are left, of those that were left before and those that were started
pub record LeavesChildren (before now : List ℕ) (old new : Beside SpawnerTold) (done : List ClusterDeed) : Type 0 where
  pub ended : new.told.ended ≡ old.told.ended
  pub left : now ≡ left_after before old.told.children done

-- all deeds were done, or a part of them
abbrev pub ClusterGoesOn : {A : Type 0} → List ClusterDeed → List ℕ → List ℕ → Beside SpawnerTold → Beside SpawnerTold
    → Result A ClusterError → Type 0
ClusterGoesOn {A} deeds before now old new (Ok x) =
    DoesDeeds deeds old new × LeavesChildren before now old new deeds × (new.told.unstarted ≡ old.told.unstarted)
ClusterGoesOn {A} deeds before now old new (Err error) =
    ClusterFails (LeavesChildren before now old new) deeds old new error

-- these numbers rise, from the first on, and end before the last
abbrev pub RiseBetween : ℕ → ℕ → List ℕ → Type 0
RiseBetween first last [] = Unit {0}
RiseBetween first last (number ∷ more) = (first ≤ number) × (number < last) × RiseBetween (number + 1) last more
