-- What the objects of the outside have told so far, and whether one of them failed in a call.
use Rattle.std.specs.Prelude.{ℕ, Bool, List, Option}
use Rattle.cs_base.specs.Outside.{Rose}
use Rattle.cs_io.specs.Store.{Files}
use Rattle.cs_io.specs.Link.{LinkPlace, Hosting, Offers}
use Rattle.cs_io.specs.Spawner.{Children}
use Rattle.cs_io.specs.declared.link.MemInput.{MemInput}

-- ---- what is told

-- a link
pub record LinkTold : Type 0 where
  pub bound : Option (Option LinkPlace)  -- what it is bound as
  pub placed : Option (Option Hosting)  -- where it was told that nodes and clients are
  pub left : Option (List MemInput)  -- the inputs that are left
  pub offered : Option Offers  -- all that was offered to be sent, with its addressee
  pub missed : ℕ  -- how many receives in a row have failed, up to 2^64 - 1

-- a spawner, of each child by its number
pub record SpawnerTold : Type 0 where
  pub started : Option Children  -- the words of each
  pub children : ℕ  -- how many were started
  pub unstarted : ℕ  -- how many starts gave no child, up to 2^64 - 1
  pub statuses : Option (ℕ → ℕ)  -- the status with which each ends
  pub ended : ℕ → Bool  -- whether each was told to end, whatever came of it

-- an object, and what was written to the sink beside it
pub record Beside (A : Type 0) : Type 0 where
  pub told : A
  pub written : Option (List ℕ)

abbrev pub beside : {A : Type 0} → A → Option (List ℕ) → Beside A
beside {A} told written = record { told = told; written = written }

-- an object by what it has told, and by how often it has failed
pub record Object (A : Type 0) : Type 0 where
  pub told : A
  pub faults : ℕ

abbrev pub told_of : {A : Type 0} → Object A → A
told_of {A} object = object.told

abbrev pub faults_of : {A : Type 0} → Object A → ℕ
faults_of {A} object = object.faults

-- all objects of a program
pub record Outside : Type 0 where
  pub source : Object (Option (List ℕ))  -- what is left of it
  pub sink : Object (Option (List ℕ))  -- what was written to it
  pub store : Object (Option Files)
  pub link : Object LinkTold
  pub spawner : Object SpawnerTold

-- that of these five, by what each of their kinds tells and how it counts its faults
abbrev pub outside : {S K E L P : Type 0} → (S → Option (List ℕ)) → (S → ℕ) → (K → Option (List ℕ)) → (K → ℕ)
    → (E → Option Files) → (E → ℕ) → (L → LinkTold) → (L → ℕ) → (P → SpawnerTold) → (P → ℕ) → S → K → E → L → P → Outside
outside {S} {K} {E} {L} {P} left reads written writes files stores link links spawner spawns s k e l p = record {
  source = record { told = left s; faults = reads s };
  sink = record { told = written k; faults = writes k };
  store = record { told = files e; faults = stores e };
  link = record { told = link l; faults = links l };
  spawner = record { told = spawner p; faults = spawns p };
}

-- ---- faults

-- one came about in a call, by the object's own count, before and after
abbrev pub Faulty : {A : Type 0} → (A → ℕ) → A → A → Type 0
Faulty {A} faults old new = Rose (faults old) (faults new)

-- none did
abbrev pub Faultless : {A : Type 0} → (A → ℕ) → A → A → Type 0
Faultless {A} faults old new = Faulty faults old new → ⊥
