-- The files of a store, and what its calls do to them.
use Rattle.std.specs.Prelude.{◌≡◌, ◌≢◌, ◌⊎◌, ℕ, ◌<◌, ◌≤◌, List, [], length, Option, Some, None, IfSome, IsSomeAnd}
use Rattle.cs_io.specs.Told.{Changes}
use Rattle.cs_io.specs.declared.store.Loaded.{Loaded}
use Rattle.cs_io.specs.declared.store.Loaded.TheVariants.{Done, Absent, TooLong, Failed, Memory}
use Rattle.cs_io.specs.declared.store.Saved.{Saved}
use Rattle.cs_io.specs.declared.store.Saved.TheVariants as saved

-- what stands in the file of each name, where there is one
abbrev pub Files : Type 0
Files = List ℕ → Option (List ℕ)

-- a load gave the content of the named file, if that is within the limit, or nothing
abbrev pub Loads : Option Files → List ℕ → ℕ → List ℕ → Loaded → Type 0
Loads files name limit into Done =
    (length into ≤ limit) × IfSome files (λ content_of. content_of name ≡ Some into)
Loads files name limit into Absent =
    (into ≡ []) × IfSome files (λ content_of. content_of name ≡ None)
Loads files name limit into TooLong =
    (into ≡ []) × IfSome files (λ content_of. IsSomeAnd (content_of name) (λ content. limit < length content))
Loads files name limit into Failed = into ≡ []
Loads files name limit into Memory = into ≡ []

-- every other file is as it was
abbrev pub OthersStay : List ℕ → Files → Files → Type 0
OthersStay name before now = (other : List ℕ) → other ≢ name → now other ≡ before other

-- the named file has these bytes
abbrev pub Replaces : List ℕ → List ℕ → Files → Files → Type 0
Replaces name bytes before now = (now name ≡ Some bytes) × OthersStay name before now

-- the named file has these bytes, or is as it was
abbrev pub MayReplace : List ℕ → List ℕ → Files → Files → Type 0
MayReplace name bytes before now =
    ((now name ≡ Some bytes) ⊎ (now name ≡ before name)) × OthersStay name before now

-- what a save did
abbrev pub Saves : Option Files → Option Files → List ℕ → List ℕ → Saved → Type 0
Saves old new name bytes saved.Done = Changes (Replaces name bytes) old new
Saves old new name bytes saved.Failed = Changes (MayReplace name bytes) old new
Saves old new name bytes saved.Memory = Changes (MayReplace name bytes) old new
