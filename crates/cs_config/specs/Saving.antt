-- Saving key files, one after the other.
use Rattle.std.specs.Prelude.{◌≡◌, ◌≢◌, ◌⊎◌, ℕ, List, [], ◌∷◌, ◌++◌, IsSomeAnd, Result, Ok, Err}
use Rattle.std.specs.List.{AllByRecursion}
use Rattle.cs_base.specs.declared.config.Config.{Config}
use Rattle.cs_base.specs.declared.node_id.NodeId.{NodeId}
use Rattle.cs_io.specs.Store.{Files}
use Rattle.cs_config.specs.FileNames.{key_file}
use Rattle.cs_config.specs.KeyText.{IsKeyFile}
use Rattle.cs_config.specs.declared.saving.SaveError.{SaveError}
use Rattle.cs_config.specs.declared.saving.SaveError.TheVariants.{Fault, Memory}

-- the key file of a name holds the keys that the master gives it, and nothing else
abbrev pub HoldsKeys : Config → List ℕ → Files → NodeId → Type 0
HoldsKeys config master files me = IsSomeAnd (files (key_file me)) (IsKeyFile config master me)

-- the key files of these hold their keys, and every other file is as it was
pub record SavesKeys (config : Config) (master : List ℕ) (names : List NodeId) (before now : Files) : Type 0 where
  pub held : AllByRecursion (HoldsKeys config master now) names
  pub others : (file : List ℕ) → AllByRecursion (λ me. key_file me ≢ file) names → now file ≡ before file

-- those of a front of these were saved
pub record SavesFront (config : Config) (master : List ℕ) (names : List NodeId) (before now : Files) : Type 0 where
  pub done : List NodeId
  pub rest : List NodeId
  pub front : names ≡ done ++ rest
  pub saved : SavesKeys config master done before now

-- those before this one were saved, and of this one the file is as it was, or saved too
pub record SavesBefore (me : NodeId) (config : Config) (master : List ℕ) (names : List NodeId) (before now : Files) : Type 0 where
  pub done : List NodeId
  pub rest : List NodeId
  pub front : names ≡ done ++ me ∷ rest
  pub saved : SavesKeys config master done before now ⊎ SavesKeys config master (done ++ me ∷ []) before now

-- all of these were saved, or those before the one at which the store failed, or before memory ran out
abbrev pub SavesUpTo : Config → List ℕ → List NodeId → Result Unit SaveError → Files → Files → Type 0
SavesUpTo config master names (Ok done) = SavesKeys config master names
SavesUpTo config master names (Err (Fault me)) = SavesBefore me config master names
SavesUpTo config master names (Err Memory) = SavesFront config master names

-- the store failed
abbrev pub ByFault : Result Unit SaveError → Type 0
ByFault (Ok done) = ⊥
ByFault (Err (Fault me)) = Unit {0}
ByFault (Err Memory) = ⊥
