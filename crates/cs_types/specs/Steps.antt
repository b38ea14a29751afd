-- What a function answers that takes a scope over a statement or a block.
use Rattle.std.specs.Prelude.{◌≡◌, ℕ, List, ◌++◌, Result, Ok, Err}
use Rattle.cs_types_kinds.specs.declared.fault.TypeError.{TypeError}
use Rattle.cs_types_kinds.specs.declared.scope.Entry.{Entry}
use Rattle.cs_types_kinds.specs.Told.{Told}
use Rattle.cs_types_kinds.specs.Scopes.{InSight, sight_with_names}
use Rattle.cs_types.specs.Answers.{Fails}
use Rattle.cs_types.specs.Stating.{Added, SoFar}

-- names were added, and all else is the same
pub record SightStays (before behind : InSight) : Type 0 where
  pub more : List Entry
  pub is : behind ≡ sight_with_names before (before.names ++ more)

-- the contract and the costs of the methods above are the same
abbrev pub SameAbove : InSight → InSight → Type 0
SameAbove before behind = (behind.contract ≡ before.contract) × (behind.costs ≡ before.costs)

-- a statement's cost is told, and the names in sight behind it
abbrev pub AddsNames : Result ℕ TypeError → InSight → InSight → Told Added → Type 0
AddsNames (Ok cost) before behind told = (told ≡ Ok (cost, behind.names)) × SightStays before behind
AddsNames (Err e) before behind told = Fails e told

-- a sum is told, and what is in sight behind it
abbrev pub Sums : Result ℕ TypeError → InSight → InSight → Told SoFar → Type 0
Sums (Ok cost) before behind told = (told ≡ Ok (cost, behind)) × SightStays before behind
Sums (Err e) before behind told = Fails e told

-- a block's cost is told, and nothing changes
abbrev pub Blocks : Result ℕ TypeError → InSight → InSight → Told ℕ → Type 0
Blocks (Ok cost) before behind told = (told ≡ Ok cost) × (behind ≡ before)
Blocks (Err e) before behind told = Fails e told

-- all of it passes, or a fault is told
abbrev pub StatementPasses : {X : Type 0} → Result Unit TypeError → X → Told X → Type 0
StatementPasses (Ok done) x told = told ≡ Ok x
StatementPasses (Err e) x told = Fails e told

-- the names in sight behind it are told
abbrev pub BindsNames : Result Unit TypeError → InSight → InSight → Told (List Entry) → Type 0
BindsNames (Ok done) before behind told = (told ≡ Ok behind.names) × SightStays before behind
BindsNames (Err e) before behind told = Fails e told
