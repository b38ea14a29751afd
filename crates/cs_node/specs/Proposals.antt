-- Proposed entries, as a node reads them.
use Rattle.std.specs.Prelude.{ℕ, Bool, false, if◌then◌else◌, List, [], ◌∷◌, Option, Some, None}
use Rattle.cs_order.specs.declared.proposed.Proposed.{Proposed}
use Rattle.cs_node_state.specs.Setup.{Setup}
use Rattle.cs_node_state.specs.Pool.{Pool}
use Rattle.cs_node_state.specs.Admission.{admits}
use Rattle.cs_node_rules.specs.Deployment.{entry_in}

abbrev pub pool_admits : Setup → ℕ → Pool → Proposed → Bool
pool_admits setup shard pool proposed = admits setup shard pool (entry_in setup.version proposed)

abbrev pub admits_pending : Setup → ℕ → Pool → Option Proposed → Bool
admits_pending setup shard pool None = false
admits_pending setup shard pool (Some proposed) = pool_admits setup shard pool proposed

-- the first of these proposals that is admitted
abbrev pub first_admitted : Setup → ℕ → Pool → List Proposed → Option Proposed
first_admitted setup shard pool [] = None
first_admitted setup shard pool (proposed ∷ more) =
    if pool_admits setup shard pool proposed then Some proposed else first_admitted setup shard pool more
