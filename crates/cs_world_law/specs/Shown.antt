-- What an honest node keeps of what it executed, and what is shown under the heads of its checkpoints.
use Rattle.std.specs.Prelude.{◌≡◌, ℕ, ◌≤◌, ◌^◌, true, List, [], ◌∷◌, ◌++◌, length, map}
use Rattle.cs_base.specs.Lists.{IsIn}
use Rattle.cs_base.specs.declared.node_id.NodeId.{NodeId}
use Rattle.cs_tx_types.specs.declared.leaf.Leaf.{Leaf}
use Rattle.cs_tx_types.specs.declared.proof.Proof.{Proof}
use Rattle.cs_base.specs.declared.version.Version.TheVariants.{One}
use Rattle.cs_tx_types.specs.Log.{leaf_encoding, ProofFits}
use Rattle.cs_check_rules.specs.Chain.{covered_leaves, checkpoint_of}
use Rattle.cs_check_rules.specs.Shown.{Shows, NoProofCollision}
use Rattle.cs_ledger.specs.Ledger.{Bytes}
use Rattle.cs_node_state.specs.Bench.{effect_from}
use Rattle.cs_node_rules.specs.Signs.{Headed}
use Rattle.cs_node_rules.specs.Site.{Site}
use Rattle.cs_node_rules.specs.World.{Happening, Execution, view_of}
use Rattle.cs_world_law.specs.Worlds.{is_honest, signs_at}
use Rattle.cs_world_law.specs.Steps.{executions_in}

abbrev pub leaf_by : Execution → Leaf
leaf_by e = record { slot = e.slot; place = 0; action = e.entry; result = effect_from e.effect }

-- the oldest first
abbrev pub leaves_of : List Execution → List Leaf
leaves_of [] = []
leaves_of (e ∷ earlier) = leaves_of earlier ++ leaf_by e ∷ []

-- what a node executed
abbrev pub executed_by : {M : Type 0} → NodeId → List (Happening M) → List Execution
executed_by {M} i world = executions_in i.shard (signs_at i world)

-- In version 1 each honest node makes its checkpoints of the leaves of what it executed, and of no others.
abbrev pub KeepsExecuted : {M : Type 0} → Site M → List (Happening M) → Type 0
KeepsExecuted {M} site world =
    site.setup.version ≡ One → (i : NodeId) → is_honest site i ≡ true →
    (view_of site world i).bench.log.leaves ≡ map (leaf_encoding One) (leaves_of (executed_by i world))

-- the strings that are hashed for a node's checkpoint of that number, and for a proof, don't collide
abbrev pub NoHeadCollision : {M : Type 0} → Site M → List (Happening M) → NodeId → ℕ → Proof → Type 0
NoHeadCollision {M} site world i number proof =
    let log = (view_of site world i).bench.log in
    NoProofCollision (checkpoint_of log number) (covered_leaves log number) proof

-- In version 1, while slots fit into 64 bits, what is shown under a head that an honest node noted is what that node
-- executed.
abbrev pub ShowsExecuted : {M : Type 0} → Site M → List (Happening M) → Type 0
ShowsExecuted {M} site world =
    site.setup.version ≡ One →
    (i : NodeId) (number : ℕ) (head : Bytes) (proof : Proof) → is_honest site i ≡ true →
    length (executed_by i world) ≤ 2 ^ 64 → IsIn (Headed number head) (signs_at i world) →
    ProofFits One proof → NoHeadCollision site world i number proof → Shows head proof →
    IsIn proof.leaf (leaves_of (executed_by i world))

-- No two honest nodes of a shard note different heads of one number.
abbrev pub HeadsAgree : {M : Type 0} → Site M → List (Happening M) → Type 0
HeadsAgree {M} site world =
    (i j : NodeId) (number : ℕ) (a b : Bytes) →
    is_honest site i ≡ true → is_honest site j ≡ true → i.shard ≡ j.shard →
    IsIn (Headed number a) (signs_at i world) → IsIn (Headed number b) (signs_at j world) → a ≡ b
