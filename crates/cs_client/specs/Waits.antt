-- What a client waits for, by its inputs.
use Rattle.std.specs.Prelude.{ℕ, Bool, is_none, List, [], ◌∷◌, ◌++◌, filter, if◌then◌else◌}
use Rattle.std.specs.List.{flat_map}
use Rattle.cs_client.specs.declared.beliefs.Asked.{Asked}
use Rattle.cs_client.specs.declared.errand.Errand.{Errand}
use Rattle.cs_client.specs.declared.phases.Phase.{Phase as Kept}
use Rattle.cs_client.specs.declared.phases.Phase.TheVariants as kept
use Rattle.cs_client.specs.declared.waiting.Waiting.{Waiting}
use Rattle.cs_client.specs.declared.waiting.Waiting.TheVariants.{Objects, Dummies, Answers, Nothing}
use Rattle.cs_client.specs.Inputs.{ClientInput}
use Rattle.cs_client.specs.Objects.{believed}
use Rattle.cs_client.specs.Dummies.{dummy_believed}
use Rattle.cs_client.specs.Sessions.{bare_shards}
use Rattle.cs_client.specs.Phases.{Phase, Asking, Wanting, Submitting, Idle, phase}
use Rattle.cs_client.specs.Kept.{WordsTold, dummy_kept}

-- of these names those under which no object is believed
abbrev pub is_unbelieved : Errand → List ClientInput → List ℕ → Bool
is_unbelieved e inputs name = is_none (believed e.config e.keys inputs name)

abbrev pub unbelieved : Errand → List ClientInput → List (List ℕ) → List (List ℕ)
unbelieved e inputs names = filter (is_unbelieved e inputs) names

-- of these shards those in which no dummy is believed
abbrev pub lacks_dummy : Errand → List ClientInput → ℕ → Bool
lacks_dummy e inputs shard = is_none (dummy_believed e.dummy e.config e.keys inputs shard)

abbrev pub lacking : Errand → List ClientInput → List ℕ → List ℕ
lacking e inputs shards = filter (lacks_dummy e inputs) shards

-- what it waits for in each phase: the objects of its call, the dummies of its session, what nodes say of that
abbrev pub waiting_in : Errand → List ClientInput → Phase → Waiting
waiting_in e inputs Asking = Objects (unbelieved e inputs e.call.inputs ++ unbelieved e inputs e.call.reads)
waiting_in e inputs (Wanting x) = Dummies (lacking e inputs (bare_shards e.config x))
waiting_in e inputs (Submitting x) = Answers
waiting_in e inputs Idle = Nothing

-- what it waits for after these inputs
abbrev pub waiting : Errand → List ClientInput → Waiting
waiting e inputs = waiting_in e inputs (phase e inputs)

-- ---- of what is kept

abbrev pub unsettled_name : Asked → List (List ℕ)
unsettled_name asked = if asked.settled then [] else asked.name ∷ []

abbrev pub unsettled : List Asked → List (List ℕ)
unsettled asked = flat_map unsettled_name asked

abbrev pub names_unsettled : WordsTold → List (List ℕ)
names_unsettled told = unsettled told.inputs ++ unsettled told.reads

abbrev pub lacks_kept : ℕ → List (List (List ℕ)) → ℕ → Bool
lacks_kept f serials shard = is_none (dummy_kept f serials shard)

abbrev pub waiting_kept : ℕ → WordsTold → Kept → Waiting
waiting_kept f told kept.Asking = Objects (names_unsettled told)
waiting_kept f told (kept.Wanting wanted) = Dummies (filter (lacks_kept f told.serials) wanted.shards)
waiting_kept f told (kept.Submitting submission) = Answers
waiting_kept f told kept.Idle = Nothing
