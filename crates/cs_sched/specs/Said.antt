-- What the fields of each line but an event's say, or why they are refused. Their count is tested first.
use Rattle.std.specs.Prelude.{ℕ, nat_lt, List, Result, Err, if◌then◌else◌}
use Rattle.cs_base.specs.Config.{configured}
use Rattle.cs_base.specs.declared.limits.TheConstants.{MOST_GENESIS}
use Rattle.cs_base.specs.declared.config.Config.{Config}
use Rattle.cs_base.specs.declared.node_id.NodeId.{NodeId}
use Rattle.cs_tx_value.specs.declared.object.Object.{Object}
use Rattle.cs_sched.specs.declared.schedule.Schedule.{Schedule}
use Rattle.cs_sched.specs.declared.limits.TheConstants.{MOST_CONTRACTS}
use Rattle.cs_text.specs.Values.{◌>>=◌, only_field, number_said}
use Rattle.cs_sched.specs.Values.{config_in_range, contract_in, object_in}
use Rattle.cs_sched.specs.Naming.{liar_in}
use Rattle.cs_text.specs.declared.cause.Cause.{Cause}
use Rattle.cs_text.specs.declared.cause.Cause.TheVariants as cause

-- the number of shards
abbrev pub shards_said : Config → List (List ℕ) → Result Config Cause
shards_said config fields = do
  shards ← number_said fields
  config_in_range (configured shards config.f config.dummies)

-- the number of liars that a shard stands
abbrev pub faulty_said : Config → List (List ℕ) → Result Config Cause
faulty_said config fields = do
  faulty ← number_said fields
  config_in_range (configured config.shards faulty config.dummies)

-- the number of dummies of each shard
abbrev pub dummies_said : Config → List (List ℕ) → Result Config Cause
dummies_said config fields = do
  dummies ← number_said fields
  config_in_range (configured config.shards config.f dummies)

-- one more liar
abbrev pub liar_said : Schedule → List (List ℕ) → Result NodeId Cause
liar_said schedule fields = do
  field ← only_field fields
  liar_in schedule.config schedule.liars field

-- the text of the next contract, where so many stand before it, which are to be few
abbrev pub contract_said : ℕ → List (List ℕ) → Result (List ℕ) Cause
contract_said place fields = do
  field ← only_field fields
  if nat_lt place MOST_CONTRACTS then contract_in field else Err cause.Limit

-- the next object, where so many stand before it, which are to be few
abbrev pub object_said : ℕ → List (List ℕ) → Result Object Cause
object_said place fields = do
  field ← only_field fields
  if nat_lt place MOST_GENESIS then object_in field else Err cause.Limit
