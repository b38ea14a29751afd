-- Names of nodes and clients, and who may stand where.
use Rattle.std.specs.Prelude.{ℕ, ◌==◌, ◌&&◌, ◌||◌, nat_lt, Bool, List, count_by, Result, Ok, Err, if◌then◌else◌}
use Rattle.std.specs.List.{list_any}
use Rattle.std.specs.Option.{ok_or}
use Rattle.cs_base.specs.NodeId.{node_of, is_named, is_client}
use Rattle.cs_base.specs.declared.node_id.NodeId.{NodeId}
use Rattle.cs_base.specs.declared.config.Config.{Config}
use Rattle.cs_text.specs.Values.{◌>>=◌}
use Rattle.cs_text.specs.declared.cause.Cause.{Cause}
use Rattle.cs_text.specs.declared.cause.Cause.TheVariants as cause

-- the node or client of the configuration whose name a field is
abbrev pub name_of_field : Config → List ℕ → Result NodeId Cause
name_of_field config field = do
  name ← ok_or (node_of field) cause.Node
  if is_named config name then Ok name else Err cause.Node

-- whether two names are equal
abbrev pub is_name : NodeId → NodeId → Bool
is_name a b = a.shard == b.shard && a.index == b.index

-- whether this is one of the liars
abbrev pub is_liar : List NodeId → NodeId → Bool
is_liar liars name = list_any (is_name name) liars

-- how many liars the shard has
abbrev pub liars_of : List NodeId → ℕ → ℕ
liars_of liars shard = count_by (λ liar. liar.shard == shard) liars

-- one that isn't a liar yet, in a shard that has fewer liars than f
abbrev pub one_more_liar : Config → List NodeId → NodeId → Result NodeId Cause
one_more_liar config liars name =
    if is_liar liars name then Err cause.Liars
    else if nat_lt (liars_of liars name.shard) config.f then Ok name
    else Err cause.Liars

-- a liar: a node, and one more liar of its shard
abbrev pub liar_in : Config → List NodeId → List ℕ → Result NodeId Cause
liar_in config liars field = do
  name ← name_of_field config field
  if is_client name then Err cause.Role else one_more_liar config liars name

-- who speaks: a liar or a client
abbrev pub speaker_in : Config → List NodeId → List ℕ → Result NodeId Cause
speaker_in config liars field = do
  name ← name_of_field config field
  if is_client name || is_liar liars name then Ok name else Err cause.Role

-- who things happen to: an honest node
abbrev pub honest_in : Config → List NodeId → List ℕ → Result NodeId Cause
honest_in config liars field = do
  name ← name_of_field config field
  if is_client name || is_liar liars name then Err cause.Role else Ok name
