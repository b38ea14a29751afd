-- Names in a key file, and what a table holds under a key.
use Rattle.std.specs.Prelude.{ℕ, List, Option, option_and_then}
use Rattle.toml.specs.Data.{Data, Members, get_member, as_str}
use Rattle.cs_base.specs.NodeId.{node_of}
use Rattle.cs_base.specs.declared.node_id.NodeId.{NodeId}

-- a string `S.I` or `c.N`
abbrev pub node_in : Data → Option NodeId
node_in held = option_and_then node_of (as_str held)

-- what a table holds under a key
abbrev pub held_at : {A : Type 0} → (Data → Option A) → List ℕ → Members → Option A
held_at read key members = option_and_then read (get_member key members)
