-- Whose key files there are, and by what name.
use Rattle.std.specs.Prelude.{ℕ, List, ◌++◌, codes}
use Rattle.cs_base.specs.declared.node_id.NodeId.{NodeId}
use Rattle.cs_base.specs.NodeId.{node_text}

-- `keys-S.I.toml` of a node, `keys-c.N.toml` of a client
abbrev pub key_file : NodeId → List ℕ
key_file me = codes "keys-" ++ (node_text me ++ codes ".toml")
