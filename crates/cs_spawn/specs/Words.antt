-- The words that children are started with, and what they are called in their lines.
use Rattle.std.specs.Prelude.{ℕ, List, [], ◌∷◌, ◌++◌, codes}
use Rattle.std.specs.Fmt.{decimal}
use Rattle.cs_base.specs.declared.node_id.NodeId.{NodeId}
use Rattle.cs_base.specs.declared.node_id.TheConstants.{CLIENT_SHARD}
use Rattle.cs_base.specs.NodeId.{node_text}
use Rattle.cs_config.specs.declared.plan.Plan.{Plan}
use Rattle.cs_config.specs.FileNames.{key_file}

-- `node SITE keys-S.I.toml --turns TURNS`
abbrev pub node_words : Plan → NodeId → List (List ℕ)
node_words plan me = codes "node" ∷ plan.site ∷ key_file me ∷ codes "--turns" ∷ decimal plan.turns ∷ []

-- client c.0 makes each call
abbrev pub caller : NodeId
caller = record { shard = CLIENT_SHARD; index = 0 }

-- `client SITE keys-c.0.toml CALL --turns TURNS`
abbrev pub client_words : Plan → List ℕ → List (List ℕ)
client_words plan call =
    codes "client" ∷ plan.site ∷ key_file caller ∷ call ∷ codes "--turns" ∷ decimal plan.turns ∷ []

-- a node is called by its name, a client by the number of its call
abbrev pub node_title : NodeId → List ℕ
node_title me = codes "node " ++ node_text me

abbrev pub client_title : ℕ → List ℕ
client_title call = codes "client " ++ decimal call

-- the line of a child
abbrev pub child_end_line : List ℕ → ℕ → List ℕ
child_end_line title status = title ++ (codes " ended " ++ (decimal status ++ codes "\n"))
