-- What is said to each, as datagrams.
use Rattle.std.proofs.Common.{◌≡◌, ℕ, List, [], ◌∷◌, ◌++◌, refl, ap, ◌∙◌}
use Rattle.cs_base.specs.declared.node_id.NodeId.{NodeId}
use Rattle.cs_wire_message.specs.declared.message.Message.{Message}
use Rattle.cs_wire_message.specs.Message.{kind_of, body_of}
use Rattle.cs_wire.specs.declared.keys.Keys.{Keys}
use Rattle.cs_wire.specs.Keys.{row_of}
use Rattle.cs_client.specs.Sayings.{say_to_each, out_by, outs_with, outs_of_sayings}

each-said : (keys : Keys) (m : Message) (nodes : List NodeId) → outs_with keys (kind_of m) (body_of keys.version m) nodes ≡ outs_of_sayings keys (say_to_each nodes m)
each-said keys m [] = refl
each-said keys m (node ∷ nodes) = ap (λ outs. out_by keys.version keys.me node (kind_of m) (body_of keys.version m) (row_of node keys) ++ outs) (each-said keys m nodes)

-- a body that is a message's, sealed for each
pub said-so : (keys : Keys) (m : Message) (kind : ℕ) (body : List ℕ) (nodes : List NodeId) → kind ≡ kind_of m → body ≡ body_of keys.version m
    → outs_with keys kind body nodes ≡ outs_of_sayings keys (say_to_each nodes m)
said-so keys m kind body nodes k b =
    ap (λ n. outs_with keys n body nodes) k ∙ (ap (λ bytes. outs_with keys (kind_of m) bytes nodes) b ∙ each-said keys m nodes)
