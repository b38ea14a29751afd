-- The names of a configuration: one more at a time, and which names are among them.
use Rattle.std.proofs.Common.{◌≡◌, ℕ, zero, suc, ◌+◌, Bool, true, false, List, [], ◌∷◌, ◌++◌, refl, sym, ap, ◌∙◌, arith, add-one, append_assoc}
use Rattle.std.specs.Prelude.{◌&&◌, ◌||◌, ◌==◌, ◌*◌, nat_lt, nat_le}
use Rattle.std.proofs.lemmas.Bool.{le-ltb}
use Rattle.std.proofs.lemmas.Bool.Decides.{nat_tests}
use Rattle.cs_base.specs.declared.config.Config.{Config}
use Rattle.cs_base.specs.declared.node_id.NodeId.{NodeId}
use Rattle.cs_base.specs.declared.node_id.TheConstants.{CLIENT_SHARD, CLIENTS}
use Rattle.cs_base.specs.NodeId.{is_node, is_named, same_name, members_below}
use Rattle.cs_wire.specs.AllNames.{nodes_below, names_of, has_name}
use Rattle.cs_wire.proofs.Rows.{member_more, shard_more}

-- ---- one more at a time

pub members-next : (before list now : List NodeId) (shard n : ℕ) → list ≡ before ++ members_below shard n → now ≡ list ++ record { shard = shard; index = n } ∷ [] → now ≡ before ++ members_below shard (n + 1)
members-next before list now shard n is pushed =
    let one : List NodeId = record { shard = shard; index = n } ∷ [] in
    pushed ∙ ap (λ l. l ++ one) is ∙ append_assoc before (members_below shard n) one
    ∙ ap (λ k. before ++ members_below shard k) (sym (add-one n))

pub nodes-next : (list now : List NodeId) (members n : ℕ) → list ≡ nodes_below members n → now ≡ list ++ members_below n members → now ≡ nodes_below members (n + 1)
nodes-next list now members n is added =
    added ∙ ap (λ l. l ++ members_below n members) is ∙ ap (λ k. nodes_below members k) (sym (add-one n))

-- ---- which names are among them

or_assoc : (a b c : Bool) → (a || (b || c)) ≡ ((a || b) || c)
or_assoc true b c = refl
or_assoc false b c = refl

and_false : (b : Bool) → false ≡ (b && false)
and_false true = refl
and_false false = refl

pub has_both : (name : NodeId) (xs ys : List NodeId) → has_name name (xs ++ ys) ≡ (has_name name xs || has_name name ys)
has_both name [] ys = refl
has_both name (x ∷ xs) ys = ap (λ b. same_name x name || b) (has_both name xs ys) ∙ or_assoc (same_name x name) (has_name name xs) (has_name name ys)

none_below : (k : ℕ) → nat_lt k 0 ≡ false
none_below k = le-ltb k 0 (omega arith)

pub has_members : (name : NodeId) (shard n : ℕ) → has_name name (members_below shard n) ≡ ((shard == name.shard) && nat_lt name.index n)
has_members name shard zero = and_false (shard == name.shard) ∙ ap (λ b. (shard == name.shard) && b) (sym (none_below name.index))
has_members name shard (suc n) =
    member_more name shard n (members_below shard n) false (has_members name shard n)
    ∙ ap (λ k. (shard == name.shard) && nat_lt name.index k) (add-one n)

pub has_nodes : (name : NodeId) (members n : ℕ) → has_name name (nodes_below members n) ≡ (nat_lt name.shard n && nat_lt name.index members)
has_nodes name members zero = sym (ap (λ b. b && nat_lt name.index members) (none_below name.shard))
has_nodes name members (suc n) =
    shard_more name n members (nodes_below members n) (nodes_below members n ++ members_below n members) (has_nodes name members n)
    (has_both name (nodes_below members n) (members_below n members) ∙ ap (λ b. has_name name (nodes_below members n) || b) (has_members name n members))
    ∙ ap (λ k. nat_lt name.shard k && nat_lt name.index members) (add-one n)

turned : (a b : ℕ) → (a == b) ≡ (b == a)
turned a b = grind (arith, nat_tests)

upto : (k n : ℕ) → nat_lt k (n + 1) ≡ nat_le k n
upto k n = grind (arith, nat_tests)

-- the names of a configuration are its nodes and the clients
pub has_named : (config : Config) (name : NodeId) → has_name name (names_of config) ≡ is_named config name
has_named config name =
    has_both name (nodes_below (3 * config.f + 1) config.shards) (members_below CLIENT_SHARD CLIENTS)
    ∙ ap (λ b. b || has_name name (members_below CLIENT_SHARD CLIENTS)) (has_nodes name (3 * config.f + 1) config.shards ∙ ap (λ b. nat_lt name.shard config.shards && b) (upto name.index (3 * config.f)))
    ∙ ap (λ b. is_node config name || b) (has_members name CLIENT_SHARD CLIENTS ∙ ap (λ b. b && nat_lt name.index CLIENTS) (turned CLIENT_SHARD name.shard))

-- the nodes are among them
pub has_node : (config : Config) (name : NodeId) → has_name name (nodes_below (3 * config.f + 1) config.shards) ≡ true → has_name name (names_of config) ≡ true
has_node config name there =
    has_both name (nodes_below (3 * config.f + 1) config.shards) (members_below CLIENT_SHARD CLIENTS)
    ∙ ap (λ b. b || has_name name (members_below CLIENT_SHARD CLIENTS)) there
