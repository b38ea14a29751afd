-- The keys of a key file reach all nodes of its configuration.
use Rattle.std.specs.Prelude.{◌≡◌, ℕ, ◌+◌, ◌*◌, ◌<◌, nat_lt, nat_le, Bool, true, false, ◌&&◌, ◌||◌, is_none, cond, List, [], ◌∷◌, ◌++◌, map, Option, Some, None, IsSome, Result, Ok, Err}
use Rattle.std.specs.List.{list_all, list_any}
use Rattle.std.proofs.Common.{zero, suc, inl, inr, refl, sym, ap, subst, ◌∙◌, arith}
use Rattle.std.proofs.lemmas.Bool.Decides.{eqb_tells, nat_tests}
use Rattle.std.proofs.lemmas.List.Folds.{list_all-append}
use Rattle.cs_base.specs.declared.config.Config.{Config}
use Rattle.cs_base.specs.declared.node_id.NodeId.{NodeId}
use Rattle.cs_base.specs.NodeId.{is_node, is_named, same_name, members_below}
use Rattle.cs_base.specs.declared.version.Version.TheVariants.{One}
use Rattle.cs_wire.specs.declared.keys.Row.{Row}
use Rattle.cs_wire.specs.declared.keys.Keys.{Keys}
use Rattle.cs_wire.specs.Keys.{Listed, row_listed, row_of_peer, row_of, stands, peer_twice}
use Rattle.cs_wire.specs.AllNames.{nodes_below}
use Rattle.cs_config.specs.declared.error.ConfigError.{ConfigError}
use Rattle.cs_config.specs.declared.error.FileField.TheVariants as field
use Rattle.cs_config.specs.declared.error.ConfigError.TheVariants.{Field}
use Rattle.cs_config.specs.Reading.{◌>>=◌, toml_table_of}
use Rattle.cs_config.specs.Complete.{is_held, is_complete}
use Rattle.cs_config.specs.File.{me_in, peers_in, listed_keys, keys_of}

-- who stands in a list has a row
row-stands : (to : NodeId) (list : List Listed) → stands to list ≡ true → IsSome (row_of_peer to (map row_listed list))
row-stands to [] is = absurd (cc)
row-stands to (x ∷ list) is = by (same_name x.0 to) is (row-stands to list)
  where
    by : (b : Bool) → (b || stands to list) ≡ true → (stands to list ≡ true → IsSome (row_of_peer to (map row_listed list))) → IsSome (cond b (Some (row_listed x)) (row_of_peer to (map row_listed list)))
    by true is more = refl
    by false is more = more is

both : (a b : Bool) → (a && b) ≡ true → (a ≡ true) × (b ≡ true)
both true b is = (refl, is)
both false b is = absurd (cc)

other : (a b : Bool) → (a || b) ≡ true → a ≡ false → b ≡ true
other true b is not = absurd (cc)
other false b is not = is

-- ---- what holds of all names below holds of one

abbrev member : ℕ → ℕ → NodeId
member shard index = record { shard = shard; index = index }

members-all : (P : NodeId → Bool) (shard n k : ℕ) → list_all P (members_below shard n) ≡ true → k < n → P (member shard k) ≡ true
members-all P shard zero k all below = absurd (omega arith)
members-all P shard (suc n) k all below =
    let parts = both (list_all P (members_below shard n)) (P (member shard n) && true) (sym (list_all-append P (members_below shard n) (member shard n ∷ [])) ∙ all) in
    elim (eqb_tells k n) [
      | inl same ↦ ap (λ i. P (member shard i)) same.1 ∙ (both (P (member shard n)) true parts.1).0
      | inr other ↦ members-all P shard n k parts.0 (let apart = other.1 in omega arith)
    ]

nodes-all : (P : NodeId → Bool) (members n k : ℕ) → list_all P (nodes_below members n) ≡ true → k < n → list_all P (members_below k members) ≡ true
nodes-all P members zero k all below = absurd (omega arith)
nodes-all P members (suc n) k all below =
    let parts = both (list_all P (nodes_below members n)) (list_all P (members_below n members)) (sym (list_all-append P (nodes_below members n) (members_below n members)) ∙ all) in
    elim (eqb_tells k n) [
      | inl same ↦ ap (λ i. list_all P (members_below i members)) same.1 ∙ parts.1
      | inr other ↦ nodes-all P members n k parts.0 (let apart = other.1 in omega arith)
    ]

-- each node of the configuration is me, or stands in the list
held : (config : Config) (me : NodeId) (list : List Listed) (to : NodeId) → list_all (is_held me list) (nodes_below (3 * config.f + 1) config.shards) ≡ true → is_node config to ≡ true → is_held me list to ≡ true
held config me list to all node =
    let places = both (nat_lt to.shard config.shards) (nat_le to.index (3 * config.f)) node in
    let shard : to.shard < config.shards = let one = places.0 in grind (arith, nat_tests) in
    let index : to.index < 3 * config.f + 1 = let one = places.1 in grind (arith, nat_tests) in
    members-all (is_held me list) to.shard (3 * config.f + 1) to.index (nodes-all (is_held me list) (3 * config.f + 1) config.shards to.shard all shard) index

-- ---- what was read

past : {A B : Type 0} (r : Result A ConfigError) (f : A → Result B ConfigError) (y : B) → (r >>= f) ≡ Ok y → (x : A) × (f x ≡ Ok y)
past {A} {B} (Ok x) f y is = (x, is)
past {A} {B} (Err e) f y is = absurd (let q : Err e ≡ Ok y = is in cc)

listed : (config : Config) (me : NodeId) (list : List Listed) (keys : Keys) → listed_keys config me list ≡ Ok keys → (is_complete config me list ≡ true) × (keys ≡ record { me = me; rows = map row_listed list; version = One })
listed config me list keys is = by (is_complete config me list) (is_none (peer_twice me [] 0 list)) is
  where
    by : (a b : Bool) → cond (a && b) (Ok (record { me = me; rows = map row_listed list; version = One })) (Err (Field field.Peers)) ≡ Ok keys → (a ≡ true) × (keys ≡ record { me = me; rows = map row_listed list; version = One })
    by true true is = (refl, cc)
    by true false is = absurd (cc)
    by false b is = absurd (cc)

reaches : (config : Config) (me : NodeId) (list : List Listed) (keys : Keys) → listed_keys config me list ≡ Ok keys → (to : NodeId) → is_node config to ≡ true → same_name to keys.me ≡ false → IsSome (row_of to keys)
reaches config me list keys is to node apart =
    let read = listed config me list keys is in
    let complete = both (list_all (λ peer. is_named config peer.0) list) (list_all (is_held me list) (nodes_below (3 * config.f + 1) config.shards)) read.0 in
    let mine : same_name to me ≡ false = subst (λ (k : Keys). same_name to k.me ≡ false) read.1 apart in
    let stood = other (same_name to me) (stands to list) (held config me list to complete.1 node) mine in
    subst (λ (k : Keys). IsSome (row_of to k)) (sym read.1) (row-stands to list stood)

pub file-reaches : (config : Config) (text : List ℕ) (keys : Keys) → keys_of config text ≡ Ok keys → (to : NodeId) → is_node config to ≡ true → same_name to keys.me ≡ false → IsSome (row_of to keys)
file-reaches config text keys is =
    let members = past (toml_table_of text) _ keys is in
    let me = past (me_in config members.0) _ keys members.1 in
    let list = past (peers_in members.0) _ keys me.1 in
    reaches config me.0 list.0 keys list.1
