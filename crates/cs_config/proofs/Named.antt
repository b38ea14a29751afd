-- The names of a configuration, and those of their key files.
use Rattle.std.proofs.Common.{◌≡◌, ℕ, zero, suc, ◌+◌, ◌<◌, ◌≤◌, ◌^◌, ◌*◌, Bool, true, false, List, [], ◌∷◌, ◌++◌, Some, refl, sym, ap, ◌∙◌, arith}
use Rattle.std.specs.Prelude.{codes, ◌&&◌, ◌||◌, ◌==◌, nat_lt, nat_le}
use Rattle.std.specs.List.{AllByRecursion}
use Rattle.std.proofs.lemmas.Bool.{lt-ltb, ltb-true, le-leb, leb-true, eqb-true}
use Rattle.std.proofs.lemmas.List.{append_cancel_left, append_cancel_right}
use Rattle.cs_base.specs.declared.config.Config.{Config}
use Rattle.cs_base.specs.declared.node_id.NodeId.{NodeId}
use Rattle.cs_base.specs.declared.node_id.TheConstants.{CLIENT_SHARD, CLIENTS}
use Rattle.cs_base.specs.NodeId.{is_client, is_node, is_named, node_text, node_of, members_below}
use Rattle.cs_base.proofs.NodeTexts.{node_of-node_text}
use Rattle.cs_wire.specs.AllNames.{nodes_below, names_of}
use Rattle.cs_config.specs.FileNames.{key_file}

-- ---- what holds of all names

pub all_both : (P : NodeId → Type 0) (xs ys : List NodeId) → AllByRecursion P xs → AllByRecursion P ys → AllByRecursion P (xs ++ ys)
all_both P [] ys first second = second
all_both P (x ∷ xs) ys first second = (first.0, all_both P xs ys first.1 second)

pub all_parts : (P : NodeId → Type 0) (xs ys : List NodeId) → AllByRecursion P (xs ++ ys) → AllByRecursion P xs × AllByRecursion P ys
all_parts P [] ys all = (tt, all)
all_parts P (x ∷ xs) ys all = let later = all_parts P xs ys all.1 in ((all.0, later.0), later.1)

all_members : (P : NodeId → Type 0) (shard n : ℕ) → ((i : ℕ) → i < n → P (record { shard = shard; index = i })) → AllByRecursion P (members_below shard n)
all_members P shard zero each = tt
all_members P shard (suc n) each =
    all_both P (members_below shard n) (record { shard = shard; index = n } ∷ []) (all_members P shard n (λ i below. each i (omega arith))) (each n (omega arith), tt)

all_nodes : (P : NodeId → Type 0) (members n : ℕ) → ((shard i : ℕ) → shard < n → i < members → P (record { shard = shard; index = i })) → AllByRecursion P (nodes_below members n)
all_nodes P members zero each = tt
all_nodes P members (suc n) each =
    all_both P (nodes_below members n) (members_below n members) (all_nodes P members n (λ shard i below within. each shard i (omega arith) within)) (all_members P n members (λ i within. each n i (omega arith) within))

abbrev pub IsNamed : Config → NodeId → Type 0
IsNamed config me = is_named config me ≡ true

or_true : (b : Bool) → (b || true) ≡ true
or_true true = refl
or_true false = refl

module _ (config : Config) where
  node_named : (shard i : ℕ) → shard < config.shards → i < 3 * config.f + 1 → IsNamed config (record { shard = shard; index = i })
  node_named shard i below within =
      let me : NodeId = record { shard = shard; index = i } in
      let index : nat_le i (3 * config.f) ≡ true = le-leb i (3 * config.f) (omega arith) in
      ap (λ b. (b && nat_le i (3 * config.f)) || is_client me) (lt-ltb shard config.shards below) ∙ ap (λ b. b || is_client me) index

  client_named : (i : ℕ) → i < CLIENTS → IsNamed config (record { shard = CLIENT_SHARD; index = i })
  client_named i within =
      let me : NodeId = record { shard = CLIENT_SHARD; index = i } in
      ap (λ b. is_node config me || b) (lt-ltb i CLIENTS within) ∙ or_true (is_node config me)

  pub all_named : AllByRecursion (IsNamed config) (names_of config)
  all_named = all_both (IsNamed config) (nodes_below (3 * config.f + 1) config.shards) (members_below CLIENT_SHARD CLIENTS)
      (all_nodes (IsNamed config) (3 * config.f + 1) config.shards node_named)
      (all_members (IsNamed config) CLIENT_SHARD CLIENTS client_named)

  -- ---- key files of different names differ

  both_true : (a b : Bool) → (a && b) ≡ true → (a ≡ true) × (b ≡ true)
  both_true true b e = (refl, e)
  both_true false b e = absurd (let q : false ≡ true = e in cc)

  abbrev pub Fits : NodeId → Type 0
  Fits me = (me.shard < 2 ^ 16) × (me.index < 2 ^ 16)

  fits : (me : NodeId) → IsNamed config me → Fits me
  fits me named = by (is_node config me) refl named
    where
      few : config.shards ≤ 16
      few = config.few_shards

      liars : config.f ≤ 5
      liars = config.few_liars

      by : (node : Bool) → is_node config me ≡ node → (node || is_client me) ≡ true → Fits me
      by true is named =
          let parts = both_true (nat_lt me.shard config.shards) (nat_le me.index (3 * config.f)) is in
          let shard = ltb-true me.shard config.shards parts.0 in
          let index = leb-true me.index (3 * config.f) parts.1 in
          let most = few in
          let lies = liars in
          (omega arith, omega arith)
      by false is named =
          let parts = both_true (me.shard == CLIENT_SHARD) (nat_lt me.index CLIENTS) named in
          let shard = eqb-true me.shard CLIENT_SHARD parts.0 in
          let index = ltb-true me.index CLIENTS parts.1 in
          (omega arith, omega arith)

  pub same_file : (x y : NodeId) → IsNamed config x → IsNamed config y → key_file x ≡ key_file y → x ≡ y
  same_file x y first second same =
      let a = fits x first in
      let b = fits y second in
      let texts : node_text x ++ codes ".toml" ≡ node_text y ++ codes ".toml" = append_cancel_left (codes "keys-") (node_text x ++ codes ".toml") (node_text y ++ codes ".toml") same in
      let text : node_text x ≡ node_text y = append_cancel_right (node_text x) (node_text y) (codes ".toml") texts in
      let read : Some x ≡ Some y = sym (node_of-node_text x a.0 a.1) ∙ ap node_of text ∙ node_of-node_text y b.0 b.1 in
      cc
