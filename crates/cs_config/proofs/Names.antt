-- The names of a configuration, of which none stands twice.
use Rattle.std.proofs.Common.{◌≡◌, ℕ, zero, suc, ◌+◌, ◌≤◌, Bool, true, false, List, [], ◌∷◌, ◌++◌, refl, sym, ap, ◌∙◌, arith}
use Rattle.std.specs.Prelude.{not, ◌&&◌, ◌||◌, ◌==◌, ◌*◌, nat_lt}
use Rattle.std.specs.List.{list_all}
use Rattle.std.proofs.lemmas.Bool.{le-ltb, eqb-true}
use Rattle.std.proofs.lemmas.Bool.Decides.{nat_tests}
use Rattle.cs_base.specs.declared.config.Config.{Config}
use Rattle.cs_base.specs.declared.node_id.NodeId.{NodeId}
use Rattle.cs_base.specs.declared.node_id.TheConstants.{CLIENT_SHARD, CLIENTS}
use Rattle.cs_base.specs.NodeId.{same_name, members_below}
use Rattle.cs_wire.specs.AllNames.{nodes_below, names_of, has_name}
use Rattle.cs_wire.proofs.Named.{has_both, has_members, has_nodes}

-- ---- tests

pub or_true : (b : Bool) → (b || true) ≡ true
or_true true = refl
or_true false = refl

pub neither : (a b : Bool) → a ≡ false → b ≡ false → (a || b) ≡ false
neither a b first second = rw (first, second) refl

and_first : (a b : Bool) → (a && b) ≡ true → a ≡ true
and_first true b both = refl
and_first false b both = both

pub unlike : {A : Type 0} (b : Bool) → b ≡ true → b ≡ false → A
unlike b is other = let e : true ≡ false = sym is ∙ other in absurd cc

-- what isn't true is false
pub refuted : (b : Bool) → (b ≡ true → ⊥) → b ≡ false
refuted true other = absurd (other refl)
refuted false other = refl

-- a test that turned out so
pub is_other : (same : Bool) → true ≡ not same → same ≡ false
is_other true e = let q : true ≡ false = e in absurd cc
is_other false e = refl

pub is_itself : (same : Bool) → false ≡ not same → same ≡ true
is_itself true e = refl
is_itself false e = let q : false ≡ true = e in absurd cc

self_eq : (n : ℕ) → (n == n) ≡ true
self_eq n = grind (arith, nat_tests)

pub same_self : (name : NodeId) → same_name name name ≡ true
same_self name = rw (self_eq name.shard, self_eq name.index) refl

-- ---- which names stand in a list

-- what holds of each name that stands in a list
pub all_having : (P : NodeId → Bool) (names : List NodeId) → ((name : NodeId) → has_name name names ≡ true → P name ≡ true) → list_all P names ≡ true
all_having P [] each = refl
all_having P (x ∷ names) each =
    let here : P x ≡ true = each x (ap (λ b. b || has_name x names) (same_self x)) in
    rw here (all_having P names (λ name there. each name (ap (λ b. same_name x name || b) there ∙ or_true (same_name x name))))

-- ---- no name stands twice

abbrev pub Apart : List NodeId → Type 0
Apart [] = Unit {0}
Apart (x ∷ names) = (has_name x names ≡ false) × Apart names

apart-append : (xs ys : List NodeId) → Apart xs → Apart ys → ((name : NodeId) → has_name name ys ≡ true → has_name name xs ≡ true → ⊥) → Apart (xs ++ ys)
apart-append [] ys first second apart = second
apart-append (x ∷ xs) ys first second apart = (
  has_both x xs ys ∙ neither (has_name x xs) (has_name x ys) first.0 (refuted (has_name x ys) (λ there. apart x there (ap (λ b. b || has_name x xs) (same_self x)))),
  apart-append xs ys first.1 second (λ name there earlier. apart name there (ap (λ b. same_name x name || b) earlier ∙ or_true (same_name x name))),
)

module _ (shard n : ℕ) where
  abbrev last : NodeId
  last = record { shard = shard; index = n }

  -- the next member is none of those below
  apart-last : (name : NodeId) → has_name name (last ∷ []) ≡ true → has_name name (members_below shard n) ≡ true → ⊥
  apart-last name there earlier =
      let index : (n == name.index) ≡ true = last-index name there in
      let below : nat_lt name.index n ≡ true = and_second (shard == name.shard) (nat_lt name.index n) (sym (has_members name shard n) ∙ earlier) in
      let is : n ≡ name.index = eqb-true n name.index index in
      let none : nat_lt name.index n ≡ false = le-ltb name.index n (omega arith) in
      unlike (nat_lt name.index n) below none
    where
      and_second : (a b : Bool) → (a && b) ≡ true → b ≡ true
      and_second true b both = both
      and_second false b both = absurd (let e : false ≡ true = both in cc)

      or_none : (b : Bool) → (b || false) ≡ b
      or_none true = refl
      or_none false = refl

      last-index : (name : NodeId) → has_name name (record { shard = shard; index = n } ∷ []) ≡ true → (n == name.index) ≡ true
      last-index name there = and_second (shard == name.shard) (n == name.index) (sym (or_none ((shard == name.shard) && (n == name.index))) ∙ there)

apart_members : (shard n : ℕ) → Apart (members_below shard n)
apart_members shard zero = tt
apart_members shard (suc n) = apart-append (members_below shard n) (record { shard = shard; index = n } ∷ []) (apart_members shard n) (refl, tt) (apart-last shard n)

-- the shard of a member
member_shard : (name : NodeId) (shard n : ℕ) → has_name name (members_below shard n) ≡ true → shard ≡ name.shard
member_shard name shard n there = eqb-true shard name.shard (and_first (shard == name.shard) (nat_lt name.index n) (sym (has_members name shard n) ∙ there))

no_shard : (name : NodeId) (members n : ℕ) → n ≤ name.shard → has_name name (nodes_below members n) ≡ true → ⊥
no_shard name members n above there =
    let below : nat_lt name.shard n ≡ true = and_first (nat_lt name.shard n) (nat_lt name.index members) (sym (has_nodes name members n) ∙ there) in
    unlike (nat_lt name.shard n) below (le-ltb name.shard n above)

apart_nodes : (members n : ℕ) → Apart (nodes_below members n)
apart_nodes members zero = tt
apart_nodes members (suc n) =
    apart-append (nodes_below members n) (members_below n members) (apart_nodes members n) (apart_members n members)
    (λ name there. let is = member_shard name n members there in no_shard name members n (omega arith))

pub apart_named : (config : Config) → Apart (names_of config)
apart_named config =
    let few = config.few_shards in
    apart-append (nodes_below (3 * config.f + 1) config.shards) (members_below CLIENT_SHARD CLIENTS) (apart_nodes (3 * config.f + 1) config.shards) (apart_members CLIENT_SHARD CLIENTS)
    (λ name there. let is = member_shard name CLIENT_SHARD CLIENTS there in no_shard name (3 * config.f + 1) config.shards (omega arith))
