-- Whether a shard is among those that a session concerns.
use Rattle.std.proofs.Common.{◌≡◌, ℕ, zero, suc, ◌*◌, ◌<◌, ◌≤◌, ◌==◌, drop, nat_lt, nat_le, nat_eq, Bool, true, false, ◌||◌, ◌&&◌, List, [], ◌∷◌, ◌++◌, refl, ap, sym, ◌∙◌, arith}
use Rattle.std.specs.Prelude.{if◌then◌else◌}
use Rattle.std.specs.List.{list_any}
use Rattle.std.specs.Int.{w32, from_be_bytes}
use Rattle.std.proofs.lemmas.Nat.{mod_below}
use Rattle.cs_base.specs.Key.{shard_of_key}
use Rattle.cs_base.specs.declared.key.Key.TheVariants as key
use Rattle.cs_base.specs.declared.config.Config.{Config}
use Rattle.cs_base.specs.declared.node_id.NodeId.{NodeId}
use Rattle.cs_base.specs.NodeId.{is_node}
use Rattle.cs_tx_value.specs.declared.object.Object.{Object}
use Rattle.cs_tx_types.specs.declared.transaction.Tx.{Tx}
use Rattle.cs_tx_types.specs.declared.session.Session.{Session}
use Rattle.cs_tx.specs.Uses as Uses
use Rattle.cs_node_state.specs.Setup as Setup
use Rattle.cs_node_pool.specs.Deployed.{deployed_setup}
use Rattle.cs_node_pool.proofs.Concerned.{concerns-session}

any-append : (p : ℕ → Bool) (xs ys : List ℕ) → list_any p (xs ++ ys) ≡ (list_any p xs || list_any p ys)
any-append p [] ys = refl
any-append p (x ∷ xs) ys = ap (λ b. p x || b) (any-append p xs ys) ∙ regrouped (p x) (list_any p xs) (list_any p ys)
  where
    regrouped : (a b c : Bool) → (a || (b || c)) ≡ ((a || b) || c)
    regrouped true b c = refl
    regrouped false b c = refl

-- the shard of a node is one of the configuration's
pub in_range : (config : Config) (id : NodeId) → is_node config id ≡ true → id.shard < config.shards
in_range config id h = let low : nat_lt id.shard config.shards ≡ true = first (nat_lt id.shard config.shards) (nat_le id.index (3 * config.f)) h in grind arith
  where
    first : (a b : Bool) → (a && b) ≡ true → a ≡ true
    first true b h = refl
    first false b h = h

module _ (config : Config) (genesis : List Object) (approves : Tx → Bool) (x : Session) where
  abbrev setup : Setup.Setup
  setup = deployed_setup config genesis approves

  module _ (shard : ℕ) where
    abbrev is_it : ℕ → Bool
    is_it s = nat_eq s shard

    -- whether the shard is the last of those below
    abbrev last : ℕ → List ℕ
    last n = if Setup.is_concerned_shard setup x n then n ∷ [] else []

    same-last : (n : ℕ) → n ≡ shard → ((nat_lt shard n && Setup.is_concerned_shard setup x shard) || list_any is_it (last n)) ≡ (nat_lt shard (suc n) && Setup.is_concerned_shard setup x shard)
    same-last n e =
        let low : nat_lt shard n ≡ false = grind arith in
        let high : nat_lt shard (suc n) ≡ true = grind arith in
        let hit : nat_eq n shard ≡ true = grind arith in
        ap (λ b. (b && Setup.is_concerned_shard setup x shard) || list_any is_it (last n)) low
        ∙ chosen (Setup.is_concerned_shard setup x n) hit
        ∙ ap (Setup.is_concerned_shard setup x) e
        ∙ ap (λ b. b && Setup.is_concerned_shard setup x shard) (sym high)
      where
        chosen : (c : Bool) → nat_eq n shard ≡ true → list_any is_it (if c then n ∷ [] else []) ≡ c
        chosen true hit = ap (λ b. b || false) hit
        chosen false hit = refl

    other-last : (n : ℕ) → nat_eq n shard ≡ false → ((nat_lt shard n && Setup.is_concerned_shard setup x shard) || list_any is_it (last n)) ≡ (nat_lt shard (suc n) && Setup.is_concerned_shard setup x shard)
    other-last n miss =
        let same : nat_lt shard n ≡ nat_lt shard (suc n) = grind (arith, miss) in
        ap (λ b. (nat_lt shard n && Setup.is_concerned_shard setup x shard) || b) (none (Setup.is_concerned_shard setup x n) miss)
        ∙ no-more (nat_lt shard n && Setup.is_concerned_shard setup x shard)
        ∙ ap (λ b. b && Setup.is_concerned_shard setup x shard) same
      where
        none : (c : Bool) → nat_eq n shard ≡ false → list_any is_it (if c then n ∷ [] else []) ≡ false
        none true miss = ap (λ b. b || false) miss
        none false miss = refl

        no-more : (b : Bool) → (b || false) ≡ b
        no-more true = refl
        no-more false = refl

    contains-below : (n : ℕ) → list_any is_it (Setup.concerned_below setup x n) ≡ (nat_lt shard n && Setup.is_concerned_shard setup x shard)
    contains-below zero = let none : nat_lt shard 0 ≡ false = grind arith in ap (λ b. b && Setup.is_concerned_shard setup x shard) (sym none)
    contains-below (suc n) =
        any-append is_it (Setup.concerned_below setup x n) (last n)
        ∙ ap (λ b. b || list_any is_it (last n)) (contains-below n)
        ∙ by (nat_eq n shard) refl
      where
        by : (b : Bool) → nat_eq n shard ≡ b → ((nat_lt shard n && Setup.is_concerned_shard setup x shard) || list_any is_it (last n)) ≡ (nat_lt shard (suc n) && Setup.is_concerned_shard setup x shard)
        by true h = let e : n ≡ shard = grind arith in same-last n e
        by false h = other-last n h

    -- no name is that of a key in a shard above those of the configuration
    none-above : (names : List (List ℕ)) → config.shards ≤ shard → Uses.is_among config shard names ≡ false
    none-above [] high = refl
    none-above (name ∷ names) high =
        let some : 0 < config.shards = config.some_shard in
        let low : shard_of_key config.shards (key.Object name) < config.shards = mod_below (from_be_bytes w32 (drop 28 name)) config.shards some in
        let other : (shard_of_key config.shards (key.Object name) == shard) ≡ false = grind arith in
        ap (λ b. b || Uses.is_among config shard names) other ∙ none-above names high

    above : config.shards ≤ shard → Setup.is_concerned_shard setup x shard ≡ false
    above high = concerns-session config genesis approves x shard ∙ none-above (Uses.used_names x.tx) high

    -- whether it is one of those of the session, whatever shard it is
    pub contains-any : list_any is_it (Setup.concerned setup x) ≡ Setup.is_concerned_shard setup x shard
    contains-any = contains-below config.shards ∙ by_range (nat_lt shard config.shards) refl
      where
        by_range : (low : Bool) → nat_lt shard config.shards ≡ low → (low && Setup.is_concerned_shard setup x shard) ≡ Setup.is_concerned_shard setup x shard
        by_range true is = refl
        by_range false is = sym (above (grind arith))

    pub contains-concerned : shard < config.shards → list_any is_it (Setup.concerned setup x) ≡ Setup.is_concerned_shard setup x shard
    contains-concerned low =
        let in_range : nat_lt shard config.shards ≡ true = grind arith in
        contains-below config.shards ∙ ap (λ b. b && Setup.is_concerned_shard setup x shard) in_range
