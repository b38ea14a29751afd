-- Before its first input a client knows nothing, also of a session that was made before.
use Rattle.std.proofs.Common.{◌≡◌, ℕ, zero, suc, ◌+◌, ◌*◌, ◌<◌, Bool, true, false, List, [], ◌∷◌, ◌++◌, Option, Some, None, refl, sym, ap, subst, ◌∙◌, inl, inr, ◌⊎◌, arith, if◌then◌else◌}
use Rattle.std.specs.Prelude.{IfSome, nat_lt, ◌&&◌, ◌||◌, ◌==◌}
use Rattle.std.specs.List.{list_all, list_any}
use Rattle.std.proofs.Math.Nat.{eq-or-lt_of_le}
use Rattle.std.proofs.lemmas.Bool.Decides.{nat_tests}
use Rattle.cs_base.specs.declared.config.Config.{Config}
use Rattle.cs_base.specs.declared.key.Key.TheVariants as key
use Rattle.cs_base.specs.Key.{shard_of_key}
use Rattle.cs_base.specs.Options.{or_else}
use Rattle.cs_order.specs.Counts.{count_below}
use Rattle.cs_tx_types.specs.declared.session.Session.{Session}
use Rattle.cs_tx.specs.Digest.{digest_of_session}
use Rattle.cs_tx.specs.Uses.{inputs_of, references_of, outputs_of, names, is_among, used_names, concerns, concerned_below, concerned_shards}
use Rattle.cs_tx.specs.declared.malformed.Malformed.{Malformed}
use Rattle.cs_tx.specs.declared.malformed.Malformed.TheVariants as malformed
use Rattle.cs_tx.specs.WellFormed.{no_input, first_twice, used_twice, has_own_objects, foreign, first_failing, has_earlier_deps, late_dep, are_right, wrong_dummies, IsWellFormed}
use Rattle.cs_client.specs.declared.errand.Errand.{Errand}
use Rattle.cs_client.specs.declared.known.Known.TheVariants as known
use Rattle.cs_client.specs.Phases.{first_phase}
use Rattle.cs_client.specs.Knowing.{knows_decided, outcome, known_of, known_in, knows}
use Rattle.cs_client.proofs.Telling.{name-low}

-- ---- a session with an input concerns a shard

abbrev HasOne : List ℕ → Type 0
HasOne [] = ⊥
HasOne (x ∷ xs) = Unit {0}

one-before : (xs ys : List ℕ) → HasOne xs → HasOne (xs ++ ys)
one-before [] ys has = absurd has
one-before (x ∷ xs) ys has = tt

one-behind : (xs ys : List ℕ) → HasOne ys → HasOne (xs ++ ys)
one-behind [] ys has = has
one-behind (x ∷ xs) ys has = tt

last-concerned : (config : Config) (x : Session) (n : ℕ) → concerns config x n ≡ true → HasOne (if concerns config x n then n ∷ [] else [])
last-concerned config x n is = subst (λ (b : Bool). HasOne (if b then n ∷ [] else [])) (sym is) tt

below-or-last : (config : Config) (x : Session) (shard n : ℕ) → concerns config x shard ≡ true → (shard ≡ n) ⊎ (shard < n) → (shard < n → HasOne (concerned_below config x n)) → HasOne (concerned_below config x (suc n))
below-or-last config x shard n is (inl same) before =
    one-behind (concerned_below config x n) (if concerns config x n then n ∷ [] else []) (last-concerned config x n (subst (λ (s : ℕ). concerns config x s ≡ true) same is))
below-or-last config x shard n is (inr low) before = one-before (concerned_below config x n) (if concerns config x n then n ∷ [] else []) (before low)

some-concerned : (config : Config) (x : Session) (shard n : ℕ) → concerns config x shard ≡ true → shard < n → HasOne (concerned_below config x n)
some-concerned config x shard zero is less = absurd (omega arith)
some-concerned config x shard (suc n) is less =
    below-or-last config x shard n is (eq-or-lt_of_le (omega arith)) (λ low. some-concerned config x shard n is low)

-- the first of these names is of its shard
among-first : (config : Config) (name : List ℕ) (more others : List (List ℕ)) → is_among config (shard_of_key config.shards (key.Object name)) ((name ∷ more) ++ others) ≡ true
among-first config name more others =
    let s = shard_of_key config.shards (key.Object name) in
    let same : (s == s) ≡ true = grind (arith, nat_tests) in
    ap (λ (b : Bool). b || is_among config s (more ++ others)) same

-- the tests behind the first one
abbrev other-faults : Config → Session → Option Malformed
other-faults config x =
    or_else (used_twice (first_twice (names (references_of x.tx)) [] (names (inputs_of x.tx))))
    (or_else (foreign (first_failing has_own_objects 0 x.tx.traces))
    (or_else (late_dep (first_failing has_earlier_deps 0 x.tx.traces))
    (wrong_dummies (are_right config (names (inputs_of x.tx)) (used_names x.tx) x.dummies))))

first-passes : (first others : Option Malformed) → or_else first others ≡ None → first ≡ None
first-passes None others is = refl
first-passes (Some fault) others is = let e : Some fault ≡ None = is in absurd (cc)

session-concerns : (config : Config) (x : Session) → IsWellFormed config x → HasOne (concerned_shards config x)
session-concerns config x formed = by (names (inputs_of x.tx)) refl (first-passes (no_input (names (inputs_of x.tx))) (other-faults config x) formed)
  where
    by : (inputs : List (List ℕ)) → names (inputs_of x.tx) ≡ inputs → no_input inputs ≡ None → HasOne (concerned_shards config x)
    by [] is passes = let e : Some malformed.NoInput ≡ None = passes in absurd (cc)
    by (name ∷ more) is passes =
        some-concerned config x (shard_of_key config.shards (key.Object name)) config.shards
        (ap (λ (inputs : List (List ℕ)). is_among config (shard_of_key config.shards (key.Object name)) (inputs ++ (names (references_of x.tx) ++ names (outputs_of x.tx)))) is
        ∙ among-first config name more (names (references_of x.tx) ++ names (outputs_of x.tx)))
        (name-low config name)

-- ---- of which nothing is known before the first input

none-below : (n : ℕ) (p : ℕ → Bool) → ((i : ℕ) → p i ≡ false) → count_below n p ≡ 0
unfolding count_below
none-below zero p none = refl
none-below (suc n) p none = ap (λ (b : Bool). (if b then 1 else 0) + count_below n p) (none n) ∙ ap (λ (m : ℕ). 0 + m) (none-below n p none)

undecided : (e : Errand) (accepted : Bool) (shard : ℕ) → knows_decided e accepted [] shard ≡ false
undecided e accepted shard =
    let none : nat_lt e.config.f 0 ≡ false = grind (arith, nat_tests) in
    ap (nat_lt e.config.f) (none-below (3 * e.config.f + 1) (λ index. false) (λ i. refl)) ∙ none

not-all : (p : ℕ → Bool) (xs : List ℕ) → HasOne xs → ((x : ℕ) → p x ≡ false) → list_all p xs ≡ false
not-all p [] has none = absurd has
not-all p (x ∷ xs) has none = ap (λ (b : Bool). b && list_all p xs) (none x)

not-any : (p : ℕ → Bool) (xs : List ℕ) → ((x : ℕ) → p x ≡ false) → list_any p xs ≡ false
not-any p [] none = refl
not-any p (x ∷ xs) none = ap (λ (b : Bool). b || list_any p xs) (none x) ∙ not-any p xs none

nothing-known : (e : Errand) (x : Session) → IsWellFormed e.config x → known_of e [] x ≡ known.Open
nothing-known e x formed =
    let shards = concerned_shards e.config x in
    ap (λ (b : Bool). outcome (digest_of_session x) b (list_any (knows_decided e false []) shards)) (not-all (knows_decided e true []) shards (session-concerns e.config x formed) (undecided e true))
    ∙ ap (λ (b : Bool). outcome (digest_of_session x) false b) (not-any (knows_decided e false []) shards (undecided e false))

pub knows-nothing : (e : Errand) → IfSome e.session (IsWellFormed e.config) → knows e [] ≡ known.Open
knows-nothing e formed = by e.session formed
  where
    by : (session : Option Session) → IfSome session (IsWellFormed e.config) → known_in e [] (first_phase session) ≡ known.Open
    by None formed = refl
    by (Some x) formed = nothing-known e x formed
