-- The shards that a transaction concerns are few, and shards of the deployment.
use Rattle.std.proofs.Common.{ℕ, zero, suc, ◌+◌, ◌<◌, ◌≤◌, Bool, true, false, not, cond, List, [], ◌∷◌, ◌++◌, length, subst, arith}
use Rattle.std.specs.Prelude.{filter, count_by}
use Rattle.std.specs.List.{All, AllByRecursion}
use Rattle.std.proofs.lemmas.List.{length-append}
use Rattle.std.proofs.lemmas.List.Elements.{All-from_recursion}
use Rattle.std.proofs.lemmas.List.Sums.{length-filter}
use Rattle.cs_base.specs.declared.config.Config.{Config}
use Rattle.cs_tx_types.specs.declared.session.Session.{Session}
use Rattle.cs_tx_types.specs.declared.transaction.Tx.{Tx}
use Rattle.cs_tx.specs.Uses.{inputs_of, names, is_among, concerns, concerned_below}
use Rattle.cs_gen.specs.Rounds.{layout, session, concerned_by, wanting_dummies}

abbrev pub AreBelow : ℕ → List ℕ → Type 0
AreBelow n shards = AllByRecursion (λ shard. shard < n) shards

below-more : (n : ℕ) (shards : List ℕ) → AreBelow n shards → AreBelow (suc n) shards
below-more n [] below = tt
below-more n (shard ∷ shards) below = (omega (arith, below.0), below-more n shards below.1)

below-append : (n : ℕ) (xs ys : List ℕ) → AreBelow n xs → AreBelow n ys → AreBelow n (xs ++ ys)
below-append n [] ys first second = second
below-append n (x ∷ xs) ys first second = (first.0, below-append n xs ys first.1 second)

last-below : (n : ℕ) (is : Bool) → AreBelow (suc n) (cond is (n ∷ []) [])
last-below n true = (omega arith, tt)
last-below n false = tt

last-few : (n : ℕ) (is : Bool) → length (cond is (n ∷ []) []) ≤ 1
last-few n true = omega arith
last-few n false = omega arith

concerned-below : (config : Config) (x : Session) (n : ℕ) → AreBelow n (concerned_below config x n)
concerned-below config x zero = tt
concerned-below config x (suc n) =
    below-append (suc n) (concerned_below config x n) (cond (concerns config x n) (n ∷ []) [])
    (below-more n (concerned_below config x n) (concerned-below config x n)) (last-below n (concerns config x n))

concerned-few : (config : Config) (x : Session) (n : ℕ) → length (concerned_below config x n) ≤ n
concerned-few config x zero = omega arith
concerned-few config x (suc n) =
    let last = cond (concerns config x n) (n ∷ []) [] in
    omega (arith, length-append (concerned_below config x n) last, concerned-few config x n, last-few n (concerns config x n))

filtered-below : (n : ℕ) (p : ℕ → Bool) (shards : List ℕ) → AreBelow n shards → AreBelow n (filter p shards)
filtered-below n p [] below = tt
filtered-below n p (shard ∷ shards) below = by (p shard) (filtered-below n p shards below.1)
  where
    by : (test : Bool) → AreBelow n (filter p shards) → AreBelow n (cond test (shard ∷ filter p shards) (filter p shards))
    by true more = (below.0, more)
    by false more = more

filtered-few : (p : ℕ → Bool) (shards : List ℕ) → length (filter p shards) ≤ length shards
filtered-few p [] = omega arith
filtered-few p (shard ∷ shards) = by (p shard) (filtered-few p shards)
  where
    by : (test : Bool) → length (filter p shards) ≤ length shards → length (cond test (shard ∷ filter p shards) (filter p shards)) ≤ suc (length shards)
    by true more = omega (arith, more)
    by false more = omega (arith, more)

pub counted-few : (p : ℕ → Bool) (shards : List ℕ) → count_by p shards ≤ length shards
counted-few p shards = subst (λ (n : ℕ). n ≤ length shards) (length-filter p shards) (filtered-few p shards)

pub concerned_by-below : (tx : Tx) → AreBelow 3 (concerned_by tx)
concerned_by-below tx = concerned-below layout (session tx 0 []) 3

pub wanting-below : (tx : Tx) → AreBelow 3 (wanting_dummies tx)
wanting-below tx = filtered-below 3 (λ shard. not (is_among layout shard (names (inputs_of tx)))) (concerned_by tx) (concerned_by-below tx)

pub wanting-few : (tx : Tx) → length (wanting_dummies tx) ≤ 3
wanting-few tx =
    let few : length (concerned_by tx) ≤ 3 = concerned-few layout (session tx 0 []) 3 in
    omega (arith, few, filtered-few (λ shard. not (is_among layout shard (names (inputs_of tx)))) (concerned_by tx))

pub wanting-counted : (p : ℕ → Bool) (tx : Tx) → count_by p (wanting_dummies tx) ≤ 3
wanting-counted p tx = omega (arith, counted-few p (wanting_dummies tx), wanting-few tx)

pub wanting-all : (tx : Tx) → All (λ shard. shard < 3) (wanting_dummies tx)
wanting-all tx = All-from_recursion (λ shard. shard < 3) (wanting_dummies tx) (wanting-below tx)
