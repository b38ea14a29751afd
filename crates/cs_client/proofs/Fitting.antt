-- A session with an input needs at most 15 dummies, and fits with them.
use Rattle.std.proofs.Common.{◌≡◌, ℕ, zero, suc, ◌+◌, ◌<◌, ◌≤◌, Bool, true, false, List, [], ◌∷◌, ◌++◌, length, Option, Some, None, inl, inr, refl, sym, ap, ◌∙◌, arith, length-append, if◌then◌else◌}
use Rattle.std.specs.Prelude.{filter, nat_lt, not, ◌==◌, ◌||◌, drop, ◌^◌}
use Rattle.std.specs.Int.{w32, from_be_bytes}
use Rattle.std.specs.List.{list_any, flat_map, AllByRecursion}
use Rattle.std.proofs.lemmas.Nat.{mod_below}
use Rattle.std.proofs.lemmas.Bool.{cases_eq}
use Rattle.std.proofs.lemmas.Bool.Decides.{nat_tests}
use Rattle.std.proofs.lemmas.List.Elements.{filter-append}
use Rattle.cs_base.specs.declared.config.Config.{Config}
use Rattle.cs_base.specs.declared.limits.TheConstants.{MOST_SHARDS}
use Rattle.cs_tx_types.specs.declared.trace.Trace.{Trace}
use Rattle.cs_tx_types.specs.declared.transaction.Tx.{Tx}
use Rattle.cs_tx_types.specs.declared.session.Session.{Session}
use Rattle.cs_tx_types.specs.Transaction.{Keyed, TxFits}
use Rattle.cs_tx_types.specs.Session.{SessionFits, DummyFits}
use Rattle.cs_tx.specs.Uses.{names, is_in, is_among, concerns, concerned_below}
use Rattle.cs_client.specs.Objects.{shard_of_name}
use Rattle.cs_client.specs.Dummies.{with_dummy, dummies_for}
use Rattle.cs_client.specs.Sessions.{has_input, session_without_dummies, with_dummies, is_bare, bare_shards}

-- ---- how many shards are left

module _ (config : Config) (x : Session) (p : ℕ → Bool) where
  abbrev last : ℕ → List ℕ
  last n = if concerns config x n then n ∷ [] else []

  one-at-most : (n : ℕ) → length (filter p (last n)) ≤ 1
  one-at-most n = by (concerns config x n) (p n) refl where
    by : (here left : Bool) → p n ≡ left → length (filter p (if here then n ∷ [] else [])) ≤ 1
    by false left is = omega arith
    by true true is = let e : length (filter p (n ∷ [])) ≡ 1 = ap (λ t. length (if t then n ∷ [] else [])) is in omega arith
    by true false is = let e : length (filter p (n ∷ [])) ≡ 0 = ap (λ t. length (if t then n ∷ [] else [])) is in omega arith

  none-left : (n : ℕ) → p n ≡ false → length (filter p (last n)) ≡ 0
  none-left n left = by (concerns config x n) where
    by : (here : Bool) → length (filter p (if here then n ∷ [] else [])) ≡ 0
    by false = refl
    by true = ap (λ t. length (if t then n ∷ [] else [])) left

  parts : (n : ℕ) → length (filter p (concerned_below config x (suc n))) ≡ length (filter p (concerned_below config x n)) + length (filter p (last n))
  parts n =
      ap length (filter-append p (concerned_below config x n) (last n))
      ∙ length-append (filter p (concerned_below config x n)) (filter p (last n))

  few-below : (n : ℕ) → length (filter p (concerned_below config x n)) ≤ n
  few-below zero = omega arith
  few-below (suc n) = let e = parts n in let before = few-below n in let one = one-at-most n in omega arith

  fewer-below : (n s : ℕ) → s < n → p s ≡ false → length (filter p (concerned_below config x n)) < n
  fewer-below zero s less served = absurd (omega arith)
  fewer-below (suc n) s less served =
      let e = parts n in
      elim (cases_eq s n) [
        | inl same ↦ let before = few-below n in let none = none-left n (ap p (sym same) ∙ served) in omega arith
        | inr other ↦ let before = fewer-below n s (omega (arith, other)) served in let one = one-at-most n in omega arith
      ]

-- ---- the shard of an input

is_self : (n : ℕ) → (n == n) ≡ true
is_self n = grind (arith, nat_tests)

or-true : (t : Bool) → (t || true) ≡ true
or-true true = refl
or-true false = refl

name-low : (config : Config) (name : List ℕ) → shard_of_name config name < config.shards
name-low config name =
    let some : 0 < config.shards = config.some_shard in mod_below (from_be_bytes w32 (drop 28 name)) config.shards some

pub record Served (config : Config) (items : List Keyed) : Type 0 where
  pub shard : ℕ
  pub low : shard < config.shards
  pub served : is_among config shard (names items) ≡ true

first-served : (config : Config) (items more : List Keyed) → nat_lt 0 (length items) ≡ true → Served config (items ++ more)
first-served config [] more some = let e : false ≡ true = some in absurd cc
first-served config (item ∷ items) more some = record {
  shard = shard_of_name config item.0;
  low = name-low config item.0;
  served = ap (λ t. t || is_among config (shard_of_name config item.0) (names (items ++ more))) (is_self (shard_of_name config item.0));
}

later-served : (config : Config) (items more : List Keyed) → Served config more → Served config (items ++ more)
later-served config [] more later = later
later-served config (item ∷ items) more later =
    let rest = later-served config items more later in
    record {
      shard = rest.shard;
      low = rest.low;
      served = ap (λ t. is_in config rest.shard item.0 || t) rest.served ∙ or-true (is_in config rest.shard item.0);
    }

traces-served : (config : Config) (traces : List Trace) → list_any (λ trace. nat_lt 0 (length trace.inputs)) traces ≡ true → Served config (flat_map (λ trace. trace.inputs) traces)
traces-served config [] some = let e : false ≡ true = some in absurd cc
traces-served config (t ∷ ts) some = by (nat_lt 0 (length t.inputs)) refl some (traces-served config ts) where
  by : (here : Bool) → nat_lt 0 (length t.inputs) ≡ here → (here || list_any (λ trace. nat_lt 0 (length trace.inputs)) ts) ≡ true
      → (list_any (λ trace. nat_lt 0 (length trace.inputs)) ts ≡ true → Served config (flat_map (λ trace. trace.inputs) ts)) → Served config (t.inputs ++ flat_map (λ trace. trace.inputs) ts)
  by true is any rest = first-served config t.inputs (flat_map (λ trace. trace.inputs) ts) is
  by false is any rest = later-served config t.inputs (flat_map (λ trace. trace.inputs) ts) (rest any)

-- at most 15 shards need a dummy
pub bare-few : (config : Config) (x : Session) → has_input x.tx ≡ true → length (bare_shards config x) ≤ 15
bare-few config x some =
    let served = traces-served config x.tx.traces some in
    let few : config.shards ≤ MOST_SHARDS = config.few_shards in
    let less : length (filter (is_bare config x) (concerned_below config x config.shards)) < config.shards =
    fewer-below config x (is_bare config x) config.shards served.shard served.low (ap not served.served) in
    omega arith

-- ---- the dummies

pub dummies-many : (dummy : ℕ → Option ℕ) (shards : List ℕ) (dummies : List (ℕ × ℕ)) → dummies_for dummy shards ≡ Some dummies → length dummies ≡ length shards
dummies-many dummy [] dummies is = let e : [] ≡ dummies = cc in ap length (sym e)
dummies-many dummy (shard ∷ shards) dummies is = by (dummy shard) (dummies_for dummy shards) refl is (dummies-many dummy shards) where
  by : (here : Option ℕ) (later : Option (List (ℕ × ℕ))) → dummies_for dummy shards ≡ later → with_dummy shard here later ≡ Some dummies
      → ((more : List (ℕ × ℕ)) → dummies_for dummy shards ≡ Some more → length more ≡ length shards) → length dummies ≡ suc (length shards)
  by None later e is rest = absurd cc
  by (Some serial) None e is rest = absurd cc
  by (Some serial) (Some more) e is rest =
      let all : (shard, serial) ∷ more ≡ dummies = cc in
      ap length (sym all) ∙ ap suc (rest more e)

-- a session fits with its dummies
pub dummies-fit : (config : Config) (dummy : ℕ → Option ℕ) (x : Session) (dummies : List (ℕ × ℕ)) → SessionFits x → has_input x.tx ≡ true
    → dummies_for dummy (bare_shards config x) ≡ Some dummies → AllByRecursion DummyFits dummies → SessionFits (with_dummies x dummies)
dummies-fit config dummy x dummies fits some are each =
    let few = bare-few config x some in
    let many = dummies-many dummy (bare_shards config x) dummies are in
    record { tx = fits.tx; number = fits.number; dummies = (omega arith, each) }

-- and without them
pub bare-fits : (tx : Tx) (number : ℕ) → TxFits tx → number < 2 ^ 64 → SessionFits (session_without_dummies tx number)
bare-fits tx number fits small = record { tx = fits; number = small; dummies = (omega arith, tt) }
