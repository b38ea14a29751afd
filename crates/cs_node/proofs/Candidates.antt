-- Which proposal a node takes up.
use Rattle.std.proofs.Common.{◌≡◌, ℕ, suc, ◌+◌, ◌<◌, Bool, true, false, cond, List, [], ◌∷◌, length, drop, get_or, Option, Some, None, IsSome, inl, inr, refl, ap, sym, subst, ◌∙◌, add-one, drop-cons}
use Rattle.cs_order.specs.declared.proposed.Proposed.{Proposed}
use Rattle.cs_order.specs.Deeds.{Deed, Echoed, Machine}
use Rattle.cs_base.specs.Lists.{IsIn}
use Rattle.cs_node_state.specs.Setup.{Setup}
use Rattle.cs_node_state.specs.Pool.{Pool}
use Rattle.cs_node_rules.specs.Net.{Net}
use Rattle.cs_node_rules.specs.Site.{Carriers, View}
use Rattle.cs_node_rules.specs.Deployment.{site_of}
use Rattle.cs_node_rules.specs.Trail.{with_deed, proposing, candidate_marks, propose_marks, echo_marks}
use Rattle.cs_node.specs.Proposals.{pool_admits, admits_pending, first_admitted}

module _ (setup : Setup) (shard : ℕ) (pool : Pool) where
  -- the candidate at hand is taken, or else one of those behind it
  first-step : (xs : List Proposed) (i : ℕ) (x : Proposed) → i < length xs → x ≡ get_or xs i x
      → first_admitted setup shard pool (drop i xs) ≡ cond (pool_admits setup shard pool x) (Some x) (first_admitted setup shard pool (drop (i + 1) xs))
  first-step xs i x lt is =
      ap (first_admitted setup shard pool) (drop-cons xs i x lt)
      ∙ ap (λ y. cond (pool_admits setup shard pool y) (Some y) (first_admitted setup shard pool (drop (suc i) xs))) (sym is)
      ∙ ap (λ n. cond (pool_admits setup shard pool x) (Some x) (first_admitted setup shard pool (drop n xs))) (sym (add-one i))

  module _ (xs ys : List Proposed) (i : ℕ) (x : Proposed) (b : Bool) (same : ys ≡ xs) (lt : i < length ys) (is : x ≡ get_or ys i x) (tested : b ≡ pool_admits setup shard pool x) where
    stepped : first_admitted setup shard pool (drop i xs) ≡ cond b (Some x) (first_admitted setup shard pool (drop (i + 1) xs))
    stepped =
        let P : List Proposed → Type 0 = λ zs. first_admitted setup shard pool (drop i zs) ≡ cond (pool_admits setup shard pool x) (Some x) (first_admitted setup shard pool (drop (i + 1) zs)) in
        subst P same (first-step ys i x lt is) ∙ ap (λ t. cond t (Some x) (first_admitted setup shard pool (drop (i + 1) xs))) (sym tested)

    pub passed-over : b ≡ false → first_admitted setup shard pool (drop i xs) ≡ first_admitted setup shard pool (drop (i + 1) xs)
    passed-over failed = stepped ∙ ap (λ t. cond t (Some x) (first_admitted setup shard pool (drop (i + 1) xs))) failed

    pub taken-up : b ≡ true → first_admitted setup shard pool (drop i xs) ≡ Some x
    taken-up passed = stepped ∙ ap (λ t. cond t (Some x) (first_admitted setup shard pool (drop (i + 1) xs))) passed

  -- what is taken is a candidate
  pub is-offered : (xs : List Proposed) (x : Proposed) → first_admitted setup shard pool xs ≡ Some x → IsIn x xs
  is-offered [] x e = let q : None ≡ Some x = e in cc
  is-offered (y ∷ xs) x e = by_test (pool_admits setup shard pool y) (is-offered xs x) e
    where
      by_test : (b : Bool) → (first_admitted setup shard pool xs ≡ Some x → IsIn x xs) → cond b (Some y) (first_admitted setup shard pool xs) ≡ Some x → IsIn x (y ∷ xs)
      by_test true later h = inl cc
      by_test false later h = inr (later h)

  -- what is admitted is there
  pub pending-there : (o : Option Proposed) → admits_pending setup shard pool o ≡ true → IsSome o
  pending-there None h = let q : false ≡ true = h in cc
  pending-there (Some x) h = refl

module _ {M : Type 0} (setup : Setup) (net : Net) (rules : Machine M) (carried : Carriers M) (v : View M) where
  abbrev taken : List Proposed → Option Proposed
  taken xs = first_admitted setup v.me.shard v.bench.pool xs

  pub candidates-none : (xs : List Proposed) → taken xs ≡ None → candidate_marks (site_of setup net rules carried) v xs ≡ None
  candidates-none [] e = refl
  candidates-none (y ∷ xs) e = by_test (pool_admits setup v.me.shard v.bench.pool y) (candidates-none xs) e
    where
      by_test : (b : Bool) → (taken xs ≡ None → candidate_marks (site_of setup net rules carried) v xs ≡ None) → cond b (Some y) (taken xs) ≡ None → cond b (Some (proposing (site_of setup net rules carried) v y)) (candidate_marks (site_of setup net rules carried) v xs) ≡ None
      by_test true later h = let q : Some y ≡ None = h in cc
      by_test false later h = later h

  pub candidates-some : (xs : List Proposed) (x : Proposed) → taken xs ≡ Some x → candidate_marks (site_of setup net rules carried) v xs ≡ Some (proposing (site_of setup net rules carried) v x)
  candidates-some [] x e = let q : None ≡ Some x = e in cc
  candidates-some (y ∷ xs) x e = by_test (pool_admits setup v.me.shard v.bench.pool y) (candidates-some xs x) e
    where
      by_test : (b : Bool) → (taken xs ≡ Some x → candidate_marks (site_of setup net rules carried) v xs ≡ Some (proposing (site_of setup net rules carried) v x)) → cond b (Some y) (taken xs) ≡ Some x → cond b (Some (proposing (site_of setup net rules carried) v y)) (candidate_marks (site_of setup net rules carried) v xs) ≡ Some (proposing (site_of setup net rules carried) v x)
      by_test true later h = let q : y ≡ x = cc in ap (λ z. Some (proposing (site_of setup net rules carried) v z)) q
      by_test false later h = later h

  pub echo-some : (o : Option Proposed) (echoed : Deed M) → echoed ≡ Echoed (rules.echoing v.member) → admits_pending setup v.me.shard v.bench.pool o ≡ true → echo_marks (site_of setup net rules carried) v o ≡ Some (with_deed (site_of setup net rules carried) v echoed)
  echo-some None echoed is h = let q : false ≡ true = h in cc
  echo-some (Some x) echoed is h = rw (h, is) refl

  -- where the pending proposal is not admitted the node may propose
  pub echo-none : (o : Option Proposed) → admits_pending setup v.me.shard v.bench.pool o ≡ false → echo_marks (site_of setup net rules carried) v o ≡ propose_marks (site_of setup net rules carried) v (rules.may_propose v.member)
  echo-none None h = refl
  echo-none (Some x) h = rw h refl
