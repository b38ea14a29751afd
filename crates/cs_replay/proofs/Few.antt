-- Few nodes of a shard lie.
use Rattle.std.proofs.Common.{◌≡◌, ℕ, zero, suc, ◌+◌, ◌<◌, ◌≤◌, ◌==◌, Bool, true, false, ◌&&◌, ◌||◌, cond, List, [], ◌∷◌, refl, ap, ◌∙◌, arith}
use Rattle.std.specs.List.{list_any}
use Rattle.std.proofs.lemmas.Bool.{eqb-true}
use Rattle.std.proofs.lemmas.Bool.Decides.{nat_tests}
use Rattle.std.proofs.lemmas.List.Sums.{sum_by-cons}
use Rattle.cs_base.specs.NodeId.{same_name}
use Rattle.cs_base.specs.declared.node_id.NodeId.{NodeId}
use Rattle.cs_order.specs.Counts.{count_below}
use Rattle.cs_order_law.specs.laws.Exact.{count_none}
use Rattle.cs_sched.specs.Naming.{liars_of}

-- tests that agree below a bound count alike there
pub count-same : (n : ℕ) (p q : ℕ → Bool) → ((i : ℕ) → i < n → p i ≡ q i) → count_below n p ≡ count_below n q
unfolding count_below
count-same zero p q same = refl
count-same (suc n) p q same =
    ap (λ b. cond b 1 0 + count_below n p) (same n (omega arith)) ∙ ap (λ m. cond (q n) 1 0 + m) (count-same n p q (λ i below. same i (omega arith)))

either-in : (a b : Bool) (ps qs both : ℕ) → both ≤ ps + qs → cond (a || b) 1 0 + both ≤ (cond a 1 0 + ps) + (cond b 1 0 + qs)
either-in true true ps qs both few = omega arith
either-in true false ps qs both few = omega arith
either-in false true ps qs both few = omega arith
either-in false false ps qs both few = omega arith

count-either : (n : ℕ) (p q : ℕ → Bool) → count_below n (λ i. p i || q i) ≤ count_below n p + count_below n q
unfolding count_below
count-either zero p q = omega arith
count-either (suc n) p q = either-in (p n) (q n) (count_below n p) (count_below n q) (count_below n (λ i. p i || q i)) (count-either n p q)

none-yet : (n index : ℕ) → n ≤ index → count_below n (λ i. index == i) ≡ 0
unfolding count_below
none-yet zero index before = refl
none-yet (suc n) index before =
    let other : (index == n) ≡ false = grind (arith, nat_tests) in
    let below = none-yet n index (omega arith) in
    ap (λ b. cond b 1 0 + count_below n (λ i. index == i)) other ∙ omega arith

-- one number stands there once
count-one : (n index : ℕ) → count_below n (λ i. index == i) ≤ 1
unfolding count_below
count-one zero index = omega arith
count-one (suc n) index = by (index == n) refl (count-one n index)
  where
    by : (test : Bool) → (index == n) ≡ test → count_below n (λ i. index == i) ≤ 1 → cond test 1 0 + count_below n (λ i. index == i) ≤ 1
    by true is below =
        let same : index ≡ n = eqb-true index n is in
        let none = none-yet n index (omega arith) in
        omega arith
    by false is below = omega arith

count-of : (n index : ℕ) (here : Bool) → count_below n (λ i. here && (index == i)) ≤ cond here 1 0
count-of n index true = count-one n index
count-of n index false = let none = count_none n in omega arith

-- of the nodes of a shard no more are among the liars than it has there
pub count-listed : (n shard : ℕ) (liars : List NodeId) → count_below n (λ i. list_any (λ liar. same_name liar (record { shard = shard; index = i })) liars) ≤ liars_of liars shard
count-listed n shard [] = let none = count_none n in omega arith
count-listed n shard (liar ∷ liars) =
    let one = count-of n liar.index (liar.shard == shard) in
    let more = count-listed n shard liars in
    let either = count-either n (λ i. (liar.shard == shard) && (liar.index == i)) (λ i. list_any (λ other. same_name other (record { shard = shard; index = i })) liars) in
    let sum : liars_of (liar ∷ liars) shard ≡ cond (liar.shard == shard) 1 0 + liars_of liars shard = sum_by-cons (λ (other : NodeId). cond (other.shard == shard) 1 0) liar liars in
    omega arith
