-- Members and shards are gone through one by one.
use Rattle.std.proofs.Common.{◌≡◌, ℕ, zero, suc, ◌+◌, ◌<◌, Bool, true, false, [], ◌∷◌, refl, sym, ap, ◌∙◌, add-one, arith, inl, inr}
use Rattle.std.specs.Prelude.{◌&&◌}
use Rattle.std.specs.List.{list_all}
use Rattle.std.proofs.lemmas.Bool.Decides.{eqb_tells}
use Rattle.std.proofs.lemmas.List.Folds.{list_all-append}
use Rattle.cs_base.specs.declared.node_id.NodeId.{NodeId}
use Rattle.cs_base.specs.NodeId.{members_below}
use Rattle.cs_wire.specs.AllNames.{nodes_below}

abbrev member : ℕ → ℕ → NodeId
member shard index = record { shard = shard; index = index }

and_false : (b : Bool) → (b && false) ≡ false
and_false true = refl
and_false false = refl

and_true : (b : Bool) → (b && true) ≡ b
and_true true = refl
and_true false = refl

one : (P : NodeId → Bool) (x : NodeId) → list_all P (x ∷ []) ≡ P x
one P x = and_true (P x)

members_step : (P : NodeId → Bool) (shard n : ℕ) → list_all P (members_below shard (suc n)) ≡ (list_all P (members_below shard n) && P (member shard n))
members_step P shard n = list_all-append P (members_below shard n) (member shard n ∷ []) ∙ ap (λ b. list_all P (members_below shard n) && b) (one P (member shard n))

nodes_step : (P : NodeId → Bool) (members n : ℕ) → list_all P (nodes_below members (suc n)) ≡ (list_all P (nodes_below members n) && list_all P (members_below n members))
nodes_step P members n = list_all-append P (nodes_below members n) (members_below n members)

-- one more is held
pub members_more : (P : NodeId → Bool) (shard n : ℕ) → list_all P (members_below shard n) ≡ true → P (member shard n) ≡ true → list_all P (members_below shard (n + 1)) ≡ true
members_more P shard n all last = ap (λ k. list_all P (members_below shard k)) (add-one n) ∙ members_step P shard n ∙ rw (all, last) refl

pub nodes_more : (P : NodeId → Bool) (members n : ℕ) → list_all P (nodes_below members n) ≡ true → list_all P (members_below n members) ≡ true → list_all P (nodes_below members (n + 1)) ≡ true
nodes_more P members n all last = ap (λ k. list_all P (nodes_below members k)) (add-one n) ∙ nodes_step P members n ∙ rw (all, last) refl

-- one that isn't held among those below
one_short : (Q : ℕ → Bool) (all : ℕ → Bool) → ((n : ℕ) → all (suc n) ≡ (all n && Q n)) → (k n : ℕ) → k < n → Q k ≡ false → all n ≡ false
one_short Q all step k zero below none = absurd (omega arith)
one_short Q all step k (suc n) below none =
    elim (eqb_tells k n) [
      | inl same ↦ step n ∙ ap (λ i. all n && Q i) (sym same.1) ∙ ap (λ b. all n && b) none ∙ and_false (all n)
      | inr other ↦ step n ∙ ap (λ b. b && Q n) (one_short Q all step k n (let apart = other.1 in omega arith) none)
    ]

pub members_none : (P : NodeId → Bool) (shard k n : ℕ) → k < n → P (member shard k) ≡ false → list_all P (members_below shard n) ≡ false
members_none P shard k n below none = one_short (λ i. P (member shard i)) (λ i. list_all P (members_below shard i)) (members_step P shard) k n below none

pub nodes_none : (P : NodeId → Bool) (members k n : ℕ) → k < n → list_all P (members_below k members) ≡ false → list_all P (nodes_below members n) ≡ false
nodes_none P members k n below none = one_short (λ i. list_all P (members_below i members)) (λ i. list_all P (nodes_below members i)) (nodes_step P members) k n below none
