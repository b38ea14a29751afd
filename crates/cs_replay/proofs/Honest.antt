-- The honest nodes of a schedule, by their numbers: no name stands twice, and each has its place.
use Rattle.std.proofs.Common.{◌≡◌, ℕ, zero, suc, ◌+◌, ◌*◌, ◌<◌, ◌≤◌, Bool, true, false, cond, List, [], ◌∷◌, ◌++◌, length, refl, ap, sym, subst, ◌∙◌, inl, inr, append-nil, arith}
use Rattle.std.specs.List.{All, AllPairs}
use Rattle.std.proofs.Math.Nat.{mul-le-mul_left, lt_of_mul-lt-mul_left}
use Rattle.std.proofs.Math.Seq.{get_or-append_seam}
use Rattle.std.proofs.lemmas.Bool.{cases_lt}
use Rattle.std.proofs.lemmas.List.{length-append, get_or_append_left}
use Rattle.std.proofs.lemmas.List.Elements.{All-push, All-nil}
use Rattle.std.proofs.lemmas.List.Quantifiers.{all_pairs_push}
use Rattle.std.proofs.lemmas.Nat.{div-add-mod', div-mul-add, mod-mul-add}
use Rattle.cs_base.specs.declared.node_id.NodeId.{NodeId}
use Rattle.cs_sched.specs.Naming.{is_liar}
use Rattle.cs_replay_play.specs.Standing.{HasNode}
use Rattle.cs_replay.specs.Settings.{numbered_node, honest_below, name_at_place}

-- the number of a node, of shards of so many members each
abbrev pub rank : ℕ → NodeId → ℕ
rank members name = name.shard * members + name.index

pub record IsHonestBelow (members : ℕ) (liars : List NodeId) (n : ℕ) (name : NodeId) : Type 0 where
  pub ranked : rank members name < n
  pub member : name.index < members
  pub honest : is_liar liars name ≡ false

abbrev zero_name : NodeId
zero_name = record { shard = 0; index = 0 }

-- a list has a name
abbrev pub Has : List NodeId → NodeId → Type 0
Has names name = HasNode (name_at_place names) (length names) name

has-left : (xs ys : List NodeId) (name : NodeId) → Has xs name → Has (xs ++ ys) name
has-left xs ys name has = (has.0, omega (arith, length-append xs ys, has.1), get_or_append_left xs ys zero_name has.0 has.1 ∙ has.2)

has-last : (xs : List NodeId) (name : NodeId) → Has (xs ++ name ∷ []) name
has-last xs name = (length xs, omega (arith, length-append xs (name ∷ [])), get_or-append_seam xs name [] zero_name)

-- ---- numbers

rank-numbered : (members n : ℕ) → rank members (numbered_node members n) ≡ n
rank-numbered members n = div-add-mod' n members

numbered-rank : (members : ℕ) (name : NodeId) → name.index < members → numbered_node members (rank members name) ≡ name
numbered-rank members name member = λ i. record {
  shard = div-mul-add name.shard members name.index member i;
  index = mod-mul-add name.shard members name.index member i;
}

-- a node of one of the shards has a number below those of all shards, and the other way round
pub ranks-within : (members shards : ℕ) (name : NodeId) → name.shard < shards → name.index < members → rank members name < shards * members
ranks-within members shards name below member =
    let more : members * suc name.shard ≤ members * shards = mul-le-mul_left members below in
    omega arith

pub shards-within : (members shards : ℕ) (name : NodeId) → rank members name < shards * members → name.shard < shards
shards-within members shards name within =
    let less : members * name.shard < members * shards = omega arith in
    lt_of_mul-lt-mul_left members less

-- ---- the honest nodes below a number

-- one node more, by whether it lies
pub honest-next : (members : ℕ) (liars : List NodeId) (n : ℕ) (lies : Bool) → is_liar liars (numbered_node members n) ≡ lies → honest_below members liars (n + 1) ≡ honest_below members liars n ++ cond lies [] (numbered_node members n ∷ [])
honest-next members liars n lies is =
    let next : n + 1 ≡ suc n = omega arith in
    ap (honest_below members liars) next ∙ ap (λ b. honest_below members liars n ++ cond b [] (numbered_node members n ∷ [])) is

module _ (members : ℕ) (liars : List NodeId) (some : 0 < members) where
  numbered : (n : ℕ) → is_liar liars (numbered_node members n) ≡ false → IsHonestBelow members liars (suc n) (numbered_node members n)
  numbered n honest =
      let is : rank members (numbered_node members n) ≡ n = rank-numbered members n in
      record { ranked = omega arith; member = omega arith; honest = honest }

  pub all-below : (n : ℕ) → All (IsHonestBelow members liars n) (honest_below members liars n)
  all-below zero = All-nil (IsHonestBelow members liars 0)
  all-below (suc n) =
      by (is_liar liars (numbered_node members n)) refl
      (λ k d within. let is = all-below n k d within in record { ranked = omega (arith, is.ranked); member = is.member; honest = is.honest })
    where
      by : (lies : Bool) → is_liar liars (numbered_node members n) ≡ lies → All (IsHonestBelow members liars (suc n)) (honest_below members liars n)
          → All (IsHonestBelow members liars (suc n)) (honest_below members liars n ++ cond lies [] (numbered_node members n ∷ []))
      by true is older = subst (All (IsHonestBelow members liars (suc n))) (sym (append-nil (honest_below members liars n))) older
      by false is older = All-push (IsHonestBelow members liars (suc n)) (honest_below members liars n) (numbered_node members n) older (numbered n is)

  -- the numbers rise
  rising : (n : ℕ) → AllPairs (λ a b. rank members a < rank members b) (honest_below members liars n)
  rising zero = λ i j d before within. absurd (omega arith)
  rising (suc n) = by (is_liar liars (numbered_node members n)) (rising n)
    where
      by : (lies : Bool) → AllPairs (λ a b. rank members a < rank members b) (honest_below members liars n)
          → AllPairs (λ a b. rank members a < rank members b) (honest_below members liars n ++ cond lies [] (numbered_node members n ∷ []))
      by true older = subst (AllPairs (λ a b. rank members a < rank members b)) (sym (append-nil (honest_below members liars n))) older
      by false older = all_pairs_push (λ a b. rank members a < rank members b) (honest_below members liars n) (numbered_node members n) older
          (λ k d within. omega (arith, rank-numbered members n, (all-below n k d within).ranked))

  -- so no name stands twice
  pub apart-below : (n i j : ℕ) → i < length (honest_below members liars n) → j < length (honest_below members liars n) → name_at_place (honest_below members liars n) i ≡ name_at_place (honest_below members liars n) j → i ≡ j
  apart-below n i j first second same =
      let ranks : rank members (name_at_place (honest_below members liars n) i) ≡ rank members (name_at_place (honest_below members liars n) j) = ap (rank members) same in
      elim (cases_lt i j) [
        | inl less ↦ absurd (omega (arith, rising n i j zero_name less second))
        | inr more ↦ elim (cases_lt j i) [
          | inl less ↦ absurd (omega (arith, rising n j i zero_name less first))
          | inr least ↦ omega arith
        ]
      ]

  -- each of them has a place
  pub has-below : (n : ℕ) (name : NodeId) → IsHonestBelow members liars n name → Has (honest_below members liars n) name
  has-below zero name is = absurd (omega (arith, is.ranked))
  has-below (suc n) name is =
      elim (cases_lt (rank members name) n) [
        | inl less ↦ has-left (honest_below members liars n) (cond (is_liar liars (numbered_node members n)) [] (numbered_node members n ∷ [])) name
            (has-below n name (record { ranked = less; member = is.member; honest = is.honest }))
        | inr more ↦
            let here : rank members name ≡ n = omega (arith, is.ranked) in
            let same : numbered_node members n ≡ name = ap (numbered_node members) (sym here) ∙ numbered-rank members name is.member in
            let honest : is_liar liars (numbered_node members n) ≡ false = ap (is_liar liars) same ∙ is.honest in
            subst (λ lies. Has (honest_below members liars n ++ cond lies [] (numbered_node members n ∷ [])) name) (sym honest)
            (subst (λ (last : NodeId). Has (honest_below members liars n ++ last ∷ []) name) (sym same) (has-last (honest_below members liars n) name))
      ]

  -- and what has a place is one of them
  pub is-below : (n : ℕ) (name : NodeId) → Has (honest_below members liars n) name → IsHonestBelow members liars n name
  is-below n name has = subst (IsHonestBelow members liars n) has.2 (all-below n has.0 zero_name has.1)
