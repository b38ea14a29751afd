-- The names of others, one shard after the other.
use Rattle.std.proofs.Common.{◌≡◌, ℕ, ◌+◌, ◌*◌, ◌<◌, length, take, get_or, Bool, true, false, not, cond, List, [], ◌∷◌, ◌++◌, refl, ap, sym, ◌∙◌, add-one, append_assoc, append-nil}
use Rattle.std.proofs.lemmas.List.{take_more}
use Rattle.cs_base.specs.declared.node_id.NodeId.{NodeId}
use Rattle.cs_base.specs.NodeId.{same_name, members_below}
use Rattle.cs_node_rules.specs.Members.{members, except, others}

pub except-append : (me : NodeId) (xs ys : List NodeId) → except me (xs ++ ys) ≡ except me xs ++ except me ys
except-append me [] ys = refl
except-append me (x ∷ xs) ys = by_same (except-append me xs ys) (same_name x me)
  where
    by_same : except me (xs ++ ys) ≡ except me xs ++ except me ys → (same : Bool) → cond same (except me (xs ++ ys)) (x ∷ except me (xs ++ ys)) ≡ cond same (except me xs) (x ∷ except me xs) ++ except me ys
    by_same later true = later
    by_same later false = ap (λ zs. x ∷ zs) later

members-push : (f : ℕ) (shards : List ℕ) (shard : ℕ) → members f (shards ++ shard ∷ []) ≡ members f shards ++ members_below shard (3 * f + 1)
members-push f [] shard = append-nil (members_below shard (3 * f + 1))
members-push f (s ∷ shards) shard =
    ap (λ xs. members_below s (3 * f + 1) ++ xs) (members-push f shards shard)
    ∙ sym (append_assoc (members_below s (3 * f + 1)) (members f shards) (members_below shard (3 * f + 1)))

pub others-push : (f : ℕ) (me : NodeId) (shards : List ℕ) (shard : ℕ) → others f me (shards ++ shard ∷ []) ≡ others f me shards ++ except me (members_below shard (3 * f + 1))
others-push f me shards shard = ap (except me) (members-push f shards shard) ∙ except-append me (members f shards) (members_below shard (3 * f + 1))

-- the next of a shard is another, or the node itself
pub other-next : (me : NodeId) (shard n : ℕ) → same_name (record { shard = shard; index = n }) me ≡ false → except me (members_below shard n ++ record { shard = shard; index = n } ∷ []) ≡ except me (members_below shard n) ++ record { shard = shard; index = n } ∷ []
other-next me shard n other =
    except-append me (members_below shard n) (record { shard = shard; index = n } ∷ [])
    ∙ ap (λ b. except me (members_below shard n) ++ cond b [] (record { shard = shard; index = n } ∷ [])) other

pub itself-next : (me : NodeId) (shard n : ℕ) → same_name (record { shard = shard; index = n }) me ≡ true → except me (members_below shard n ++ record { shard = shard; index = n } ∷ []) ≡ except me (members_below shard n)
itself-next me shard n same =
    except-append me (members_below shard n) (record { shard = shard; index = n } ∷ [])
    ∙ ap (λ b. except me (members_below shard n) ++ cond b [] (record { shard = shard; index = n } ∷ [])) same
    ∙ append-nil (except me (members_below shard n))

-- the names of one more shard were added
pub others-more : (f : ℕ) (me : NodeId) (shards : List ℕ) (i d : ℕ) (names names' : List NodeId) → i < length shards → names ≡ others f me (take i shards)
    → names' ≡ names ++ except me (members_below (get_or shards i d) (3 * f + 1)) → names' ≡ others f me (take (i + 1) shards)
others-more f me shards i d names names' lt so-far grown =
    grown ∙ ap (λ xs. xs ++ except me (members_below (get_or shards i d) (3 * f + 1))) so-far
    ∙ sym (others-push f me (take i shards) (get_or shards i d)) ∙ ap (others f me) (sym (take_more shards i d lt))

-- one more was added, or is the node itself
module _ (me : NodeId) (shard n : ℕ) (before names names' : List NodeId) (so-far : names ≡ before ++ except me (members_below shard n)) where
  pub name-added : same_name (record { shard = shard; index = n }) me ≡ false → names' ≡ names ++ record { shard = shard; index = n } ∷ [] → names' ≡ before ++ except me (members_below shard (n + 1))
  name-added other grown =
      grown ∙ ap (λ xs. xs ++ record { shard = shard; index = n } ∷ []) so-far ∙ append_assoc before (except me (members_below shard n)) (record { shard = shard; index = n } ∷ [])
      ∙ ap (λ xs. before ++ xs) (sym (other-next me shard n other)) ∙ ap (λ k. before ++ except me (members_below shard k)) (sym (add-one n))

  pub name-passed : same_name (record { shard = shard; index = n }) me ≡ true → names' ≡ names → names' ≡ before ++ except me (members_below shard (n + 1))
  name-passed same kept = kept ∙ so-far ∙ ap (λ xs. before ++ xs) (sym (itself-next me shard n same)) ∙ ap (λ k. before ++ except me (members_below shard k)) (sym (add-one n))

pub is-other : (same : Bool) → true ≡ not same → same ≡ false
is-other true e = let q : true ≡ false = e in cc
is-other false e = refl

pub is-itself : (same : Bool) → false ≡ not same → same ≡ true
is-itself true e = refl
is-itself false e = let q : false ≡ true = e in cc
