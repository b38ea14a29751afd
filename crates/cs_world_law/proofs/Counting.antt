-- What is counted over the shards that a session concerns.
use Rattle.std.proofs.Common.{◌≡◌, inl, inr, ℕ, zero, suc, ◌<◌, ◌==◌, Bool, true, false, if◌then◌else◌, List, [], ◌∷◌, refl, ap, sym, ◌∙◌, subst, arith}
use Rattle.std.specs.List.{list_any, list_all}
use Rattle.std.proofs.lemmas.Bool.{cases_Bool, and_parts, and_from, or_cases, or_left, or_right, eqb-true, eqb-false, eq-eqb}
use Rattle.cs_base.specs.Lists.{IsIn}
use Rattle.cs_tx_types.specs.declared.session.Session.{Session}
use Rattle.cs_ledger.specs.Ledger.{Item}
use Rattle.cs_ledger.specs.Session as Seen
use Rattle.cs_ledger.specs.Session.{Rules, is_among}
use Rattle.cs_ledger.specs.Table.{Vote}
use Rattle.cs_ledger.specs.ShardWorld.{Step, shard_votes, all_vote, one_votes}
use Rattle.cs_ledger.proofs.Basics.{in_left, in_right, in_either}
use Rattle.cs_node_state.specs.Setup.{Setup, is_concerned_shard, concerned_below}

pub any-in : {A : Type 0} (test : A → Bool) (xs : List A) → list_any test xs ≡ true → (x : A) × (IsIn x xs) × (test x ≡ true)
any-in test [] e = cc
any-in test (x ∷ xs) e =
    elim (or_cases _ _ e) [
      | inl now ↦ (x, inl refl, now)
      | inr later ↦ let r = any-in test xs later in (r.0, inr r.1, r.2)
    ]

pub all-in : {A : Type 0} (test : A → Bool) (xs : List A) → list_all test xs ≡ true → (x : A) → IsIn x xs → test x ≡ true
all-in test [] e x i = absurd i
all-in test (y ∷ xs) e x (inl is) = ap test is ∙ (and_parts _ _ e).0
all-in test (y ∷ xs) e x (inr i) = all-in test xs (and_parts _ _ e).1 x i

pub all-from : {A : Type 0} (test : A → Bool) (xs : List A) → ((x : A) → IsIn x xs → test x ≡ true) → list_all test xs ≡ true
all-from test [] f = refl
all-from test (y ∷ xs) f = and_from _ _ (f y (inl refl)) (all-from test xs (λ x i. f x (inr i)))

-- the shards that a session concerns
pub in-concerned : (setup : Setup) (x : Session) (n shard : ℕ) → shard < n → is_concerned_shard setup x shard ≡ true → IsIn shard (concerned_below setup x n)
in-concerned setup x zero shard less c = absurd (omega arith)
in-concerned setup x (suc n) shard less c =
    elim (cases_Bool (shard == n)) [
      | inl same ↦
          let is : shard ≡ n = eqb-true shard n same in
          in_right shard (concerned_below setup x n) _ (subst (λ b. IsIn shard (if b then n ∷ [] else [])) (sym (sym (ap (λ s. is_concerned_shard setup x s) is) ∙ c)) (inl is))
      | inr other ↦ in_left shard (concerned_below setup x n) _ (in-concerned setup x n shard (below shard n less (eqb-false shard n other)) c)
    ]
  where
    below : (a b : ℕ) → a < suc b → (a ≡ b → ⊥) → a < b
    below a b l h = grind (arith, l, h)

pub concerned-in : (setup : Setup) (x : Session) (n shard : ℕ) → IsIn shard (concerned_below setup x n) → (shard < n) × (is_concerned_shard setup x shard ≡ true)
concerned-in setup x zero shard i = absurd i
concerned-in setup x (suc n) shard i =
    elim (in_either shard (concerned_below setup x n) (if is_concerned_shard setup x n then n ∷ [] else []) i) [
      | inl j ↦ let r = concerned-in setup x n shard j in (wider shard n r.0, r.1)
      | inr j ↦ last (is_concerned_shard setup x n) refl j
    ]
  where
    wider : (a b : ℕ) → a < b → a < suc b
    wider a b l = omega arith

    last : (b : Bool) → is_concerned_shard setup x n ≡ b → IsIn shard (if b then n ∷ [] else []) → (shard < suc n) × (is_concerned_shard setup x shard ≡ true)
    last true c (inl is) = (subst (λ k. k < suc n) (sym is) (omega arith), ap (λ s. is_concerned_shard setup x s) is ∙ c)
    last true c (inr none) = absurd none
    last false c none = absurd none

-- an item's shard is concerned, and a concerned shard is an item's
pub among-item : (rules : Rules) (item : Item) (items : List Item) → IsIn item items → is_among rules (rules.shard_of item.name) items ≡ true
among-item rules item [] i = absurd i
among-item rules item (other ∷ items) (inl e) = or_left _ _ (eq-eqb _ _ (ap (λ (z : Item). rules.shard_of z.name) (sym e)))
among-item rules item (other ∷ items) (inr i) = or_right _ _ (among-item rules item items i)

pub item-among : (rules : Rules) (shard : ℕ) (items : List Item) → is_among rules shard items ≡ true → (item : Item) × (IsIn item items) × (rules.shard_of item.name ≡ shard)
item-among rules shard [] e = cc
item-among rules shard (item ∷ items) e =
    elim (or_cases _ _ e) [
      | inl now ↦ (item, inl refl, eqb-true _ _ now)
      | inr later ↦ let r = item-among rules shard items later in (r.0, inr r.1, r.2)
    ]

-- the shard of each of these objects votes so, or one does
pub votes-all : (rules : Rules) (past : List Step) (x : Seen.Session) (vote : Vote) (items : List Item) → ((item : Item) → IsIn item items → shard_votes rules past (rules.shard_of item.name) x vote ≡ true) → all_vote rules past x vote items ≡ true
votes-all rules past x vote [] f = refl
votes-all rules past x vote (item ∷ items) f = and_from _ _ (f item (inl refl)) (votes-all rules past x vote items (λ other i. f other (inr i)))

pub votes-one : (rules : Rules) (past : List Step) (x : Seen.Session) (vote : Vote) (items : List Item) (item : Item) → IsIn item items → shard_votes rules past (rules.shard_of item.name) x vote ≡ true → one_votes rules past x vote items ≡ true
votes-one rules past x vote [] item i v = absurd i
votes-one rules past x vote (other ∷ items) item (inl e) v = or_left _ _ (ap (λ (z : Item). shard_votes rules past (rules.shard_of z.name) x vote) (sym e) ∙ v)
votes-one rules past x vote (other ∷ items) item (inr i) v = or_right _ _ (votes-one rules past x vote items item i v)
