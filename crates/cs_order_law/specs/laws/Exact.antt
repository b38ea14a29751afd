-- The rules find what is there: a quorum is found, and where nothing is chosen nothing could be.
use Rattle.std.proofs.Common.{◌≡◌, ℕ, zero, suc, ◌+◌, ◌*◌, ◌<◌, ◌≤◌, nat_le, nat_lt, Bool, true, false, not, List, Option, Some, None, is_some, ◌⊎◌, inl, inr, refl, sym, ap, subst, ◌∙◌, arith, le-leb, leb-true, lt-ltb}
use Rattle.cs_order.specs.Counts.{when, count_below, first_below}
use Rattle.cs_base.specs.Options.{or_else}
use Rattle.cs_order.specs.Limits.{last_slot}
use Rattle.cs_order.specs.declared.proposed.Proposed.{Proposed}
use Rattle.cs_order_law.specs.laws.Quorum.{meet, count_all, one_honest}
use Rattle.cs_order_rules.specs.Slot.{Seen, is_digest, votes, if_enough, quorum, with_digest, proposal_of, chosen_entry, by_confirm, is_entry, dones, if_done, done_by, by_done, chosen, to_confirm}
use Rattle.cs_order_law.specs.laws.RuleFacts.{is_digest_is, is_entry_is, quorum_is}

-- what is there at some number is found at one
found_is_some : {A : Type 0} (a b : Option A) → (a ≡ None → is_some b ≡ true) → is_some (or_else a b) ≡ true
found_is_some None b h = h refl
found_is_some (Some x) b h = refl

place : (m n : ℕ) → m < suc n → (m ≡ n) ⊎ (m < n)
place m n h = grind arith

none_of : {A : Type 0} (o : Option A) → o ≡ None → is_some o ≡ true → ⊥
none_of None h k = cc
none_of (Some x) h k = cc

pub first_is_some : {A : Type 0} (n : ℕ) (found : ℕ → Option A) (m : ℕ) (x : A) → m < n → found m ≡ Some x → is_some (first_below n found) ≡ true
unfolding first_below
first_is_some zero found m x lt h = absurd (omega arith)
first_is_some (suc n) found m x lt h =
    elim (place m n lt) [
      | inl e ↦ found_is_some (first_below n found) (found n) (λ none. rw (← e, h) refl)
      | inr below ↦ found_is_some (first_below n found) (found n) (λ none. absurd (none_of (first_below n found) none (first_is_some n found m x below h)))
    ]

none_by : {A : Type 0} (n : ℕ) (found : ℕ → Option A) (m : ℕ) → first_below n found ≡ None → m < n → (o : Option A) → found m ≡ o → o ≡ None
none_by n found m none lt None e = refl
none_by n found m none lt (Some x) e = absurd (none_of (first_below n found) none (first_is_some n found m x lt e))

-- where nothing is found, nothing is there
pub first_is_none : {A : Type 0} (n : ℕ) (found : ℕ → Option A) (m : ℕ) → first_below n found ≡ None → m < n → found m ≡ None
first_is_none n found m none lt = none_by n found m none lt (found m) refl

pub count_none : (n : ℕ) → count_below n (λ k. false) ≡ 0
unfolding count_below
count_none zero = refl
count_none (suc n) = let below = count_none n in omega arith

module _ (f : ℕ) (said : ℕ → Option (List ℕ)) where
  -- two quorums of one kind are of one digest
  one_quorum : (d e : List ℕ) → 2 * f + 1 ≤ votes f said d → 2 * f + 1 ≤ votes f said e → d ≡ e
  one_quorum d e p q =
      let all = count_none (3 * f + 1) in
      let m = meet (3 * f + 1) (λ k. is_digest d (said k)) (λ k. is_digest e (said k)) (λ k. true) (omega arith) in
      let a = is_digest_is d (said m.0) m.2 in
      let b = is_digest_is e (said m.0) m.3 in
      let same : Some d ≡ Some e = sym a ∙ b in
      cc

  enough_said : (d : List ℕ) → 2 * f + 1 ≤ votes f said d → if_enough f said (Some d) ≡ Some d
  enough_said d p = (let h : nat_le (2 * f + 1) (votes f said d) ≡ true = le-leb (2 * f + 1) (votes f said d) p in rw h refl)

  of_some : (o : Option (List ℕ)) → is_some o ≡ true → (x : List ℕ) × (o ≡ Some x)
  of_some None h = cc
  of_some (Some x) h = (x, refl)

  -- a quorum is found
  pub quorum_exact : (d : List ℕ) → 2 * f + 1 ≤ votes f said d → quorum f said ≡ Some d
  quorum_exact d p =
      let all = count_all (3 * f + 1) in
      let no_liars = count_none (3 * f + 1) in
      let m = meet (3 * f + 1) (λ k. is_digest d (said k)) (λ k. true) (λ k. true) (omega arith) in
      let at : if_enough f said (said m.0) ≡ Some d = rw (is_digest_is d (said m.0) m.2) (enough_said d p) in
      let y = of_some (quorum f said) (first_is_some (3 * f + 1) (λ k. if_enough f said (said k)) m.0 d m.1 at) in
      y.1 ∙ ap (λ (x : List ℕ). Some x) (one_quorum y.0 d (quorum_is f said y.0 y.1) p)

either_none : {A : Type 0} (a b : Option A) → or_else a b ≡ None → (a ≡ None) × (b ≡ None)
either_none None b h = (refl, h)
either_none (Some x) b h = cc

when_none : {A : Type 0} (b : Bool) (o : Option A) → b ≡ true → when b o ≡ None → o ≡ None
when_none true o e h = h
when_none false o e h = cc

-- neither rule finds an entry
neither_found : (s : Seen) → s.n < last_slot → chosen s ≡ None → (by_confirm s ≡ None) × (by_done s ≡ None)
neither_found s room none = either_none (by_confirm s) (by_done s) (when_none (nat_lt s.n last_slot) (or_else (by_confirm s) (by_done s)) (lt-ltb s.n last_slot room) none)

-- Where nothing is chosen, no digest that 2f+1 members confirmed has an entry.
pub none_chosen : (s : Seen) → s.n < last_slot → chosen s ≡ None → (v : ℕ) (d : List ℕ) → v < s.views → 2 * s.f + 1 ≤ votes s.f (s.confirm v) d
    → ((w : ℕ) → w < s.views → with_digest d (s.proposal w) ≡ None) × ((m : ℕ) → m < 3 * s.f + 1 → with_digest d (s.done m) ≡ None)
none_chosen s room none v d below enough =
    let neither = neither_found s room none in
    let at = first_is_none s.views (λ view. chosen_entry s (quorum s.f (s.confirm view))) v neither.0 below in
    let here : chosen_entry s (Some d) ≡ None = (let found = quorum_exact s.f (s.confirm v) d enough in subst (λ o. chosen_entry s o ≡ None) found at) in
    let both = either_none (proposal_of s d) (first_below (3 * s.f + 1) (λ member. with_digest d (s.done member))) here in (
      λ w lt. first_is_none s.views (λ view. with_digest d (s.proposal view)) w both.0 lt,
      λ m lt. first_is_none (3 * s.f + 1) (λ member. with_digest d (s.done member)) m both.1 lt,
    )

few_of : (f n : ℕ) → nat_le (f + 1) n ≡ false → n ≤ f
few_of f n h = grind arith

-- Where nothing is chosen, no f+1 members are done with one entry.
pub none_done : (s : Seen) → s.n < last_slot → chosen s ≡ None → (e : Proposed) → dones s e ≤ s.f
none_done s room none e = by_count (nat_le (s.f + 1) (dones s e)) refl
  where
    by_count : (b : Bool) → nat_le (s.f + 1) (dones s e) ≡ b → dones s e ≤ s.f
    by_count false few = few_of s.f (dones s e) few
    by_count true enough =
        let no_liars = count_none (3 * s.f + 1) in
        let m = one_honest s.f (λ k. is_entry e (s.done k)) (λ k. true) (omega arith) (leb-true (s.f + 1) (dones s e) enough) in
        let here : done_by s m.0 ≡ Some e = ap (if_done s) (is_entry_is e (s.done m.0) m.2) ∙ ap (λ b. when b (Some e)) enough in
        let gone = first_is_none (3 * s.f + 1) (done_by s) m.0 (neither_found s room none).1 m.1 in
        absurd (let q : None ≡ Some e = sym gone ∙ here in cc)

-- Where nothing is to be confirmed, the member has confirmed in the view, or no digest has 2f+1 echoes.
pub none_to_confirm : (s : Seen) → to_confirm s ≡ None → (d : List ℕ) → 2 * s.f + 1 ≤ votes s.f (s.echo s.view) d → is_some (s.confirm s.view s.me) ≡ true
none_to_confirm s none d enough = by_said (is_some (s.confirm s.view s.me)) refl
  where
    by_said : (b : Bool) → is_some (s.confirm s.view s.me) ≡ b → b ≡ true
    by_said true e = refl
    by_said false e = (let found = quorum_exact s.f (s.echo s.view) d enough in let gone = when_none (not (is_some (s.confirm s.view s.me))) (quorum s.f (s.echo s.view)) (rw e refl) none in cc)
