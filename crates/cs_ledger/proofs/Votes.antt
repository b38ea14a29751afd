-- One vote in each shard, over whole lists of steps.
use Rattle.std.proofs.Common.{◌≡◌, ℕ, List, [], ◌∷◌, true, false, ◌&&◌, ◌⊎◌, inl, inr, Option, Some, None, refl, sym, ap, ◌∙◌, subst}
use Rattle.std.specs.Prelude.{◌==◌, nat_lt}
use Rattle.std.proofs.lemmas.Bool.{cond_both, both_ways, and_parts, and_from, or_cases, or_left, or_right, eqb-true}
use Rattle.cs_base.specs.Lists.{IsIn, is_empty}
use Rattle.cs_ledger.specs.Ledger.{Bytes, Item}
use Rattle.cs_ledger.specs.Session.{AreToldApart, Session, Rules, Key, Object, Dummy, all_items, object_under, objects_in, is_among}
use Rattle.cs_ledger.specs.Table.{Vote, Commit, Abort, State, Unknown, Active, Table, Entry, Prepare, Decide, Effect, Voted, Accepted, Aborted, Skipped, Void, session_of, exec, table_of, start, start_state, made}
use Rattle.cs_ledger.specs.ShardWorld.{Step, log, is_vote, is_prepare_of, votes_in, shard_votes, all_vote, one_votes, all_commit, one_aborts, IsAllowed, AllAllowed, sessions}
use Rattle.cs_ledger.proofs.Basics.{same_bytes}
use Rattle.cs_ledger.proofs.Changes.{settled_at}
use Rattle.cs_ledger.proofs.Kept.{Kept}
use Rattle.cs_ledger.proofs.Entries.{IsBacked, Fixed, kept_entry, fixed_entry, fixed_vote}

-- the log of a shard after one more step
pub log_at : (P : List Entry → Type 0) (shard : ℕ) (step : Step) (past : List Step) → (step.shard ≡ shard → P (step.entry ∷ log shard past)) → P (log shard past) → P (log shard (step ∷ past))
log_at P shard step past here other =
    cond_both (step.shard == shard) _ _ P (λ e. here (eqb-true _ _ e)) (λ e. other)

pub voted_is : (vote : Vote) (effect : Effect) → is_vote vote effect ≡ true → effect ≡ Voted vote
voted_is Commit (Voted Commit) e = refl
voted_is Commit (Voted Abort) e = cc
voted_is Abort (Voted Commit) e = cc
voted_is Abort (Voted Abort) e = refl
voted_is vote Accepted e = cc
voted_is vote Aborted e = cc
voted_is vote Skipped e = cc
voted_is vote Void e = cc

-- a Prepare of that digest
pub record Prepares (d : Bytes) (entry : Entry) : Type 0 where
  pub x : Session
  pub entry_is : entry ≡ Prepare x
  pub digest : d ≡ x.digest

pub prepares_is : (d : Bytes) (entry : Entry) → is_prepare_of d entry ≡ true → Prepares d entry
prepares_is d (Prepare x) e = record { x = x; entry_is = refl; digest = same_bytes _ _ e }
prepares_is d (Decide x vote) e = cc

module _ (rules : Rules) (step : Step) (past : List Step) where
  pub votes_more : (shard : ℕ) (x : Session) (vote : Vote) → shard_votes rules past shard x vote ≡ true → shard_votes rules (step ∷ past) shard x vote ≡ true
  votes_more shard x vote h =
      log_at (λ l. votes_in rules shard x.digest vote l ≡ true) shard step past (λ e. or_right _ _ h) h

  pub all_more : (x : Session) (vote : Vote) (items : List Item) → all_vote rules past x vote items ≡ true → all_vote rules (step ∷ past) x vote items ≡ true
  all_more x vote [] h = refl
  all_more x vote (item ∷ items) h =
      let p = and_parts _ _ h in
      and_from _ _ (votes_more (rules.shard_of item.name) x vote p.0) (all_more x vote items p.1)

  pub one_more : (x : Session) (vote : Vote) (items : List Item) → one_votes rules past x vote items ≡ true → one_votes rules (step ∷ past) x vote items ≡ true
  one_more x vote [] h = h
  one_more x vote (item ∷ items) h =
      elim (or_cases _ _ h) [
        | inl a ↦ or_left _ _ (votes_more (rules.shard_of item.name) x vote a)
        | inr b ↦ or_right _ _ (one_more x vote items b)
      ]

  -- a step that prepares no such session leaves the votes on it
  votes_same : (shard : ℕ) (x : Session) (vote : Vote) → is_prepare_of x.digest step.entry ≡ false → shard_votes rules (step ∷ past) shard x vote ≡ true → shard_votes rules past shard x vote ≡ true
  votes_same shard x vote other =
      log_at (λ l. votes_in rules shard x.digest vote l ≡ true → shard_votes rules past shard x vote ≡ true) shard step past
      (λ e h. elim (or_cases _ _ h) [ inl a ↦ absurd (both_ways _ other (and_parts _ _ a).0) | inr b ↦ b ])
      (λ h. h)

  pub all_same : (x : Session) (vote : Vote) (items : List Item) → is_prepare_of x.digest step.entry ≡ false → all_vote rules (step ∷ past) x vote items ≡ true → all_vote rules past x vote items ≡ true
  all_same x vote [] other h = refl
  all_same x vote (item ∷ items) other h =
      let p = and_parts _ _ h in
      and_from _ _ (votes_same (rules.shard_of item.name) x vote other p.0) (all_same x vote items other p.1)

pub all_at : (rules : Rules) (past : List Step) (x : Session) (vote : Vote) (items : List Item) → all_vote rules past x vote items ≡ true → (item : Item) → IsIn item items → shard_votes rules past (rules.shard_of item.name) x vote ≡ true
all_at rules past x vote [] h item i = absurd i
all_at rules past x vote (other ∷ items) h item (inl e) =
    ap (λ (z : Item). shard_votes rules past (rules.shard_of z.name) x vote) e ∙ (and_parts _ _ h).0
all_at rules past x vote (other ∷ items) h item (inr i) = all_at rules past x vote items (and_parts _ _ h).1 item i

pub one_at : (rules : Rules) (past : List Step) (x : Session) (vote : Vote) (items : List Item) → one_votes rules past x vote items ≡ true → (item : Item) × (IsIn item items) × (shard_votes rules past (rules.shard_of item.name) x vote ≡ true)
one_at rules past x vote [] h = absurd (both_ways _ refl h)
one_at rules past x vote (item ∷ items) h =
    elim (or_cases _ _ h) [
      | inl a ↦ (item, inl refl, a)
      | inr b ↦ let r = one_at rules past x vote items b in (r.0, inr r.1, r.2)
    ]

-- a session that concerns no shard has all their votes, and is left out
abbrev pub commits_in : Rules → List Step → Session → Type 0
commits_in rules past x = (all_commit rules past x ≡ true) × (is_empty (all_items x.transaction) ≡ false)

pub among_some : (rules : Rules) (shard : ℕ) (items : List Item) → is_among rules shard items ≡ true → is_empty items ≡ false
among_some rules shard [] e = cc
among_some rules shard (item ∷ items) e = refl

abbrev pub aborts_in : Rules → List Step → Session → Type 0
aborts_in rules past x = one_aborts rules past x ≡ true

pub record Facts (rules : Rules) (known : List Session) (past : List Step) : Type 0 where
  pub kept : (shard : ℕ) → Kept rules known (commits_in rules past) (aborts_in rules past) shard (table_of rules shard (log shard past))
  pub fixed : (x : Session) → IsIn x known → (shard : ℕ) (vote : Vote) → shard_votes rules past shard x vote ≡ true → Fixed rules shard (table_of rules shard (log shard past)) x vote

pub backed : (rules : Rules) (past : List Step) (shard : ℕ) (entry : Entry) → IsAllowed rules past shard entry → IsBacked (commits_in rules past) (aborts_in rules past) entry
backed rules past shard (Prepare x) h = tt
backed rules past shard (Decide x Commit) h = (h.1, among_some rules shard (all_items x.transaction) h.0)
backed rules past shard (Decide x Abort) h = h.1

pub kept_mono : (rules : Rules) (known : List Session) (c a c' a' : Session → Type 0) (shard : ℕ) (t : Table) → ((x : Session) → c x → c' x) → ((x : Session) → a x → a' x) → Kept rules known c a shard t → Kept rules known c' a' shard t
kept_mono rules known c a c' a' shard t f g k =
    record {
      locked = k.locked;
      inactive = λ key d e. let h = k.inactive key d e in record { x = h.x; knows = h.knows; digest = h.digest; holds = f h.x h.holds };
      noted = λ key d e. let h = k.noted key d e in record { x = h.x; knows = h.knows; digest = h.digest; holds = g h.x h.holds };
    }

-- at the start nothing is locked
start_cases : (rules : Rules) (shard : ℕ) (key : Key) → (start_state rules shard key ≡ Unknown) ⊎ ((object : Bytes) × (start_state rules shard key ≡ Active object))
start_cases rules shard (Object name) =
    made_cases (object_under (objects_in rules shard rules.genesis) (Object name))
  where
    made_cases : (o : Option Bytes) → (made o Unknown ≡ Unknown) ⊎ ((object : Bytes) × (made o Unknown ≡ Active object))
    made_cases None = inl refl
    made_cases (Some object) = inr (object, refl)
start_cases rules shard (Dummy s serial) =
    cond_both (s == shard && nat_lt serial rules.dummies) _ _ (λ z. (z ≡ Unknown) ⊎ ((object : Bytes) × (z ≡ Active object)))
    (λ e. inr (rules.dummy_object, refl)) (λ e. inl refl)

not_at_start : (state other : State) → (state ≡ Unknown) ⊎ ((object : Bytes) × (state ≡ Active object)) → state ≡ other → (Unknown ≡ other → ⊥) → ((object : Bytes) → Active object ≡ other → ⊥) → ⊥
not_at_start state other (inl u) e f g = f (sym u ∙ e)
not_at_start state other (inr a) e f g = g a.0 (sym a.1 ∙ e)

pub kept_start : (rules : Rules) (known : List Session) (c a : Session → Type 0) (shard : ℕ) → Kept rules known c a shard (start rules shard)
kept_start rules known c a shard =
    record {
      locked = λ key object d e. absurd (not_at_start _ _ (start_cases rules shard key) e (λ q. cc) (λ o q. cc));
      inactive = λ key d e. absurd (not_at_start _ _ (start_cases rules shard key) e (λ q. cc) (λ o q. cc));
      noted = λ key d e. cc;
    }

module _ (rules : Rules) (known : List Session) (unique : AreToldApart known) where
  pub facts_start : Facts rules known []
  facts_start =
      record {
        kept = λ shard. kept_start rules known _ _ shard;
        fixed = λ x k shard vote e. absurd (both_ways _ refl e);
      }

  module _ (step : Step) (past : List Step) (facts : Facts rules known past) (knows : IsIn (session_of step.entry) known) (allowed : IsAllowed rules past step.shard step.entry) where
    -- the tables after the step, with what was voted before it
    pub kept_before : (shard : ℕ) → Kept rules known (commits_in rules past) (aborts_in rules past) shard (table_of rules shard (log shard (step ∷ past)))
    kept_before shard =
        log_at (λ l. Kept rules known (commits_in rules past) (aborts_in rules past) shard (table_of rules shard l)) shard step past
        (λ e. kept_entry rules known unique shard (table_of rules shard (log shard past)) (commits_in rules past) (aborts_in rules past) (facts.kept shard) step.entry knows (backed rules past step.shard step.entry allowed))
        (facts.kept shard)

    fixed_here : (x : Session) → IsIn x known → (shard : ℕ) (vote : Vote) → votes_in rules shard x.digest vote (step.entry ∷ log shard past) ≡ true → Fixed rules shard (table_of rules shard (step.entry ∷ log shard past)) x vote
    fixed_here x k shard vote h =
        elim (or_cases _ _ h) [
          | inl now ↦
              let p = and_parts _ _ now in
              let y = prepares_is x.digest step.entry p.0 in
              let same : x ≡ y.x = unique x y.x k (subst (λ e. IsIn (session_of e) known) y.entry_is knows) y.digest in
              let is : step.entry ≡ Prepare x = y.entry_is ∙ ap Prepare (sym same) in
              let effect = voted_is vote _ p.1 in
              subst (λ e. Fixed rules shard (exec rules shard (table_of rules shard (log shard past)) e).table x vote) (sym is)
              (fixed_vote rules known unique shard (table_of rules shard (log shard past)) x vote
              (subst (λ e. (exec rules shard (table_of rules shard (log shard past)) e).effect ≡ Voted vote) is effect))
          | inr before ↦
              fixed_entry rules known unique shard (table_of rules shard (log shard past)) (commits_in rules past) (aborts_in rules past) (facts.kept shard) step.entry knows (backed rules past step.shard step.entry allowed) x k vote (facts.fixed x k shard vote before)
        ]

    pub facts_step : Facts rules known (step ∷ past)
    facts_step =
        record {
          kept = λ shard. kept_mono rules known _ _ _ _ shard _ (λ x c. (all_more rules step past x Commit (all_items x.transaction) c.0, c.1)) (λ x. one_more rules step past x Abort (all_items x.transaction)) (kept_before shard);
          fixed = λ x k shard vote.
              log_at (λ l. votes_in rules shard x.digest vote l ≡ true → Fixed rules shard (table_of rules shard l) x vote) shard step past
              (λ e. fixed_here x k shard vote)
              (facts.fixed x k shard vote);
        }

  pub facts_of : (past : List Step) → AllAllowed rules past → ((x : Session) → IsIn x (sessions past) → IsIn x known) → Facts rules known past
  facts_of [] allowed within = facts_start
  facts_of (step ∷ past) allowed within =
      facts_step step past (facts_of past allowed.1 (λ x i. within x (inr i))) (within _ (inl refl)) allowed.0

  -- one vote
  pub one_vote : (past : List Step) → Facts rules known past → (x : Session) → IsIn x known → (shard : ℕ) (v w : Vote) → shard_votes rules past shard x v ≡ true → shard_votes rules past shard x w ≡ true → v ≡ w
  one_vote past facts x k shard v w e f =
      let a = facts.fixed x k shard v e in
      let b = facts.fixed x k shard w f in
      let key : Some a.key ≡ Some b.key = sym a.is ∙ b.is in
      let at : a.key ≡ b.key = cc in
      let q : Some v ≡ Some w = sym a.fixed ∙ ap (λ z. settled_at (table_of rules shard (log shard past)) z x.digest) at ∙ b.fixed in
      cc

  pub no_both : (past : List Step) → Facts rules known past → (x : Session) → IsIn x known → all_commit rules past x ≡ true → one_aborts rules past x ≡ true → ⊥
  no_both past facts x k all one =
      let item = one_at rules past x Abort (all_items x.transaction) one in
      let commit = all_at rules past x Commit (all_items x.transaction) all item.0 item.1 in
      let same : Commit ≡ Abort = one_vote past facts x k (rules.shard_of item.0.name) Commit Abort commit item.2 in
      cc
