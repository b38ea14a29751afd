-- What is kept of the executions stands for them still after one more.
use Rattle.std.proofs.Common.{◌≡◌, ℕ, suc, ◌+◌, ◌<◌, nat_lt, ◌==◌, Bool, true, false, not, ◌&&◌, ◌||◌, cond, List, [], ◌∷◌, ◌++◌, length, slice_index, slice_set, Option, Some, None, Result, Ok, Err, OnOk, refl, sym, ap, subst, ◌∙◌, arith, rules}
use Rattle.std.specs.Prelude.{bytes_eq}
use Rattle.std.specs.List.{list_all, list_any}
use Rattle.std.proofs.lemmas.List.{map-append, get_or-set_same, get_or-set_other}
use Rattle.std.proofs.lemmas.List.Folds.{list_any-append}
use Rattle.std.proofs.lemmas.Slice.Eq.{bytes_eq-Decides}
use Rattle.cs_base.specs.declared.config.Config.{Config}
use Rattle.cs_tx_types.specs.declared.session.Session.{Session}
use Rattle.cs_tx_types.specs.declared.vote.Vote.{Vote}
use Rattle.cs_tx_types.specs.declared.action.Action.{Action}
use Rattle.cs_tx_types.specs.declared.action.Action.TheVariants.{Prepare, Decide}
use Rattle.cs_tx.specs.Digest.{digest_of_tx, digest_of_session}
use Rattle.cs_tx.specs.Uses.{concerned_shards}
use Rattle.cs_ledger.specs.Ledger.{Bytes, Transaction}
use Rattle.cs_ledger.specs.Table as Shard
use Rattle.cs_ledger.specs.ShardWorld.{is_vote, is_listed}
use Rattle.cs_node_state.specs.Setup.{Setup, digest_of}
use Rattle.cs_replay_rules.specs.Aborts.{with_aborted_digest}
use Rattle.cs_node_rules.specs.Signs.{Did}
use Rattle.cs_node_rules.specs.World.{Execution, newest_of, is_after, with_first_execution, is_recorded, all_recorded, is_voted, told_transactions}
use Rattle.cs_replay_play.specs.Digests.{digests_of}
use Rattle.cs_replay_play.specs.Kept.{KeptHistory, KeepsHistory, Deploys, IsBeforeFirst, is_commit, with_commit, all_voted_commit, after_vote, told_next, slot_after, place_in, is_new, entered_place, after_execution, kept_after}

-- ---- before the first execution

pub kept-first : (config : Config) (setup : Setup) (kept : KeptHistory) → kept.config ≡ config → IsBeforeFirst kept → Deploys config setup → KeepsHistory setup [] kept
kept-first config setup kept is empty deploys = empty setup (subst (λ (c : Config). Deploys c setup) (sym is) deploys)

-- ---- tests

eq-sym : (a b : ℕ) → (a == b) ≡ (b == a)
eq-sym a b = by (a == b) (b == a) refl refl
  where
    by : (p q : Bool) → (a == b) ≡ p → (b == a) ≡ q → (a == b) ≡ (b == a)
    by true true x y = x ∙ sym y
    by false false x y = x ∙ sym y
    by true false x y = absurd (grind arith)
    by false true x y = absurd (grind arith)

and-false : (a : Bool) → (a && false) ≡ false
and-false true = refl
and-false false = refl

and-true : (a : Bool) → (a && true) ≡ a
and-true true = refl
and-true false = refl

or-false : (a : Bool) → (a || false) ≡ a
or-false true = refl
or-false false = refl

or-comm : (a b : Bool) → (a || b) ≡ (b || a)
or-comm true true = refl
or-comm true false = refl
or-comm false true = refl
or-comm false false = refl

list_all-same : {X : Type 0} (p q : X → Bool) → ((x : X) → p x ≡ q x) → (xs : List X) → list_all p xs ≡ list_all q xs
list_all-same p q same [] = refl
list_all-same p q same (x ∷ xs) = ap (λ b. b && list_all p xs) (same x) ∙ ap (λ b. q x && b) (list_all-same p q same xs)

-- ---- places

-- one that is set, and the others as they were
set-next : (xs : List ℕ) (shard s x m : ℕ) → shard < length xs → slice_index xs s ≡ m → slice_index (slice_set xs shard x) s ≡ cond (shard == s) x m
set-next xs shard s x m within here = by (shard == s) refl
  where
    by : (b : Bool) → (shard == s) ≡ b → slice_index (slice_set xs shard x) s ≡ cond (shard == s) x m
    by true e =
        let same : shard ≡ s = grind arith in
        let P : ℕ → Type 0 = λ k. slice_index (slice_set xs shard x) k ≡ x in
        rw e (subst P same (get_or-set_same xs shard x 0 within))
    by false e =
        let other : s ≡ shard → ⊥ = λ q. grind arith in
        rw e (get_or-set_other xs shard s x 0 other ∙ here)

lt-next : (a b : ℕ) → nat_lt (suc a) (b + 1) ≡ nat_lt a b
lt-next a b = by (nat_lt (suc a) (b + 1)) (nat_lt a b) refl refl
  where
    by : (p q : Bool) → nat_lt (suc a) (b + 1) ≡ p → nat_lt a b ≡ q → nat_lt (suc a) (b + 1) ≡ nat_lt a b
    by true true x y = x ∙ sym y
    by false false x y = x ∙ sym y
    by true false x y = absurd (grind arith)
    by false true x y = absurd (grind arith)

eq-next : (a b : ℕ) → (suc a == b + 1) ≡ (a == b)
eq-next a b = by (suc a == b + 1) (a == b) refl refl
  where
    by : (p q : Bool) → (suc a == b + 1) ≡ p → (a == b) ≡ q → (suc a == b + 1) ≡ (a == b)
    by true true x y = x ∙ sym y
    by false false x y = x ∙ sym y
    by true false x y = absurd (grind arith)
    by false true x y = absurd (grind arith)

-- what is kept tells what comes after the newest
new-is : (slot place : ℕ) (newest : Option Execution)
    → (nat_lt (slot_after newest) (slot + 1) || ((slot_after newest == slot + 1) && nat_lt (place_in newest) place)) ≡ is_after slot place newest
new-is slot place None = let less : nat_lt 0 (slot + 1) ≡ true = grind arith in λ i. less i || ((0 == slot + 1) && nat_lt 0 place)
new-is slot place (Some e) =
    let less = lt-next e.slot slot in
    let same = eq-next e.slot slot in
    λ i. less i || (same i && nat_lt e.place place)

-- ---- commit votes

-- one more commit vote, or one that was known
commit-next : (commits : List (ℕ × Bytes)) (shard : ℕ) (d0 d : Bytes) (s : ℕ)
    → is_commit (with_commit shard d0 commits) d s ≡ (((shard == s) && bytes_eq d d0) || is_commit commits d s)
commit-next commits shard d0 d s = by (is_commit commits d0 shard) refl
  where
    known : is_commit commits d0 shard ≡ true → (b c : Bool) → (shard == s) ≡ b → bytes_eq d d0 ≡ c → is_commit commits d s ≡ ((b && c) || is_commit commits d s)
    known h true true x y =
        let same_shard : shard ≡ s = grind arith in
        let same : d ≡ d0 = (bytes_eq-Decides d d0).0 y in
        subst (λ (e : Bytes). is_commit commits e s ≡ true) (sym same) (subst (λ (k : ℕ). is_commit commits d0 k ≡ true) same_shard h)
    known h true false x y = refl
    known h false c x y = refl

    by : (b : Bool) → is_commit commits d0 shard ≡ b → is_commit (with_commit shard d0 commits) d s ≡ (((shard == s) && bytes_eq d d0) || is_commit commits d s)
    by true h = rw h (known h (shard == s) (bytes_eq d d0) refl refl)
    by false h =
        rw h (list_any-append (λ commit. (s == commit.0) && bytes_eq d commit.1) commits ((shard, d0) ∷ [])
        ∙ ap (λ b. is_commit commits d s || b) (or-false ((s == shard) && bytes_eq d d0))
        ∙ ap (λ b. is_commit commits d s || (b && bytes_eq d d0)) (eq-sym s shard)
        ∙ or-comm (is_commit commits d s) ((shard == s) && bytes_eq d d0))

-- the votes after an execution
votes-next : (kept : KeptHistory) (shard : ℕ) (d0 d : Bytes) (vote : Shard.Vote) (s : ℕ)
    → is_commit (after_vote kept shard d0 vote).commits d s ≡ (((shard == s) && (bytes_eq d d0 && is_vote Shard.Commit (Shard.Voted vote))) || is_commit kept.commits d s)
votes-next kept shard d0 d Shard.Commit s = rw (and-true (bytes_eq d d0)) (commit-next kept.commits shard d0 d s)
votes-next kept shard d0 d Shard.Abort s = rw (and-false (bytes_eq d d0), and-false (shard == s)) refl

-- ---- transactions told

listed : (tx : Transaction) (txs : List Transaction) → is_listed tx txs ≡ list_any (bytes_eq tx.digest) (digests_of txs)
listed tx [] = refl
listed tx (other ∷ txs) = ap (λ b. bytes_eq tx.digest other.digest || b) (listed tx txs)

told-after : (tx : Transaction) (d : Bytes) (txs : List Transaction) (digests : List Bytes) (all : Bool) → tx.digest ≡ d → digests ≡ digests_of txs
    → cond all (with_aborted_digest d digests) digests ≡ digests_of (cond (all && not (is_listed tx txs)) (txs ++ tx ∷ []) txs)
told-after tx d txs digests false named is = is
told-after tx d txs digests true named is = by (is_listed tx txs) refl
  where
    found : list_any (bytes_eq d) digests ≡ is_listed tx txs
    found = rw (is, ← named) (sym (listed tx txs))

    by : (b : Bool) → is_listed tx txs ≡ b → with_aborted_digest d digests ≡ digests_of (cond (not (is_listed tx txs)) (txs ++ tx ∷ []) txs)
    by true e = rw (found, e) is
    by false e = rw (found, e) (ap (λ ds. ds ++ d ∷ []) is ∙ ap (λ x. digests_of txs ++ x ∷ []) (sym named) ∙ sym (map-append (λ t. t.digest) txs (tx ∷ [])))

-- ---- one more execution

length-set : (xs : List ℕ) (i x : ℕ) → length (slice_set xs i x) ≡ length xs
length-set xs i x = search rules

module _ (setup : Setup) (kept : KeptHistory) (firsts : List Execution) (shard slot place : ℕ) (k : KeepsHistory setup firsts kept) (known : shard < kept.config.shards) where
  abbrev first : Action → Shard.Effect → Execution
  first entry effect = record { shard = shard; slot = slot; place = place; entry = entry; effect = effect }

  within : shard < length kept.slots
  within = subst (λ n. shard < n) (sym k.each) known

  within_places : shard < length kept.places
  within_places = subst (λ n. shard < n) (sym k.each_place) known

  each : length (entered_place kept shard slot place).slots ≡ kept.config.shards
  each = length-set kept.slots shard (slot + 1) ∙ k.each

  each_place : length (entered_place kept shard slot place).places ≡ kept.config.shards
  each_place = length-set kept.places shard place ∙ k.each_place

  -- the newest execution of each shard
  newest-next : (entry : Action) (effect : Shard.Effect) (s : ℕ) (f : Option Execution → ℕ) (x : ℕ) → x ≡ f (Some (first entry effect))
      → cond (shard == s) x (f (newest_of s firsts)) ≡ f (newest_of s (first entry effect ∷ firsts))
  newest-next entry effect s f x is = by (shard == s)
    where
      by : (b : Bool) → cond b x (f (newest_of s firsts)) ≡ f (cond b (Some (first entry effect)) (newest_of s firsts))
      by true = is
      by false = refl

  slots : (entry : Action) (effect : Shard.Effect) (s : ℕ) → s < kept.config.shards → slice_index (entered_place kept shard slot place).slots s ≡ slot_after (newest_of s (first entry effect ∷ firsts))
  slots entry effect s below = set-next kept.slots shard s (slot + 1) _ within (k.slots s below) ∙ newest-next entry effect s slot_after (slot + 1) (omega arith)

  places : (entry : Action) (effect : Shard.Effect) (s : ℕ) → s < kept.config.shards → slice_index (entered_place kept shard slot place).places s ≡ place_in (newest_of s (first entry effect ∷ firsts))
  places entry effect s below = set-next kept.places shard s place _ within_places (k.places s below) ∙ newest-next entry effect s place_in place refl

  decided : (vote : Vote) (x : Session) (effect : Shard.Effect) → KeepsHistory setup (first (Decide vote x) effect ∷ firsts) (entered_place kept shard slot place)
  decided vote x effect = record {
    deploys = k.deploys;
    each = each;
    each_place = each_place;
    slots = slots (Decide vote x) effect;
    places = places (Decide vote x) effect;
    commits = λ d s. k.commits d s ∙ sym (ap (λ b. b || is_recorded setup firsts d Shard.Commit s) (and-false (shard == s)));
    told = k.told;
  }

  -- a Prepare that was answered by no vote
  unvoted : (x : Session) (effect : Shard.Effect) → is_vote Shard.Commit effect ≡ false → is_voted effect ≡ false → KeepsHistory setup (first (Prepare x) effect ∷ firsts) (entered_place kept shard slot place)
  unvoted x effect other none = record {
    deploys = k.deploys;
    each = each;
    each_place = each_place;
    slots = slots (Prepare x) effect;
    places = places (Prepare x) effect;
    commits = λ d s.
        k.commits d s
        ∙ sym (ap (λ b. b || is_recorded setup firsts d Shard.Commit s)
        (ap (λ b. (shard == s) && (bytes_eq d (digest_of setup x) && b)) other ∙ ap (λ b. (shard == s) && b) (and-false (bytes_eq d (digest_of setup x))) ∙ and-false (shard == s)));
    told = rw none k.told;
  }

  module _ (x : Session) (vote : Shard.Vote) where
    abbrev here : Execution
    here = first (Prepare x) (Shard.Voted vote)

    votes : (d : Bytes) (s : ℕ) → is_commit (after_vote (entered_place kept shard slot place) shard (digest_of_session x) vote).commits d s ≡ is_recorded setup (here ∷ firsts) d Shard.Commit s
    votes d s =
        votes-next (entered_place kept shard slot place) shard (digest_of_session x) d vote s
        ∙ ap (λ e. ((shard == s) && (bytes_eq d e && is_vote Shard.Commit (Shard.Voted vote))) || is_commit kept.commits d s) (sym (k.deploys.session x))
        ∙ ap (λ b. ((shard == s) && (bytes_eq d (digest_of setup x) && is_vote Shard.Commit (Shard.Voted vote))) || b) (k.commits d s)

    all_votes : all_voted_commit kept.config (after_vote (entered_place kept shard slot place) shard (digest_of_session x) vote).commits x ≡ all_recorded setup (here ∷ firsts) x
    all_votes =
        list_all-same _ (is_recorded setup (here ∷ firsts) (digest_of setup x) Shard.Commit)
        (λ s. votes (digest_of_session x) s ∙ ap (λ d. is_recorded setup (here ∷ firsts) d Shard.Commit s) (sym (k.deploys.session x)))
        (concerned_shards kept.config x)
        ∙ ap (λ shards. list_all (is_recorded setup (here ∷ firsts) (digest_of setup x) Shard.Commit) shards) (sym (k.deploys.concerns x))

    -- what the vote leaves but for the commits
    same-rest : (after_vote (entered_place kept shard slot place) shard (digest_of_session x) vote) ≡ record (entered_place kept shard slot place) { commits = (after_vote (entered_place kept shard slot place) shard (digest_of_session x) vote).commits }
    same-rest = by vote
      where
        by : (v : Shard.Vote) → (after_vote (entered_place kept shard slot place) shard (digest_of_session x) v) ≡ record (entered_place kept shard slot place) { commits = (after_vote (entered_place kept shard slot place) shard (digest_of_session x) v).commits }
        by Shard.Commit = refl
        by Shard.Abort = refl

    voted-on : KeepsHistory setup (here ∷ firsts) (told_next (record (entered_place kept shard slot place) { commits = (after_vote (entered_place kept shard slot place) shard (digest_of_session x) vote).commits }) x)
    voted-on = record {
      deploys = k.deploys;
      each = each;
      each_place = each_place;
      slots = slots (Prepare x) (Shard.Voted vote);
      places = places (Prepare x) (Shard.Voted vote);
      commits = votes;
      told =
          ap (λ b. cond b (with_aborted_digest (digest_of_tx x.tx) kept.told) kept.told) all_votes
          ∙ told-after (setup.session_of x).transaction (digest_of_tx x.tx) (told_transactions setup firsts) kept.told (all_recorded setup (here ∷ firsts) x) (k.deploys.transaction x) k.told;
    }

    prepared-on : KeepsHistory setup (here ∷ firsts) (after_execution (entered_place kept shard slot place) shard (Prepare x) (Shard.Voted vote))
    prepared-on = subst (λ (after : KeptHistory). KeepsHistory setup (here ∷ firsts) (told_next after x)) (sym same-rest) voted-on

  new-slot : (entry : Action) (effect : Shard.Effect) → KeepsHistory setup (first entry effect ∷ firsts) (after_execution (entered_place kept shard slot place) shard entry effect)
  new-slot (Prepare x) (Shard.Voted vote) = prepared-on x vote
  new-slot (Prepare x) Shard.Accepted = unvoted x Shard.Accepted refl refl
  new-slot (Prepare x) Shard.Aborted = unvoted x Shard.Aborted refl refl
  new-slot (Prepare x) Shard.Skipped = unvoted x Shard.Skipped refl refl
  new-slot (Prepare x) Shard.Void = unvoted x Shard.Void refl refl
  new-slot (Decide vote x) effect = decided vote x effect

  -- what is kept after an execution stands for the first executions after it
  pub keeps-after : (entry : Action) (effect : Shard.Effect) → KeepsHistory setup (with_first_execution shard (Did slot place entry effect) firsts) (kept_after kept shard slot place entry effect)
  keeps-after entry effect =
      let newest = newest_of shard firsts in
      let is : is_new kept shard slot place ≡ is_after slot place newest =
      (λ i. nat_lt (k.slots shard known i) (slot + 1) || ((k.slots shard known i == slot + 1) && nat_lt (k.places shard known i) place)) ∙ new-is slot place newest in
      subst (λ (b : Bool). KeepsHistory setup (with_first_execution shard (Did slot place entry effect) firsts) (cond b (after_execution (entered_place kept shard slot place) shard entry effect) kept)) (sym is)
      (by (is_after slot place newest))
    where
      by : (b : Bool) → KeepsHistory setup (cond b (first entry effect ∷ firsts) firsts) (cond b (after_execution (entered_place kept shard slot place) shard entry effect) kept)
      by true = new-slot entry effect
      by false = k

-- aborts are nothing to the history
keeps-aborted : (setup : Setup) (firsts : List Execution) (kept : KeptHistory) (aborted : List Bytes) → KeepsHistory setup firsts kept → KeepsHistory setup firsts (record kept { aborted = aborted })
keeps-aborted setup firsts kept aborted k = record { deploys = k.deploys; each = k.each; each_place = k.each_place; slots = k.slots; places = k.places; commits = k.commits; told = k.told }

-- the outcome of a call that leaves what is kept after an execution, and notes aborts
module _ (setup : Setup) (kept entered left : KeptHistory) (aborted : List Bytes) (firsts : List Execution) (shard slot place : ℕ) (entry : Action) (effect : Shard.Effect) where
  abbrev after : List Execution
  after = with_first_execution shard (Did slot place entry effect) firsts

  pub keeps-on_ok : {T E : Type 0} (r : Result T E) → KeepsHistory setup firsts kept → shard < kept.config.shards → (shard < kept.config.shards → entered ≡ kept_after kept shard slot place entry effect)
      → OnOk r (left ≡ record entered { aborted = aborted }) → OnOk r (KeepsHistory setup after left)
  keeps-on_ok (Ok x) k known is rest =
      let kept-there = subst (λ (h : KeptHistory). KeepsHistory setup after h) (sym (is known)) (keeps-after setup kept firsts shard slot place k known entry effect) in
      subst (λ (h : KeptHistory). KeepsHistory setup after h) (sym rest) (keeps-aborted setup after entered aborted kept-there)
  keeps-on_ok (Err e) k known is rest = tt
