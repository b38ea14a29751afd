-- The votes that are kept are those in the logs.
use Rattle.std.proofs.Common.{◌≡◌, ℕ, suc, ◌+◌, ◌-◌, ◌==◌, nat_eq, nat_le, Bool, true, false, ◌&&◌, ◌||◌, List, [], ◌∷◌, ◌++◌, refl, ap, sym, ◌∙◌, arith}
use Rattle.std.specs.Prelude.{if◌then◌else◌, bytes_eq}
use Rattle.std.specs.List.{list_any}
use Rattle.cs_base.specs.declared.config.Config.{Config}
use Rattle.cs_tx_value.specs.declared.object.Object.{Object}
use Rattle.cs_tx_types.specs.declared.effect.Effect.{Effect}
use Rattle.cs_tx_types.specs.declared.effect.Effect.TheVariants as effect
use Rattle.cs_tx_types.specs.declared.vote.Vote.TheVariants as vote
use Rattle.cs_tx_types.specs.declared.action.Action.{Action}
use Rattle.cs_tx_types.specs.declared.action.Action.TheVariants.{Prepare, Decide}
use Rattle.cs_tx_types.specs.declared.leaf.Leaf.{Leaf}
use Rattle.cs_tx_types.specs.declared.transaction.Tx.{Tx}
use Rattle.cs_tx.specs.Digest.{digest_of_session}
use Rattle.cs_ledger.specs.Ledger.{Bytes}
use Rattle.cs_ledger.specs.ShardWorld.{is_vote}
use Rattle.cs_ledger.specs.Table.{Vote, Commit, Abort}
use Rattle.cs_ledger.proofs.Basics.{same_bytes}
use Rattle.cs_table.specs.Effects.{effect_of}
use Rattle.cs_node_state.specs.Setup.{Setup, prepares}
use Rattle.cs_tx_types.specs.Session.{session_in}
use Rattle.cs_node_pool.specs.Deployed.{deployed_setup}
use Rattle.cs_audit_dump.specs.declared.dump.Log.{Log}
use Rattle.cs_audit_rules.specs.Support.{has_vote, log_at}
use Rattle.cs_audit.specs.Votes.{KeptVotes}
use Rattle.cs_audit.specs.Kept.{no_votes, is_kept, with_shard_digest, votes_noted, digest_of_leaf, log_votes, logs_votes, KeepsVotes}

-- ---- pairs

or-false : (b : Bool) → b ≡ (b || false)
or-false true = refl
or-false false = refl

or-assoc : (a b c : Bool) → ((a || b) || c) ≡ (a || (b || c))
or-assoc true b c = refl
or-assoc false b c = refl

abbrev is_pair : ℕ → Bytes → ℕ × Bytes → Bool
is_pair n q pair = (n == pair.0) && bytes_eq q pair.1

kept-append : (q : Bytes) (n : ℕ) (xs ys : List (ℕ × Bytes)) → is_kept (xs ++ ys) q n ≡ (is_kept xs q n || is_kept ys q n)
kept-append q n [] ys = refl
kept-append q n (x ∷ xs) ys = ap (λ b. is_pair n q x || b) (kept-append q n xs ys) ∙ sym (or-assoc (is_pair n q x) (is_kept xs q n) (is_kept ys q n))

kept-with : (s : ℕ) (d q : Bytes) (n : ℕ) (pairs : List (ℕ × Bytes)) → is_kept (with_shard_digest s d pairs) q n ≡ (is_kept pairs q n || ((n == s) && bytes_eq q d))
kept-with s d q n pairs = by (is_kept pairs d s) refl
  where
    there : (a b : Bool) → is_kept pairs d s ≡ true → (n == s) ≡ a → bytes_eq q d ≡ b → is_kept pairs q n ≡ (is_kept pairs q n || (a && b))
    there true true among same_n same_q =
        let at : is_kept pairs q n ≡ true = (λ i. is_kept pairs (same_bytes q d same_q i) (number i)) ∙ among in
        at ∙ sym (ap (λ b. b || true) at)
      where
        number : n ≡ s
        number = grind (arith, same_n)
    there true false among same_n same_q = or-false (is_kept pairs q n)
    there false b among same_n same_q = or-false (is_kept pairs q n)

    by : (b : Bool) → is_kept pairs d s ≡ b → is_kept (if b then pairs else pairs ++ (s, d) ∷ []) q n ≡ (is_kept pairs q n || ((n == s) && bytes_eq q d))
    by true among = there (n == s) (bytes_eq q d) among refl refl
    by false among = kept-append q n pairs ((s, d) ∷ []) ∙ ap (λ b. is_kept pairs q n || b) (sym (or-false ((n == s) && bytes_eq q d)))

-- ---- leaves

-- the pairs of a vote
abbrev pub kept_of : Vote → KeptVotes → List (ℕ × Bytes)
kept_of Commit votes = votes.commits
kept_of Abort votes = votes.aborts

module _ (config : Config) (objects : List Object) (approves : Tx → Bool) (way : Vote) (q : Bytes) (n : ℕ) where
  abbrev setup : Setup
  setup = deployed_setup config objects approves

  abbrev is : KeptVotes → Bool
  is votes = is_kept (kept_of way votes) q n

  abbrev votes_so : Leaf → Bool
  votes_so leaf = prepares setup q leaf.action && is_vote way (effect_of leaf.result)

  -- a leaf that is no such vote
  other : (s : ℕ) (b : Bool) (votes : KeptVotes) → is votes ≡ (is votes || ((n == s) && (b && false)))
  other s b votes = by (is votes) (n == s) b
    where
      by : (k a b : Bool) → k ≡ (k || (a && (b && false)))
      by true a b = refl
      by false true true = refl
      by false true false = refl
      by false false b = refl

  decided : (s : ℕ) (b : Bool) (votes : KeptVotes) → is votes ≡ (is votes || ((n == s) && (false && b)))
  decided s b votes = by (is votes) (n == s)
    where
      by : (k a : Bool) → k ≡ (k || (a && false))
      by true a = refl
      by false true = refl
      by false false = refl

  such : (k a b : Bool) → (k || (a && b)) ≡ (k || (a && (b && true)))
  such k a true = refl
  such k a false = refl

  one-noted : (s : ℕ) (entry : Action) (result : Effect) (votes : KeptVotes) → is (votes_noted s entry result (digest_of_session (session_in entry)) votes)
      ≡ (is votes || ((n == s) && (prepares setup q entry && is_vote way (effect_of result))))
  one-noted s (Decide v x) result votes = decided s (is_vote way (effect_of result)) votes
  one-noted s (Prepare x) (effect.Voted vote.Commit) votes = at way
    where
      at : (v : Vote) → is_kept (kept_of v (votes_noted s (Prepare x) (effect.Voted vote.Commit) (digest_of_session x) votes)) q n
          ≡ (is_kept (kept_of v votes) q n || ((n == s) && (prepares setup q (Prepare x) && is_vote v (effect_of (effect.Voted vote.Commit)))))
      at Commit = kept-with s (digest_of_session x) q n votes.commits ∙ such (is_kept votes.commits q n) (n == s) (bytes_eq q (digest_of_session x))
      at Abort = quiet (is_kept votes.aborts q n) (n == s) (bytes_eq q (digest_of_session x))
        where
          quiet : (k a b : Bool) → k ≡ (k || (a && (b && false)))
          quiet true a b = refl
          quiet false true true = refl
          quiet false true false = refl
          quiet false false b = refl
  one-noted s (Prepare x) (effect.Voted vote.Abort) votes = at way
    where
      at : (v : Vote) → is_kept (kept_of v (votes_noted s (Prepare x) (effect.Voted vote.Abort) (digest_of_session x) votes)) q n
          ≡ (is_kept (kept_of v votes) q n || ((n == s) && (prepares setup q (Prepare x) && is_vote v (effect_of (effect.Voted vote.Abort)))))
      at Abort = kept-with s (digest_of_session x) q n votes.aborts ∙ such (is_kept votes.aborts q n) (n == s) (bytes_eq q (digest_of_session x))
      at Commit = quiet (is_kept votes.commits q n) (n == s) (bytes_eq q (digest_of_session x))
        where
          quiet : (k a b : Bool) → k ≡ (k || (a && (b && false)))
          quiet true a b = refl
          quiet false true true = refl
          quiet false true false = refl
          quiet false false b = refl
  one-noted s (Prepare x) effect.Accepted votes = other s (prepares setup q (Prepare x)) votes
  one-noted s (Prepare x) effect.Aborted votes = other s (prepares setup q (Prepare x)) votes
  one-noted s (Prepare x) effect.Skipped votes = other s (prepares setup q (Prepare x)) votes
  one-noted s (Prepare x) effect.Void votes = other s (prepares setup q (Prepare x)) votes

  spread : (k a b c : Bool) → ((k || (a && b)) || (a && c)) ≡ (k || (a && (b || c)))
  spread true a b c = refl
  spread false true b c = refl
  spread false false b c = refl

  of-leaves : (s : ℕ) (leaves : List Leaf) (votes : KeptVotes) → is (log_votes s leaves votes) ≡ (is votes || ((n == s) && list_any votes_so leaves))
  of-leaves s [] votes = none (is votes) (n == s)
    where
      none : (k a : Bool) → k ≡ (k || (a && false))
      none true a = refl
      none false true = refl
      none false false = refl
  of-leaves s (leaf ∷ leaves) votes =
      of-leaves s leaves (votes_noted s leaf.action leaf.result (digest_of_leaf leaf) votes)
      ∙ ap (λ b. b || ((n == s) && list_any votes_so leaves)) (one-noted s leaf.action leaf.result votes)
      ∙ spread (is votes) (n == s) (votes_so leaf) (list_any votes_so leaves)

  -- ---- logs

  of-logs : (s : ℕ) (logs : List Log) (votes : KeptVotes) → is (logs_votes s logs votes) ≡ (is votes || (nat_le s n && has_vote setup way q (log_at logs (n - s))))
  of-logs s [] votes = none (is votes) (nat_le s n)
    where
      none : (k a : Bool) → k ≡ (k || (a && false))
      none true a = refl
      none false true = refl
      none false false = refl
  of-logs s (log ∷ logs) votes =
      of-logs (s + 1) logs (log_votes s log.leaves votes)
      ∙ ap (λ b. b || (nat_le (s + 1) n && has_vote setup way q (log_at logs (n - (s + 1))))) (of-leaves s log.leaves votes)
      ∙ by_place (nat_le s n) (nat_eq n s) refl refl
    where
      here : Bool
      here = list_any votes_so log.leaves

      or-more : (k a : Bool) → ((k || false) || a) ≡ (k || a)
      or-more true a = refl
      or-more false a = refl

      by_place : (low same : Bool) → nat_le s n ≡ low → nat_eq n s ≡ same
          → ((is votes || ((n == s) && here)) || (nat_le (s + 1) n && has_vote setup way q (log_at logs (n - (s + 1)))))
          ≡ (is votes || (nat_le s n && has_vote setup way q (log_at (log ∷ logs) (n - s))))
      by_place true true low same =
          let e : n ≡ s = grind (arith, same) in
          let later : nat_le (s + 1) n ≡ false = grind (arith, e) in
          let zero_at : n - s ≡ 0 = omega (arith, e) in
          (λ i. (is votes || (same i && here)) || (later i && has_vote setup way q (log_at logs (n - (s + 1)))))
          ∙ sym (or-false (is votes || here))
          ∙ sym (λ i. is votes || (low i && has_vote setup way q (log_at (log ∷ logs) (zero_at i))))
      by_place true false low differs =
          let later : nat_le (s + 1) n ≡ true = grind (arith, low, differs) in
          let next : n - s ≡ suc (n - (s + 1)) = grind (arith, low, differs) in
          (λ i. (is votes || (differs i && here)) || (later i && has_vote setup way q (log_at logs (n - (s + 1)))))
          ∙ or-more (is votes) (has_vote setup way q (log_at logs (n - (s + 1))))
          ∙ sym (λ i. is votes || (low i && has_vote setup way q (log_at (log ∷ logs) (next i))))
      by_place false true low same = let e : n ≡ s = grind (arith, same) in let q : nat_le s n ≡ true = grind (arith, e) in let z : true ≡ false = sym q ∙ low in cc
      by_place false false low differs =
          let later : nat_le (s + 1) n ≡ false = grind (arith, low) in
          (λ i. (is votes || (differs i && here)) || (later i && has_vote setup way q (log_at logs (n - (s + 1)))))
          ∙ or-more (is votes) false
          ∙ sym (λ i. is votes || (low i && has_vote setup way q (log_at (log ∷ logs) (n - s))))

pub keeps : (config : Config) (objects : List Object) (approves : Tx → Bool) (logs : List Log) (votes : KeptVotes) → votes ≡ logs_votes 0 logs no_votes → KeepsVotes (deployed_setup config objects approves) logs votes
keeps config objects approves logs votes is = record {
  commits = λ d shard. ap (λ v. is_kept v.commits d shard) is ∙ of-logs config objects approves Commit d shard 0 logs no_votes ∙ whole (has_vote (deployed_setup config objects approves) Commit d) shard;
  aborts = λ d shard. ap (λ v. is_kept v.aborts d shard) is ∙ of-logs config objects approves Abort d shard 0 logs no_votes ∙ whole (has_vote (deployed_setup config objects approves) Abort d) shard;
}
  where
    whole : (f : Log → Bool) (shard : ℕ) → (nat_le 0 shard && f (log_at logs (shard - 0))) ≡ f (log_at logs shard)
    whole f shard =
        let low : nat_le 0 shard ≡ true = grind arith in
        let same : shard - 0 ≡ shard = omega arith in
        λ i. low i && f (log_at logs (same i))
