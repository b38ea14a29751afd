-- The shards together: one log each, with no node, message or quorum.
use Rattle.std.specs.Prelude.{◌≡◌, ℕ, Bool, true, false, not, ◌&&◌, ◌||◌, List, [], ◌∷◌, ◌++◌, bytes_eq, ◌==◌, if◌then◌else◌}
use Rattle.cs_base.specs.Lists.{IsIn}
use Rattle.cs_ledger.specs.Ledger.{Bytes, Item, Transaction, names, all_differ}
use Rattle.cs_ledger.specs.Session.{Session, AreToldApart, Rules, all_items, concerns, well_formed}
use Rattle.cs_ledger.specs.Table.{Vote, Commit, Abort, Entry, Prepare, Decide, Effect, Voted, Accepted, Aborted, table_of, exec, session_of}

-- an entry is appended to the log of a shard
pub record Step : Type 0 where
  pub shard : ℕ
  pub entry : Entry

-- what happened so far is a list of steps, newest first; so is the log of a shard
abbrev pub log : ℕ → List Step → List Entry
log shard [] = []
log shard (step ∷ earlier) = if step.shard == shard then step.entry ∷ log shard earlier else log shard earlier

abbrev pub vote_eq : Vote → Vote → Bool
vote_eq Commit Commit = true
vote_eq Abort Abort = true
vote_eq Commit Abort = false
vote_eq Abort Commit = false

abbrev pub is_vote : Vote → Effect → Bool
is_vote vote (Voted other) = vote_eq vote other
is_vote vote _ = false

abbrev pub is_prepare_of : Bytes → Entry → Bool
is_prepare_of d (Prepare x) = bytes_eq d x.digest
is_prepare_of d (Decide x vote) = false

-- a shard votes so on a session: a Prepare of it in the log has that effect
abbrev pub votes_in : Rules → ℕ → Bytes → Vote → List Entry → Bool
votes_in rules shard d vote [] = false
votes_in rules shard d vote (entry ∷ earlier) =
    (is_prepare_of d entry && is_vote vote (exec rules shard (table_of rules shard earlier) entry).effect)
    || votes_in rules shard d vote earlier

abbrev pub shard_votes : Rules → List Step → ℕ → Session → Vote → Bool
shard_votes rules past shard x vote = votes_in rules shard x.digest vote (log shard past)

-- the shard of each of these objects votes so
abbrev pub all_vote : Rules → List Step → Session → Vote → List Item → Bool
all_vote rules past x vote [] = true
all_vote rules past x vote (item ∷ items) =
    shard_votes rules past (rules.shard_of item.name) x vote && all_vote rules past x vote items

abbrev pub one_votes : Rules → List Step → Session → Vote → List Item → Bool
one_votes rules past x vote [] = false
one_votes rules past x vote (item ∷ items) =
    shard_votes rules past (rules.shard_of item.name) x vote || one_votes rules past x vote items

-- every concerned shard votes commit
abbrev pub all_commit : Rules → List Step → Session → Bool
all_commit rules past x = all_vote rules past x Commit (all_items x.transaction)

-- a concerned shard votes abort
abbrev pub one_aborts : Rules → List Step → Session → Bool
one_aborts rules past x = one_votes rules past x Abort (all_items x.transaction)

-- a step that may be taken
abbrev pub IsAllowed : Rules → List Step → ℕ → Entry → Type 0
IsAllowed rules past shard (Prepare x) =
    (well_formed rules x ≡ true) × (concerns rules x shard ≡ true) × (x.transaction.approved ≡ true)
IsAllowed rules past shard (Decide x Commit) = (concerns rules x shard ≡ true) × (all_commit rules past x ≡ true)
IsAllowed rules past shard (Decide x Abort) = (concerns rules x shard ≡ true) × (one_aborts rules past x ≡ true)

abbrev pub AllAllowed : Rules → List Step → Type 0
AllAllowed rules [] = Unit {0}
AllAllowed rules (step ∷ earlier) = IsAllowed rules earlier step.shard step.entry × AllAllowed rules earlier

abbrev pub is_listed : Transaction → List Transaction → Bool
is_listed tx [] = false
is_listed tx (other ∷ others) = bytes_eq tx.digest other.digest || is_listed tx others

abbrev pub history_after : Rules → List Step → Entry → List Transaction → List Transaction
history_after rules past (Prepare x) earlier =
    if all_commit rules past x && not (is_listed x.transaction earlier)
    then earlier ++ x.transaction ∷ []
    else earlier
history_after rules past (Decide x vote) earlier = earlier

-- the transactions, in the order in which their last commit vote came, oldest first
abbrev pub history : Rules → List Step → List Transaction
history rules [] = []
history rules (step ∷ earlier) = history_after rules (step ∷ earlier) step.entry (history rules earlier)

-- the sessions of these steps
abbrev pub sessions : List Step → List Session
sessions [] = []
sessions (step ∷ earlier) = session_of step.entry ∷ sessions earlier

-- the sessions of a log
abbrev pub sessions_of : List Entry → List Session
sessions_of [] = []
sessions_of (entry ∷ earlier) = session_of entry ∷ sessions_of earlier

abbrev pub is_effect : Effect → Effect → Bool
is_effect Accepted Accepted = true
is_effect Aborted Aborted = true
is_effect _ _ = false

abbrev pub is_decide_of : Bytes → Entry → Bool
is_decide_of d (Prepare x) = false
is_decide_of d (Decide x vote) = bytes_eq d x.digest

-- a Decide of the session in the log took that effect
abbrev pub decided_in : Rules → ℕ → Bytes → Effect → List Entry → Bool
decided_in rules shard d effect [] = false
decided_in rules shard d effect (entry ∷ earlier) =
    (is_decide_of d entry && is_effect effect (exec rules shard (table_of rules shard earlier) entry).effect)
    || decided_in rules shard d effect earlier

abbrev pub decides : Rules → List Step → ℕ → Session → Effect → Bool
decides rules past shard x effect = decided_in rules shard x.digest effect (log shard past)

-- digests tell sessions and transactions apart, and names outputs and genesis objects
pub record AreNamedApart (genesis : List Item) (known : List Session) : Type 0 where
  pub session : AreToldApart known
  pub transaction : (x y : Session) → IsIn x known → IsIn y known →
      x.transaction.digest ≡ y.transaction.digest → x.transaction ≡ y.transaction
  pub outputs : (x y : Session) (a b : Item) → IsIn x known → IsIn y known →
      IsIn a x.transaction.outputs → IsIn b y.transaction.outputs → a.name ≡ b.name →
      x.transaction.digest ≡ y.transaction.digest
  pub places : (x : Session) → IsIn x known → all_differ (names x.transaction.outputs) ≡ true
  pub genesis_names : (x : Session) (a : Item) → IsIn x known → IsIn a x.transaction.outputs →
      IsIn a.name (names genesis) → ⊥

-- a list of allowed steps whose digests and names do not collide
abbrev pub IsShardWorld : Rules → List Step → Type 0
IsShardWorld rules past = AllAllowed rules past × AreNamedApart rules.genesis (sessions past)
