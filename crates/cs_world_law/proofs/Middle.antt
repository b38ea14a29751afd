-- What the theorem on the shards together says of first executions.
use Rattle.std.proofs.Common.{◌≡◌, inl, inr, ℕ, true, false, ◌&&◌, List, [], ◌∷◌, ◌++◌, length, map, refl, sym, ap, ◌∙◌, subst, arith}
use Rattle.std.proofs.lemmas.Bool.{and_parts, or_cases, both_ways}
use Rattle.cs_base.specs.Lists.{IsIn}
use Rattle.cs_base.specs.declared.node_id.NodeId.{NodeId}
use Rattle.cs_tx_types.specs.declared.session.Session.{Session}
use Rattle.cs_ledger.specs.Ledger.{Bytes, Item, Transaction, Ledger, Serial, uses_once, ledger_after}
use Rattle.cs_ledger.specs.Session as Seen
use Rattle.cs_ledger.specs.Session.{all_items}
use Rattle.cs_ledger.specs.Table.{Vote, Commit, Effect, Entry, Prepare, Decide, table_of, exec, session_of}
use Rattle.cs_ledger.specs.ShardWorld.{Step, log, is_vote, is_effect, is_prepare_of, is_decide_of, votes_in, decided_in, all_commit, sessions, IsShardWorld, AreNamedApart}
use Rattle.cs_ledger.specs.ShardWorld as World
use Rattle.cs_ledger.proofs.Basics.{same_bytes}
use Rattle.cs_ledger.proofs.Strings.{no_collision_within}
use Rattle.cs_ledger.proofs.Votes.{log_at, all_more}
use Rattle.cs_node_state.specs.Setup.{Setup, entry_of}
use Rattle.cs_node_rules.specs.Site.{Site}
use Rattle.cs_node_rules.specs.World.{Execution, steps_of, count_executed, told_transactions, is_recorded, all_recorded}
use Rattle.cs_node_law.specs.Made.{view_at}
use Rattle.cs_node_law.proofs.Views.{me-same}
use Rattle.cs_node_law.proofs.Logs.{seen, seen_log, table-is}
use Rattle.cs_world_law.specs.Worlds.{is_honest}
use Rattle.cs_world_law.specs.Steps.{AllComputed}
use Rattle.cs_world_law.specs.Chain.{Moment, trail_at, Known, Story, IsSoundSite, story_firsts, shard_entries}
use Rattle.cs_world_law.proofs.Lawful.{AreLawful}
use Rattle.cs_world_law.proofs.Older.{older-all}
use Rattle.cs_world_law.proofs.Firsts.{own_log, counted-entries, log-seen, are-first}
use Rattle.cs_world_law.proofs.Local.{map-in}
use Rattle.cs_world_law.proofs.Allowed.{AreFine}
use Rattle.cs_world_law.proofs.Told.{recorded-is, all-recorded-is, told-is}

-- ---- the theorem on the shards together

-- first executions, as that theorem sees them
pub record IsMiddle {M : Type 0} (site : Site M) (known : Known) (firsts : List Execution) : Type 0 where
  pub world_is : IsShardWorld site.setup.rules (steps_of site.setup firsts)
  pub within : (x : Seen.Session) → IsIn x (sessions (steps_of site.setup firsts)) → IsIn x (map site.setup.session_of known.sessions)
  pub history_is : told_transactions site.setup firsts ≡ World.history site.setup.rules (steps_of site.setup firsts)
  pub recorded_is : (d : Bytes) (vote : Vote) (shard : ℕ) → is_recorded site.setup firsts d vote shard ≡ votes_in site.setup.rules shard d vote (log shard (steps_of site.setup firsts))
  pub all_recorded_is : (x : Session) → all_recorded site.setup firsts x ≡ all_commit site.setup.rules (steps_of site.setup firsts) (site.setup.session_of x)

pub middle : {M : Type 0} (site : Site M) (sound : IsSoundSite site) (known : Known) → AreNamedApart site.setup.rules.genesis (map site.setup.session_of known.sessions)
    → (firsts : List Execution) → AreFine site known firsts → AllComputed site.setup firsts → IsMiddle site known firsts
middle {M} site sound known apart firsts fine came = record {
  world_is = (fine.allowed, no_collision_within site.setup.rules.genesis (map site.setup.session_of known.sessions) _ fine.within apart);
  within = fine.within;
  history_is = told-is site.setup sound.bound firsts came fine.allowed;
  recorded_is = λ d vote shard. recorded-is site.setup sound.bound firsts d vote shard came;
  all_recorded_is = λ x. all-recorded-is site.setup sound.bound firsts x came;
}

module _ {M : Type 0} (site : Site M) (sound : IsSoundSite site) (known : Known) (lawful : AreLawful site known) where
  -- the log of a node that has executed all of its shard
  pub whole-log : (story : List (Moment M)) (i : NodeId) → Story site known story → is_honest site i ≡ true → length (own_log i story) ≡ count_executed i.shard (story_firsts story) → own_log i story ≡ shard_entries i.shard (story_firsts story)
  whole-log story i story_is honest all =
      let own = (are-first site sound known lawful i.shard story story_is).older i honest refl in
      let size = counted-entries i.shard (story_firsts story) in
      own.is ∙ older-all (length (own_log i story)) (shard_entries i.shard (story_firsts story)) (omega arith)

  -- and its table
  pub whole-table : (story : List (Moment M)) (i : NodeId) → Story site known story → is_honest site i ≡ true → length (own_log i story) ≡ count_executed i.shard (story_firsts story)
      → (view_at site i (trail_at i story)).bench.table ≡ table_of site.setup.rules i.shard (log i.shard (steps_of site.setup (story_firsts story)))
  whole-table story i story_is honest all =
      table-is site i (trail_at i story)
      ∙ ap (λ (n : NodeId). table_of site.setup.rules n.shard (seen_log site (trail_at i story))) (me-same site i (trail_at i story))
      ∙ ap (λ l. table_of site.setup.rules i.shard (seen site.setup l)) (whole-log story i story_is honest all)
      ∙ ap (λ l. table_of site.setup.rules i.shard l) (sym (log-seen site.setup i.shard (story_firsts story)))

-- ---- what was voted on or decided is a session of the steps

decide-digest : (d : Bytes) (entry : Entry) → is_decide_of d entry ≡ true → d ≡ (session_of entry).digest
decide-digest d (Decide x vote) e = same_bytes d x.digest e
decide-digest d (Prepare x) e = absurd (both_ways false refl e)

prepare-digest : (d : Bytes) (entry : Entry) → is_prepare_of d entry ≡ true → d ≡ (session_of entry).digest
prepare-digest d (Prepare x) e = same_bytes d x.digest e
prepare-digest d (Decide x vote) e = absurd (both_ways false refl e)

abbrev pub HasSession : List Step → Bytes → Type 0
HasSession past d = (x : Seen.Session) × (IsIn x (sessions past)) × (d ≡ x.digest)

more-sessions : (step : Step) (past : List Step) (d : Bytes) → HasSession past d → HasSession (step ∷ past) d
more-sessions step past d h = (h.0, inr h.1, h.2)

pub decided-session : (rules : Seen.Rules) (shard : ℕ) (d : Bytes) (effect : Effect) (past : List Step) → decided_in rules shard d effect (log shard past) ≡ true → HasSession past d
decided-session rules shard d effect [] h = absurd (both_ways false refl h)
decided-session rules shard d effect (step ∷ past) h =
    log_at (λ l. decided_in rules shard d effect l ≡ true → HasSession (step ∷ past) d) shard step past
    (λ at e. elim (or_cases (is_decide_of d step.entry && is_effect effect (exec rules shard (table_of rules shard (log shard past)) step.entry).effect) _ e) [
      | inl now ↦ (session_of step.entry, inl refl, decide-digest d step.entry (and_parts (is_decide_of d step.entry) _ now).0)
      | inr before ↦ more-sessions step past d (decided-session rules shard d effect past before)
    ])
    (λ e. more-sessions step past d (decided-session rules shard d effect past e))
    h

pub voted-session : (rules : Seen.Rules) (shard : ℕ) (d : Bytes) (vote : Vote) (past : List Step) → votes_in rules shard d vote (log shard past) ≡ true → HasSession past d
voted-session rules shard d vote [] h = absurd (both_ways false refl h)
voted-session rules shard d vote (step ∷ past) h =
    log_at (λ l. votes_in rules shard d vote l ≡ true → HasSession (step ∷ past) d) shard step past
    (λ at e. elim (or_cases (is_prepare_of d step.entry && is_vote vote (exec rules shard (table_of rules shard (log shard past)) step.entry).effect) _ e) [
      | inl now ↦ (session_of step.entry, inl refl, prepare-digest d step.entry (and_parts (is_prepare_of d step.entry) _ now).0)
      | inr before ↦ more-sessions step past d (voted-session rules shard d vote past before)
    ])
    (λ e. more-sessions step past d (voted-session rules shard d vote past e))
    h

-- a known session of such a digest is that one
pub seen-there : (genesis : List Item) (known : List Seen.Session) (past : List Step) → AreNamedApart genesis known → ((x : Seen.Session) → IsIn x (sessions past) → IsIn x known)
    → (x : Seen.Session) → IsIn x known → HasSession past x.digest → IsIn x (sessions past)
seen-there genesis known past apart within x knows h =
    let same = apart.session x h.0 knows (within h.0 h.1) h.2 in
    subst (λ z. IsIn z (sessions past)) (sym same) h.1

pub known-there : {M : Type 0} (site : Site M) (known : Known) (firsts : List Execution) → AreNamedApart site.setup.rules.genesis (map site.setup.session_of known.sessions) → IsMiddle site known firsts
    → (x : Session) → IsIn x known.sessions → HasSession (steps_of site.setup firsts) (site.setup.session_of x).digest → IsIn (site.setup.session_of x) (sessions (steps_of site.setup firsts))
known-there {M} site known firsts apart m x knows h =
    seen-there site.setup.rules.genesis (map site.setup.session_of known.sessions) (steps_of site.setup firsts) apart m.within
    (site.setup.session_of x) (map-in site.setup.session_of x known.sessions knows) h

-- ---- what stays so

-- once all concerned shards have voted commit, it stays so
pub commit-later : (setup : Setup) (x : Seen.Session) (later earlier : List Execution) → all_commit setup.rules (steps_of setup earlier) x ≡ true → all_commit setup.rules (steps_of setup (later ++ earlier)) x ≡ true
commit-later setup x [] earlier h = h
commit-later setup x (e ∷ later) earlier h =
    all_more setup.rules (record { shard = e.shard; entry = entry_of setup e.entry }) (steps_of setup (later ++ earlier)) x Commit (all_items x.transaction) (commit-later setup x later earlier h)

-- ---- the ledger takes well-formed transactions

pub serial-once : (ledger : Ledger) (txs : List Transaction) → Serial ledger txs → (tx : Transaction) → IsIn tx txs → uses_once tx ≡ true
serial-once ledger [] s tx i = absurd i
serial-once ledger (other ∷ txs) s tx (inl e) = ap uses_once e ∙ (and_parts _ _ (and_parts _ _ s.0.well_formed).1).0
serial-once ledger (other ∷ txs) s tx (inr i) = serial-once (ledger_after ledger other) txs s.1 tx i
