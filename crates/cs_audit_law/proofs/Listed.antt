-- The history that the steps tell is that of their logs.
use Rattle.std.proofs.Common.{◌≡◌, inl, inr, ℕ, zero, suc, ◌<◌, ◌==◌, Bool, true, false, ◌&&◌, ◌||◌, List, [], ◌∷◌, ◌++◌, None, refl, sym, ap, subst, ◌∙◌, arith, append_assoc}
use Rattle.std.specs.Prelude.{not, bytes_eq, if◌then◌else◌}
use Rattle.std.specs.List.{flat_map}
use Rattle.std.proofs.lemmas.Bool.{cases_lt, and_parts, both_ways, eq-eqb}
use Rattle.cs_base.specs.Lists.{IsIn}
use Rattle.cs_tx_types.specs.declared.action.Action.{Action}
use Rattle.cs_tx_types.specs.declared.action.Action.TheVariants.{Prepare, Decide}
use Rattle.cs_tx_types.specs.declared.session.Session.{Session}
use Rattle.cs_tx_types.specs.declared.leaf.Leaf.{Leaf}
use Rattle.cs_ledger.specs.Ledger.{Bytes, Transaction, has, all_differ, Serial, genesis_ledger}
use Rattle.cs_ledger.specs.Session as Seen
use Rattle.cs_ledger.specs.Session.{concerns}
use Rattle.cs_ledger.specs.Table as Shard
use Rattle.cs_ledger.specs.Table.{Effect}
use Rattle.cs_ledger.specs.ShardWorld as Steps
use Rattle.cs_ledger.specs.ShardWorld.{IsAllowed, AllAllowed, is_listed, sessions, IsShardWorld}
use Rattle.cs_ledger.proofs.Basics.{in_left, in_right, in_either}
use Rattle.cs_ledger.proofs.Committed as Together
use Rattle.cs_node_state.specs.Setup.{Setup, entry_of}
use Rattle.cs_node_rules.specs.World.{Execution, steps_of, all_recorded, is_voted, told_transactions, told_after}
use Rattle.cs_world_law.specs.Steps.{executions_of}
use Rattle.cs_world_law.specs.Shown.{leaf_by, leaves_of}
use Rattle.cs_world_law.proofs.Counting.{item-among}
use Rattle.cs_world_law.proofs.Told.{all-recorded-is, told-is}
use Rattle.cs_audit_dump.specs.declared.dump.Log.{Log}
use Rattle.cs_audit_rules.specs.Support.{all_logs_commit}
use Rattle.cs_audit_rules.specs.History.{prepared_session, sessions_in_logs, committed, transactions, history_fault}
use Rattle.cs_audit_rules.proofs.Parts.{in_map, of_map, in_flat, of_flat, in_filter, of_filter}
use Rattle.cs_audit_law.specs.Dumped.{dumped_leaves, dumped_log, dumped_logs}
use Rattle.cs_audit_law.specs.Passing.{AreSteps}
use Rattle.cs_audit_law.proofs.Votes.{commits_told, commits_recorded}
use Rattle.cs_audit_law.proofs.Backed.{leaf_from, log_from, recorded_all}
use Rattle.cs_audit_law.proofs.Ledgers.{digests, digest_in, differ_more, found_first, none_broken}

-- ---- the digests of the told transactions differ

listed_has : (tx : Transaction) (txs : List Transaction) → is_listed tx txs ≡ has tx.digest (digests txs)
listed_has tx [] = refl
listed_has tx (other ∷ txs) = ap (λ b. bytes_eq tx.digest other.digest || b) (listed_has tx txs)

map_end : (txs : List Transaction) (tx : Transaction) → digests (txs ++ tx ∷ []) ≡ digests txs ++ tx.digest ∷ []
map_end [] tx = refl
map_end (other ∷ txs) tx = ap (λ ds. other.digest ∷ ds) (map_end txs tx)

not_false : (b : Bool) → not b ≡ true → b ≡ false
not_false true is = absurd (both_ways false refl is)
not_false false is = refl

told_differ : (setup : Setup) (firsts : List Execution) → all_differ (digests (told_transactions setup firsts)) ≡ true
told_differ setup [] = refl
told_differ setup (e ∷ earlier) = by e.entry (told_differ setup earlier)
  where
    by : (entry : Action) → all_differ (digests (told_transactions setup earlier)) ≡ true → all_differ (digests (told_after setup (e ∷ earlier) entry e.effect (told_transactions setup earlier))) ≡ true
    by (Decide vote x) before = before
    by (Prepare x) before = add (is_voted e.effect && (all_recorded setup (e ∷ earlier) x && not (is_listed (setup.session_of x).transaction (told_transactions setup earlier)))) refl
      where
        tx : Transaction
        tx = (setup.session_of x).transaction

        add : (b : Bool) → (is_voted e.effect && (all_recorded setup (e ∷ earlier) x && not (is_listed (setup.session_of x).transaction (told_transactions setup earlier)))) ≡ b
            → all_differ (digests (if b then told_transactions setup earlier ++ (setup.session_of x).transaction ∷ [] else told_transactions setup earlier)) ≡ true
        add false other = before
        add true new =
            let now = (setup.session_of x).transaction in
            let parts = and_parts (all_recorded setup (e ∷ earlier) x) _ (and_parts (is_voted e.effect) _ new).1 in
            let fresh : has now.digest (digests (told_transactions setup earlier)) ≡ false = sym (listed_has now (told_transactions setup earlier)) ∙ not_false (is_listed now (told_transactions setup earlier)) parts.1 in
            subst (λ ds. all_differ ds ≡ true) (sym (map_end (told_transactions setup earlier) now)) (differ_more (digests (told_transactions setup earlier)) now.digest before fresh)

-- ---- where sessions stand

log_in : (setup : Setup) (firsts : List Execution) (n shard : ℕ) → shard < n → IsIn (dumped_log setup firsts shard) (dumped_logs setup firsts n)
log_in setup firsts zero shard less = absurd (omega arith)
log_in setup firsts (suc n) shard less =
    elim (cases_lt shard n) [
      | inl below ↦ in_left (dumped_log setup firsts shard) (dumped_logs setup firsts n) (dumped_log setup firsts n ∷ []) (log_in setup firsts n shard below)
      | inr not_below ↦
          let at : shard ≡ n = omega arith in
          in_right (dumped_log setup firsts shard) (dumped_logs setup firsts n) (dumped_log setup firsts n ∷ []) (inl (ap (dumped_log setup firsts) at))
    ]

leaf_in : (shard : ℕ) (later : List Execution) (e : Execution) (earlier : List Execution) → e.shard ≡ shard → IsIn (leaf_by e) (dumped_leaves shard (later ++ e ∷ earlier))
leaf_in shard [] e earlier here =
    rw (eq-eqb e.shard shard here) (in_right (leaf_by e) (dumped_leaves shard earlier) (leaf_by e ∷ []) (inl refl))
leaf_in shard (first ∷ later) e earlier here = by (first.shard == shard) (leaf_in shard later e earlier here)
  where
    by : (b : Bool) → IsIn (leaf_by e) (dumped_leaves shard (later ++ e ∷ earlier))
        → IsIn (leaf_by e) (leaves_of (if b then first ∷ executions_of shard (later ++ e ∷ earlier) else executions_of shard (later ++ e ∷ earlier)))
    by true within = in_left (leaf_by e) (dumped_leaves shard (later ++ e ∷ earlier)) (leaf_by first ∷ []) within
    by false within = within

session_there : (setup : Setup) (later : List Execution) (e : Execution) (earlier : List Execution) → IsIn (Shard.session_of (entry_of setup e.entry)) (sessions (steps_of setup (later ++ e ∷ earlier)))
session_there setup [] e earlier = inl refl
session_there setup (first ∷ later) e earlier = inr (session_there setup later e earlier)

allowed_at : (setup : Setup) (later : List Execution) (e : Execution) (earlier : List Execution) → AllAllowed setup.rules (steps_of setup (later ++ e ∷ earlier))
    → IsAllowed setup.rules (steps_of setup earlier) e.shard (entry_of setup e.entry)
allowed_at setup [] e earlier all = all.0
allowed_at setup (first ∷ later) e earlier all = allowed_at setup later e earlier all.1

prepared_is : (entry : Action) (x : Session) → IsIn x (prepared_session entry) → entry ≡ Prepare x
prepared_is (Prepare y) x (inl same) = ap Prepare (sym same)
prepared_is (Prepare y) x (inr none) = absurd none
prepared_is (Decide vote y) x none = absurd none

module _ (setup : Setup) (bound : (name : Bytes) → setup.rules.shard_of name < setup.shards) (firsts : List Execution) (are : AreSteps setup firsts) where
  abbrev logs : List Log
  logs = dumped_logs setup firsts setup.shards

  abbrev tx_of : Session → Transaction
  tx_of x = (setup.session_of x).transaction

  -- a Prepare of the session is one of the steps
  record HasPrepare (x : Session) : Type 0 where
    pub later : List Execution
    pub e : Execution
    pub earlier : List Execution
    pub split : firsts ≡ later ++ e ∷ earlier
    pub is : e.entry ≡ Prepare x

  abbrev of_leaf : Leaf → List Session
  of_leaf leaf = prepared_session leaf.action

  from_logs : (x : Session) → IsIn x (sessions_in_logs logs) → HasPrepare x
  from_logs x within =
      let (log, listed, there) = of_flat (λ (log : Log). flat_map of_leaf log.leaves) x logs within in
      let (leaf, told_leaf, here) = of_flat of_leaf x log.leaves there in
      let from_log = log_from setup firsts setup.shards log listed in
      let from = leaf_from from_log.0 firsts leaf (subst (λ (l : Log). IsIn leaf l.leaves) from_log.1 told_leaf) in
      record {
        later = from.later;
        e = from.e;
        earlier = from.earlier;
        split = from.split;
        is = sym (ap (λ (l : Leaf). l.action) from.leaf_is) ∙ prepared_is leaf.action x here;
      }

  seen_in : (x : Session) → HasPrepare x → IsIn (setup.session_of x) (sessions (steps_of setup firsts))
  seen_in x has =
      let there = session_there setup has.later has.e has.earlier in
      let same : Shard.session_of (entry_of setup has.e.entry) ≡ setup.session_of x = ap (λ entry. Shard.session_of (entry_of setup entry)) has.is in
      subst (λ (es : List Execution). IsIn (setup.session_of x) (sessions (steps_of setup es))) (sym has.split)
      (subst (λ (s : Seen.Session). IsIn s (sessions (steps_of setup (has.later ++ has.e ∷ has.earlier)))) same there)

  concerned_there : (x : Session) (has : HasPrepare x) → concerns setup.rules (setup.session_of x) has.e.shard ≡ true
  concerned_there x has =
      let allowed = allowed_at setup has.later has.e has.earlier (subst (λ (es : List Execution). AllAllowed setup.rules (steps_of setup es)) has.split are.allowed) in
      (subst (λ entry. IsAllowed setup.rules (steps_of setup has.earlier) has.e.shard (entry_of setup entry)) has.is allowed).1

  shard_below : (x : Session) (has : HasPrepare x) → has.e.shard < setup.shards
  shard_below x has =
      let item = item-among setup.rules has.e.shard _ (concerned_there x has) in
      subst (λ n. n < setup.shards) item.2 (bound item.0.name)

  in_logs : (x : Session) → HasPrepare x → IsIn x (sessions_in_logs logs)
  in_logs x has =
      let shard = has.e.shard in
      let leaf = leaf_by has.e in
      let within = subst (λ (es : List Execution). IsIn leaf (dumped_leaves shard es)) (sym has.split) (leaf_in shard has.later has.e has.earlier refl) in
      let here : IsIn x (of_leaf leaf) = subst (λ entry. IsIn x (prepared_session entry)) (sym has.is) (inl refl) in
      in_flat (λ (log : Log). flat_map of_leaf log.leaves) (dumped_log setup firsts shard) x logs (log_in setup firsts setup.shards shard (shard_below x has))
      (in_flat of_leaf leaf x (dumped_leaves shard firsts) within here)

  -- ---- the committed transactions

  in_transactions : (x : Session) → HasPrepare x → all_recorded setup firsts x ≡ true → IsIn (tx_of x) (transactions setup logs)
  in_transactions x has all =
      in_map tx_of x (committed setup logs) (in_filter (all_logs_commit setup logs) x (sessions_in_logs logs) (in_logs x has) (commits_told setup firsts x all))

  record IsCommitted (tx : Transaction) : Type 0 where
    pub x : Session
    pub has : HasPrepare x
    pub all : all_recorded setup firsts x ≡ true
    pub is : tx ≡ tx_of x

  of_transactions : (tx : Transaction) → IsIn tx (transactions setup logs) → IsCommitted tx
  of_transactions tx within =
      let (x, among, is) = of_map tx_of tx (committed setup logs) within in
      let passed = of_filter (all_logs_commit setup logs) x (sessions_in_logs logs) among in
      record { x = x; has = from_logs x passed.0; all = commits_recorded setup firsts x passed.1; is = is }

  -- what is told is committed
  told_committed : (later es : List Execution) → firsts ≡ later ++ es → (tx : Transaction) → IsIn tx (told_transactions setup es) → IsCommitted tx
  told_committed later [] split tx within = absurd within
  told_committed later (e ∷ earlier) split tx within =
      by e.entry refl (λ there. told_committed (later ++ e ∷ []) earlier (split ∙ sym (append_assoc later (e ∷ []) earlier)) tx there) within
    where
      by : (entry : Action) → e.entry ≡ entry → (IsIn tx (told_transactions setup earlier) → IsCommitted tx) → IsIn tx (told_after setup (e ∷ earlier) entry e.effect (told_transactions setup earlier)) → IsCommitted tx
      by (Decide vote x) is before there = before there
      by (Prepare x) is before there = add (is_voted e.effect && (all_recorded setup (e ∷ earlier) x && not (is_listed (tx_of x) (told_transactions setup earlier)))) refl there
        where
          add : (b : Bool) → (is_voted e.effect && (all_recorded setup (e ∷ earlier) x && not (is_listed (tx_of x) (told_transactions setup earlier)))) ≡ b
              → IsIn tx (if b then told_transactions setup earlier ++ tx_of x ∷ [] else told_transactions setup earlier) → IsCommitted tx
          add false other old = before old
          add true new one =
              elim (in_either tx (told_transactions setup earlier) (tx_of x ∷ []) one) [
                | inl old ↦ before old
                | inr last ↦ elim last [
                  | inl same ↦
                      let all = (and_parts (all_recorded setup (e ∷ earlier) x) _ (and_parts (is_voted e.effect) _ new).1).0 in
                      record {
                        x = x;
                        has = record { later = later; e = e; earlier = earlier; split = split; is = is };
                        all = subst (λ (es : List Execution). all_recorded setup es x ≡ true) (sym split) (recorded_all setup later (e ∷ earlier) x all);
                        is = same;
                      }
                  | inr none ↦ absurd none
                ]
              ]

  -- ---- the history

  shard_world : IsShardWorld setup.rules (steps_of setup firsts)
  shard_world = (are.allowed, are.apart)

  told_there : told_transactions setup firsts ≡ Steps.history setup.rules (steps_of setup firsts)
  told_there = told-is setup bound firsts are.computed are.allowed

  alone : (tx other : Transaction) → IsCommitted tx → IsIn other (transactions setup logs) → tx.digest ≡ other.digest → other ≡ tx
  alone tx other one within same =
      let two = of_transactions other within in
      let digests_same = ap (λ (t : Transaction). t.digest) (sym one.is) ∙ same ∙ ap (λ (t : Transaction). t.digest) two.is in
      two.is ∙ sym (are.apart.transaction (setup.session_of one.x) (setup.session_of two.x) (seen_in one.x one.has) (seen_in two.x two.has) digests_same) ∙ sym one.is

  whole : (tx : Transaction) → IsIn tx (transactions setup logs) → has tx.digest (digests (told_transactions setup firsts)) ≡ true
  whole tx within =
      let one = of_transactions tx within in
      let all = sym (all-recorded-is setup bound firsts one.x are.computed) ∙ one.all in
      let listed = Together.is_listed setup.rules (steps_of setup firsts) shard_world (setup.session_of one.x) (seen_in one.x one.has) all one.has.e.shard (concerned_there one.x one.has) in
      let there : IsIn tx (told_transactions setup firsts) = subst (λ t. IsIn t (told_transactions setup firsts)) (sym one.is) (subst (λ ts. IsIn (tx_of one.x) ts) (sym told_there) listed) in
      digest_in tx (told_transactions setup firsts) there

  pub history_unbroken : history_fault (transactions setup logs) (genesis_ledger setup.rules.genesis) [] (digests (told_transactions setup firsts)) ≡ None
  history_unbroken =
      let serial = subst (Serial (genesis_ledger setup.rules.genesis)) (sym told_there) (Together.world setup.rules (steps_of setup firsts) shard_world).story.told.serial in
      none_broken (transactions setup logs) [] (genesis_ledger setup.rules.genesis) (told_transactions setup firsts) serial
      (λ tx within.
      let one = told_committed [] firsts refl tx within in
      let there = subst (λ t. IsIn t (transactions setup logs)) (sym one.is) (in_transactions one.x one.has one.all) in
      found_first tx (transactions setup logs) there (λ other among same. alone tx other one among same))
      (told_differ setup firsts) whole
