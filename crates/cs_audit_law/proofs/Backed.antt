-- Each decision in the logs has its votes.
use Rattle.std.proofs.Common.{◌≡◌, inl, inr, ℕ, zero, suc, ◌+◌, ◌<◌, ◌==◌, Bool, true, false, List, [], ◌∷◌, ◌++◌, None, refl, sym, ap, subst, ◌∙◌, append_assoc}
use Rattle.std.specs.Prelude.{if◌then◌else◌}
use Rattle.std.proofs.lemmas.Bool.{or_right, eqb-true}
use Rattle.cs_base.specs.Lists.{IsIn}
use Rattle.cs_tx_types.specs.declared.action.Action.{Action}
use Rattle.cs_tx_types.specs.declared.action.Action.TheVariants.{Prepare, Decide}
use Rattle.cs_tx_types.specs.declared.vote.Vote.TheVariants as vote
use Rattle.cs_tx_types.specs.declared.session.Session.{Session}
use Rattle.cs_tx_types.specs.declared.leaf.Leaf.{Leaf}
use Rattle.cs_ledger.specs.Ledger.{Bytes}
use Rattle.cs_ledger.specs.Session as Seen
use Rattle.cs_ledger.specs.Session.{Rules, all_items}
use Rattle.cs_ledger.specs.Table as Shard
use Rattle.cs_ledger.specs.Table.{Vote, Commit, Abort, Effect, Voted, Accepted, Aborted, Skipped, Void, Table, Outcome, table_of, exec}
use Rattle.cs_ledger.specs.ShardWorld as Steps
use Rattle.cs_ledger.specs.ShardWorld.{log, shard_votes, IsAllowed}
use Rattle.cs_ledger.proofs.Basics.{in_either}
use Rattle.cs_ledger.proofs.Changes.{Nothing, Locks, Notes, Accepts, Aborts, IsIdle, change}
use Rattle.cs_ledger.proofs.Votes.{one_at}
use Rattle.cs_node_state.specs.Setup.{Setup, digest_of, concerned, entry_of}
use Rattle.cs_tx_types.specs.Session.{session_in}
use Rattle.cs_node_state.specs.Bench.{effect_from}
use Rattle.cs_node_rules.specs.World.{Execution, steps_of, is_recorded, all_recorded}
use Rattle.cs_world_law.specs.Steps.{executions_of}
use Rattle.cs_world_law.specs.Shown.{leaf_by, leaves_of}
use Rattle.cs_world_law.proofs.Counting.{all-in, all-from, in-concerned, among-item}
use Rattle.cs_world_law.proofs.Told.{recorded-is, all-recorded-is}
use Rattle.cs_world_law.proofs.Middle.{commit-later}
use Rattle.cs_audit_dump.specs.declared.dump.Log.{Log}
use Rattle.cs_audit_rules.specs.Support.{is_supported, supports, unsupported, support_fault}
use Rattle.cs_audit_law.specs.Dumped.{dumped_leaves, dumped_log, dumped_logs}
use Rattle.cs_audit_law.specs.Passing.{AreSteps}
use Rattle.cs_audit_law.proofs.Behind.{none_of}
use Rattle.cs_audit_law.proofs.Votes.{commits_told, abort_told}
use Rattle.cs_audit_law.proofs.Unbroken.{earlier_steps}

-- ---- what is accepted, and aborted

accepts_only : (rules : Rules) (shard : ℕ) (t : Table) (entry : Shard.Entry) → (exec rules shard t entry).effect ≡ Accepted → (x : Seen.Session) × (entry ≡ Shard.Decide x Commit)
accepts_only rules shard t entry e =
    elim (change rules shard t entry) [
      | Nothing same idle repeats ↦ absurd (subst IsIdle e idle)
      | Locks y key what is free ready to ↦ absurd (let q : Voted Commit ≡ Accepted = ap (λ (o : Outcome). o.effect) (sym to) ∙ e in cc)
      | Notes y key what is free to ↦ absurd (let q : Voted Abort ≡ Accepted = ap (λ (o : Outcome). o.effect) (sym to) ∙ e in cc)
      | Accepts y key what is held to ↦ (y, what)
      | Aborts y key what is held to ↦ absurd (let q : Aborted ≡ Accepted = ap (λ (o : Outcome). o.effect) (sym to) ∙ e in cc)
    ]

aborts_only : (rules : Rules) (shard : ℕ) (t : Table) (entry : Shard.Entry) → (exec rules shard t entry).effect ≡ Aborted → (x : Seen.Session) × (entry ≡ Shard.Decide x Abort)
aborts_only rules shard t entry e =
    elim (change rules shard t entry) [
      | Nothing same idle repeats ↦ absurd (subst IsIdle e idle)
      | Locks y key what is free ready to ↦ absurd (let q : Voted Commit ≡ Aborted = ap (λ (o : Outcome). o.effect) (sym to) ∙ e in cc)
      | Notes y key what is free to ↦ absurd (let q : Voted Abort ≡ Aborted = ap (λ (o : Outcome). o.effect) (sym to) ∙ e in cc)
      | Accepts y key what is held to ↦ absurd (let q : Accepted ≡ Aborted = ap (λ (o : Outcome). o.effect) (sym to) ∙ e in cc)
      | Aborts y key what is held to ↦ (y, what)
    ]

commits_so : (setup : Setup) (past : List Steps.Step) (shard : ℕ) (entry : Action) → IsAllowed setup.rules past shard (entry_of setup entry)
    → (y : Seen.Session) → entry_of setup entry ≡ Shard.Decide y Commit → Steps.all_commit setup.rules past (setup.session_of (session_in entry)) ≡ true
commits_so setup past shard (Prepare x) allowed y is = absurd cc
commits_so setup past shard (Decide vote.Commit x) allowed y is = allowed.1
commits_so setup past shard (Decide vote.Abort x) allowed y is = absurd cc

aborts_so : (setup : Setup) (past : List Steps.Step) (shard : ℕ) (entry : Action) → IsAllowed setup.rules past shard (entry_of setup entry)
    → (y : Seen.Session) → entry_of setup entry ≡ Shard.Decide y Abort → Steps.one_aborts setup.rules past (setup.session_of (session_in entry)) ≡ true
aborts_so setup past shard (Prepare x) allowed y is = absurd cc
aborts_so setup past shard (Decide vote.Commit x) allowed y is = absurd cc
aborts_so setup past shard (Decide vote.Abort x) allowed y is = allowed.1

-- ---- votes that were recorded before

recorded_later : (setup : Setup) (later earlier : List Execution) (d : Bytes) (v : Vote) (shard : ℕ) → is_recorded setup earlier d v shard ≡ true → is_recorded setup (later ++ earlier) d v shard ≡ true
recorded_later setup [] earlier d v shard is = is
recorded_later setup (e ∷ later) earlier d v shard is = or_right _ _ (recorded_later setup later earlier d v shard is)

pub recorded_all : (setup : Setup) (later earlier : List Execution) (x : Session) → all_recorded setup earlier x ≡ true → all_recorded setup (later ++ earlier) x ≡ true
recorded_all setup later earlier x all =
    let d = digest_of setup x in
    all-from (is_recorded setup (later ++ earlier) d Commit) (concerned setup x)
    (λ shard within. recorded_later setup later earlier d Commit shard (all-in (is_recorded setup earlier d Commit) (concerned setup x) all shard within))

module _ (setup : Setup) (bound : (name : Bytes) → setup.rules.shard_of name < setup.shards) (later : List Execution) (e : Execution) (earlier : List Execution) (are : AreSteps setup (later ++ e ∷ earlier)) where
  abbrev firsts : List Execution
  firsts = later ++ e ∷ earlier

  behind : (more : List Execution) → AreSteps setup (more ++ e ∷ earlier) → AreSteps setup (e ∷ earlier)
  behind [] here = here
  behind (first ∷ more) here = behind more (earlier_steps setup first (more ++ e ∷ earlier) here)

  steps : AreSteps setup (e ∷ earlier)
  steps = behind later are

  pub accepted_backed : e.effect ≡ Accepted → all_recorded setup firsts (session_in e.entry) ≡ true
  accepted_backed is =
      let x = session_in e.entry in
      let seen = setup.session_of x in
      let only = accepts_only setup.rules e.shard (table_of setup.rules e.shard (log e.shard (steps_of setup earlier))) (entry_of setup e.entry) (sym steps.computed.0.effect ∙ is) in
      let all = commits_so setup (steps_of setup earlier) e.shard e.entry steps.allowed.0 only.0 only.1 in
      let now = commit-later setup seen (later ++ e ∷ []) earlier all in
      let same : (later ++ e ∷ []) ++ earlier ≡ firsts = append_assoc later (e ∷ []) earlier in
      all-recorded-is setup bound firsts x are.computed
      ∙ subst (λ (es : List Execution). Steps.all_commit setup.rules (steps_of setup es) seen ≡ true) same now

  pub aborted_backed : e.effect ≡ Aborted → (shard : ℕ) × (IsIn shard (concerned setup (session_in e.entry))) × (is_recorded setup firsts (digest_of setup (session_in e.entry)) Abort shard ≡ true)
  aborted_backed is =
      let x = session_in e.entry in
      let seen = setup.session_of x in
      let items = all_items seen.transaction in
      let only = aborts_only setup.rules e.shard (table_of setup.rules e.shard (log e.shard (steps_of setup earlier))) (entry_of setup e.entry) (sym steps.computed.0.effect ∙ is) in
      let one = one_at setup.rules (steps_of setup earlier) seen Abort items (aborts_so setup (steps_of setup earlier) e.shard e.entry steps.allowed.0 only.0 only.1) in
      let shard = setup.rules.shard_of one.0.name in
      let told : is_recorded setup earlier (digest_of setup x) Abort shard ≡ true = recorded-is setup bound earlier (digest_of setup x) Abort shard steps.computed.1 ∙ one.2 in
      let now = recorded_later setup (later ++ e ∷ []) earlier (digest_of setup x) Abort shard told in
      let same : (later ++ e ∷ []) ++ earlier ≡ firsts = append_assoc later (e ∷ []) earlier in (
        shard,
        in-concerned setup x setup.shards shard (bound one.0.name) (among-item setup.rules one.0 items one.1),
        subst (λ (es : List Execution). is_recorded setup es (digest_of setup x) Abort shard ≡ true) same now,
      )

  supported_by : (f : Effect) → e.effect ≡ f → supports setup (dumped_logs setup firsts setup.shards) (session_in e.entry) (effect_from f) ≡ true
  supported_by (Voted Commit) is = refl
  supported_by (Voted Abort) is = refl
  supported_by Accepted is = commits_told setup firsts (session_in e.entry) (accepted_backed is)
  supported_by Aborted is = let (shard, within, told) = aborted_backed is in abort_told setup firsts (session_in e.entry) shard within told
  supported_by Skipped is = refl
  supported_by Void is = refl

  pub leaf_supported : is_supported setup (dumped_logs setup firsts setup.shards) (leaf_by e) ≡ true
  leaf_supported = supported_by e.effect refl

-- ---- where each leaf comes from

pub record IsFrom (shard : ℕ) (firsts : List Execution) (leaf : Leaf) : Type 0 where
  pub later : List Execution
  pub e : Execution
  pub earlier : List Execution
  pub split : firsts ≡ later ++ e ∷ earlier
  pub here : e.shard ≡ shard
  pub leaf_is : leaf ≡ leaf_by e

from_more : (shard : ℕ) (first : Execution) (earlier : List Execution) (leaf : Leaf) → IsFrom shard earlier leaf → IsFrom shard (first ∷ earlier) leaf
from_more shard first earlier leaf is = record { later = first ∷ is.later; e = is.e; earlier = is.earlier; split = ap (λ (es : List Execution). first ∷ es) is.split; here = is.here; leaf_is = is.leaf_is }

pub leaf_from : (shard : ℕ) (firsts : List Execution) (leaf : Leaf) → IsIn leaf (dumped_leaves shard firsts) → IsFrom shard firsts leaf
leaf_from shard [] leaf within = absurd within
leaf_from shard (e ∷ earlier) leaf within = by (e.shard == shard) refl (λ there. from_more shard e earlier leaf (leaf_from shard earlier leaf there)) within
  where
    by : (b : Bool) → (e.shard == shard) ≡ b → (IsIn leaf (dumped_leaves shard earlier) → IsFrom shard (e ∷ earlier) leaf)
        → IsIn leaf (leaves_of (if b then e ∷ executions_of shard earlier else executions_of shard earlier)) → IsFrom shard (e ∷ earlier) leaf
    by false other before there = before there
    by true here before there =
        elim (in_either leaf (dumped_leaves shard earlier) (leaf_by e ∷ []) there) [
          | inl old ↦ before old
          | inr new ↦ elim new [
            | inl same ↦ record { later = []; e = e; earlier = earlier; split = refl; here = eqb-true e.shard shard here; leaf_is = same }
            | inr none ↦ absurd none
          ]
        ]

-- ---- no decision lacks its votes

none_unsupported : (setup : Setup) (logs : List Log) (shard slot : ℕ) (leaves : List Leaf) → ((leaf : Leaf) → IsIn leaf leaves → is_supported setup logs leaf ≡ true)
    → unsupported setup logs shard slot leaves ≡ None
none_unsupported setup logs shard slot [] all = refl
none_unsupported setup logs shard slot (leaf ∷ leaves) all =
    rw (all leaf (inl refl)) (none_unsupported setup logs shard (slot + 1) leaves (λ other within. all other (inr within)))

none_lacking : (setup : Setup) (logs : List Log) (shard : ℕ) (some : List Log) → ((log : Log) (leaf : Leaf) → IsIn log some → IsIn leaf log.leaves → is_supported setup logs leaf ≡ true)
    → support_fault setup logs shard some ≡ None
none_lacking setup logs shard [] all = refl
none_lacking setup logs shard (log ∷ more) all =
    none_of (unsupported setup logs shard 0 log.leaves) (support_fault setup logs (shard + 1) more)
    (none_unsupported setup logs shard 0 log.leaves (λ leaf within. all log leaf (inl refl) within))
    (none_lacking setup logs (shard + 1) more (λ other leaf within there. all other leaf (inr within) there))

pub log_from : (setup : Setup) (es : List Execution) (n : ℕ) (log : Log) → IsIn log (dumped_logs setup es n) → (shard : ℕ) × (log ≡ dumped_log setup es shard)
log_from setup es zero log within = absurd within
log_from setup es (suc n) log within =
    elim (in_either log (dumped_logs setup es n) (dumped_log setup es n ∷ []) within) [
      | inl before ↦ log_from setup es n log before
      | inr last ↦ elim last [ inl same ↦ (n, same) | inr none ↦ absurd none ]
    ]

pub logs_backed : (setup : Setup) (bound : (name : Bytes) → setup.rules.shard_of name < setup.shards) (firsts : List Execution) → AreSteps setup firsts
    → support_fault setup (dumped_logs setup firsts setup.shards) 0 (dumped_logs setup firsts setup.shards) ≡ None
logs_backed setup bound firsts are =
    let logs = dumped_logs setup firsts setup.shards in
    none_lacking setup logs 0 logs
    (λ log leaf within there.
    let from_log = log_from setup firsts setup.shards log within in
    let is = leaf_from from_log.0 firsts leaf (subst (λ (l : Log). IsIn leaf l.leaves) from_log.1 there) in
    let steps = subst (λ (es : List Execution). AreSteps setup es) is.split are in
    let backed = leaf_supported setup bound is.later is.e is.earlier steps in
    ap (is_supported setup logs) is.leaf_is ∙ subst (λ (es : List Execution). is_supported setup (dumped_logs setup es setup.shards) (leaf_by is.e) ≡ true) (sym is.split) backed)
