-- A history of which no place is broken is that of the logs, and the ledger takes it.
use Rattle.std.proofs.Common.{◌≡◌, inl, inr, Bool, true, false, ◌&&◌, ◌||◌, List, [], ◌∷◌, ◌++◌, length, map, Option, Some, None, refl, sym, ap, subst, ◌∙◌, append_assoc, append-nil}
use Rattle.std.specs.Prelude.{not, bytes_eq}
use Rattle.std.specs.List.{list_all, flat_map}
use Rattle.std.proofs.lemmas.Bool.{cases_Bool, and_parts, and_from, or_cases, or_left, or_right, both_ways, true≢false}
use Rattle.cs_base.specs.Lists.{IsIn}
use Rattle.cs_tx_types.specs.declared.action.Action.{Action}
use Rattle.cs_tx_types.specs.declared.action.Action.TheVariants.{Prepare, Decide}
use Rattle.cs_tx_types.specs.declared.leaf.Leaf.{Leaf}
use Rattle.cs_tx_types.specs.declared.session.Session.{Session}
use Rattle.cs_ledger.specs.Ledger.{Bytes, Item, Transaction, Ledger, names, has, all_differ, apart, is_well_formed, ledger_after, Takes, HoldsAll, Serial, genesis_ledger}
use Rattle.cs_ledger.proofs.Basics.{same_bytes, bytes_from}
use Rattle.cs_node_state.specs.Setup.{Setup}
use Rattle.cs_audit_dump.specs.declared.dump.Log.{Log}
use Rattle.cs_audit_rules.specs.Slots.{is_just}
use Rattle.cs_audit_rules.specs.Support.{all_logs_commit}
use Rattle.cs_audit_rules.specs.History.{prepared_session, sessions_in_logs, committed, transactions, first_with_digest, holds_all, takes, history_fault_at, then_told, history_fault}
use Rattle.cs_audit_rules.specs.Sound.{IsCommitted, IsTransactionTaken, IsHistory}
use Rattle.cs_audit_rules.proofs.Parts.{held, in_map, of_map, in_flat, of_flat, in_filter, of_filter, of_find, of_all}
use Rattle.cs_audit_rules.proofs.Logs.{just_same}

-- ---- names in lists

pub has_in : (name : Bytes) (others : List Bytes) → has name others ≡ true → IsIn name others
has_in name [] is = absurd (both_ways _ refl is)
has_in name (other ∷ others) is =
    elim (or_cases _ _ is) [
      | inl same ↦ inl (same_bytes name other same)
      | inr later ↦ inr (has_in name others later)
    ]

in_has : (name : Bytes) (others : List Bytes) → IsIn name others → has name others ≡ true
in_has name [] within = absurd within
in_has name (other ∷ others) (inl same) = or_left _ _ (bytes_from name other same)
in_has name (other ∷ others) (inr later) = or_right _ _ (in_has name others later)

not_true : (b : Bool) → not b ≡ true → b ≡ false
not_true true is = absurd (true≢false (sym is))
not_true false is = refl

apart_from : (some others : List Bytes) → apart some others ≡ true → (name : Bytes) → IsIn name some → IsIn name others → ⊥
apart_from [] others is name within there = within
apart_from (first ∷ more) others is name (inl same) there =
    let parts = and_parts (not (has first others)) (apart more others) is in
    true≢false (sym (in_has first others (subst (λ n. IsIn n others) same there)) ∙ not_true (has first others) parts.0)
apart_from (first ∷ more) others is name (inr later) there =
    apart_from more others (and_parts (not (has first others)) (apart more others) is).1 name later there

named_in : (item : Item) (items : List Item) → IsIn item items → IsIn item.name (names items)
named_in item [] within = absurd within
named_in item (other ∷ others) (inl same) = inl (ap (λ (i : Item). i.name) same)
named_in item (other ∷ others) (inr later) = inr (named_in item others later)

-- a name behind others from which it differs
has-append : (name : Bytes) (xs ys : List Bytes) → has name (xs ++ ys) ≡ (has name xs || has name ys)
has-append name [] ys = refl
has-append name (x ∷ xs) ys = ap (λ b. bytes_eq name x || b) (has-append name xs ys) ∙ assoc (bytes_eq name x) (has name xs) (has name ys)
  where
    assoc : (a b c : Bool) → (a || (b || c)) ≡ ((a || b) || c)
    assoc true b c = refl
    assoc false b c = refl

differ-append : (xs : List Bytes) (name : Bytes) → all_differ xs ≡ true → has name xs ≡ false → all_differ (xs ++ name ∷ []) ≡ true
differ-append [] name differ new = refl
differ-append (x ∷ xs) name differ new =
    let parts = and_parts (not (has x xs)) (all_differ xs) differ in
    let apart_x : bytes_eq name x ≡ false = (neither (bytes_eq name x) (has name xs) new).0 in
    let others : has name xs ≡ false = (neither (bytes_eq name x) (has name xs) new).1 in
    let back : bytes_eq x name ≡ false = elim (cases_Bool (bytes_eq x name)) [
      | inl same ↦ absurd (true≢false (sym (bytes_from name x (sym (same_bytes x name same))) ∙ apart_x))
      | inr other ↦ other
    ] in
    let none : has x (xs ++ name ∷ []) ≡ false = has-append x xs (name ∷ []) ∙ rw (not_true (has x xs) parts.0, back) refl in
    and_from _ _ (ap not none) (differ-append xs name parts.1 others)
  where
    neither : (a b : Bool) → (a || b) ≡ false → (a ≡ false) × (b ≡ false)
    neither true b is = absurd (true≢false is)
    neither false b is = (refl, is)

-- ---- the ledger

holds_so : (ledger : Ledger) (items : List Item) → holds_all ledger items ≡ true → HoldsAll ledger items
holds_so ledger items is item within = just_same item.object (ledger.active item.name) (of_all (λ (i : Item). is_just i.object (ledger.active i.name)) item items is within)

pub takes_so : (ledger : Ledger) (tx : Transaction) → takes ledger tx ≡ true → Takes ledger tx
takes_so ledger tx is =
    let halves = and_parts (is_well_formed tx && tx.approved) _ is in
    let first = and_parts (is_well_formed tx) tx.approved halves.0 in
    let later = and_parts (holds_all ledger tx.inputs && holds_all ledger tx.references) _ halves.1 in
    let used = and_parts (holds_all ledger tx.inputs) (holds_all ledger tx.references) later.0 in
    let made = and_parts (apart (names tx.outputs) ledger.created) (all_differ (names tx.outputs)) later.1 in
    record {
      well_formed = first.0;
      approved = first.1;
      inputs = holds_so ledger tx.inputs used.0;
      references = holds_so ledger tx.references used.1;
      fresh = λ item output created. apart_from (names tx.outputs) ledger.created made.0 item.name (named_in item tx.outputs output) created;
      differ = made.1;
    }

-- ---- the committed transactions

prepared_is : (entry : Action) (x : Session) → IsIn x (prepared_session entry) → entry ≡ Prepare x
prepared_is (Prepare y) x (inl same) = ap Prepare (sym same)
prepared_is (Prepare y) x (inr none) = absurd none
prepared_is (Decide vote y) x none = absurd none

is_prepared : (entry : Action) (x : Session) → entry ≡ Prepare x → IsIn x (prepared_session entry)
is_prepared entry x is = subst (λ e. IsIn x (prepared_session e)) (sym is) (inl refl)

module _ (setup : Setup) (logs : List Log) where
  abbrev of_leaf : Leaf → List Session
  of_leaf leaf = prepared_session leaf.action

  committed_in : (x : Session) → IsIn x (committed setup logs) → IsCommitted setup logs x
  committed_in x within =
      let passed = of_filter (all_logs_commit setup logs) x (sessions_in_logs logs) within in
      let (log, listed, there) = of_flat (λ (log : Log). flat_map of_leaf log.leaves) x logs passed.0 in
      let (leaf, told, here) = of_flat of_leaf x log.leaves there in
      record { log = log; leaf = leaf; listed = listed; told = told; prepared = prepared_is leaf.action x here; commits = passed.1 }

  in_committed : (x : Session) → IsCommitted setup logs x → IsIn x (committed setup logs)
  in_committed x is =
      let here = is_prepared is.leaf.action x is.prepared in
      let there = in_flat of_leaf is.leaf x is.log.leaves is.told here in
      in_filter (all_logs_commit setup logs) x (sessions_in_logs logs) (in_flat (λ (log : Log). flat_map of_leaf log.leaves) is.log x logs is.listed there) is.commits

  -- what was told of a history behind some digests
  record IsTold (ledger : Ledger) (earlier later : List Bytes) : Type 0 where
    pub txs : List Transaction
    pub named : map (λ (tx : Transaction). tx.digest) txs ≡ later
    pub taken : (tx : Transaction) → IsIn tx txs → IsTransactionTaken setup logs tx
    pub serial : Serial ledger txs
    pub differ : all_differ (earlier ++ later) ≡ true
    pub whole : list_all (λ (tx : Transaction). has tx.digest (earlier ++ later)) (transactions setup logs) ≡ true

  told_so : (ledger : Ledger) (earlier later : List Bytes) → all_differ earlier ≡ true → history_fault (transactions setup logs) ledger earlier later ≡ None
      → IsTold ledger earlier later
  told_so ledger earlier [] differ none =
      let ends = held (list_all (λ (tx : Transaction). has tx.digest earlier) (transactions setup logs)) (history_fault_at (length earlier)) None none in
      record {
        txs = [];
        named = refl;
        taken = λ tx within. absurd within;
        serial = tt;
        differ = subst (λ ds. all_differ ds ≡ true) (sym (append-nil earlier)) differ;
        whole = subst (λ ds. list_all (λ (tx : Transaction). has tx.digest ds) (transactions setup logs) ≡ true) (sym (append-nil earlier)) ends.0;
      }
  told_so ledger earlier (d ∷ later) differ none =
      by (first_with_digest d (transactions setup logs)) refl (λ next new rest. told_so next (earlier ++ d ∷ []) later new rest) none
    where
      by : (found : Option Transaction) → first_with_digest d (transactions setup logs) ≡ found
          → ((next : Ledger) → all_differ (earlier ++ d ∷ []) ≡ true → history_fault (transactions setup logs) next (earlier ++ d ∷ []) later ≡ None
          → IsTold next (earlier ++ d ∷ []) later)
          → then_told ledger d earlier found (λ next. history_fault (transactions setup logs) next (earlier ++ d ∷ []) later) ≡ None
          → IsTold ledger earlier (d ∷ later)
      by None is more none = absurd cc
      by (Some tx) is more none =
          let (tests, rest) = held (not (has d earlier) && takes ledger tx) (history_fault_at (length earlier))
          (history_fault (transactions setup logs) (ledger_after ledger tx) (earlier ++ d ∷ []) later) none in
          let parts = and_parts (not (has d earlier)) (takes ledger tx) tests in
          let found = of_find (λ (t : Transaction). bytes_eq d t.digest) tx (transactions setup logs) is in
          let (x, among, tx_is) = of_map (λ x. (setup.session_of x).transaction) tx (committed setup logs) found.0 in
          let told = more (ledger_after ledger tx) (differ-append earlier d differ (not_true (has d earlier) parts.0)) rest in
          let same : (earlier ++ d ∷ []) ++ later ≡ earlier ++ d ∷ later = append_assoc earlier (d ∷ []) later in
          record {
            txs = tx ∷ told.txs;
            named = λ i. sym (same_bytes d tx.digest found.1) i ∷ told.named i;
            taken = λ other within. elim within [
              | inl one ↦ (x, committed_in x among, sym tx_is ∙ sym one)
              | inr later ↦ told.taken other later
            ];
            serial = (takes_so ledger tx parts.1, told.serial);
            differ = subst (λ ds. all_differ ds ≡ true) same told.differ;
            whole = subst (λ ds. list_all (λ (t : Transaction). has t.digest ds) (transactions setup logs) ≡ true) same told.whole;
          }

  pub history_so : (history : List Bytes) → history_fault (transactions setup logs) (genesis_ledger setup.rules.genesis) [] history ≡ None → IsHistory setup logs history
  history_so history none =
      let told = told_so (genesis_ledger setup.rules.genesis) [] history refl none in
      record {
        differ = told.differ;
        transactions = told.txs;
        named = told.named;
        taken = told.taken;
        complete = λ x is.
            let tx = (setup.session_of x).transaction in
            let within = in_map (λ x. (setup.session_of x).transaction) x (committed setup logs) (in_committed x is) in
            has_in tx.digest history (of_all (λ (tx : Transaction). has tx.digest history) tx (transactions setup logs) told.whole within);
        serial = told.serial;
      }
