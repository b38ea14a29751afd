-- The first place of the history that is wrong.
use Rattle.std.proofs.Common.{◌≡◌, ℕ, zero, suc, ◌+◌, ◌<◌, ◌≤◌, ◌==◌, Bool, true, false, not, ◌&&◌, List, [], ◌∷◌, ◌++◌, length, take, drop, get_or, map, option_map, Option, Some, None, refl, ap, sym, subst, ◌∙◌, arith, add-one, inl, inr}
use Rattle.std.specs.Prelude.{if◌then◌else◌, bytes_eq, find}
use Rattle.std.specs.List.{flat_map, list_all}
use Rattle.std.proofs.Math.Seq.{drop-cons}
use Rattle.std.proofs.Math.ListN.{drop_of_length-le}
use Rattle.std.proofs.lemmas.List.{take_more, length-take-le}
use Rattle.std.proofs.lemmas.Bool.{and_parts}
use Rattle.cs_base.specs.Lists.{IsIn}
use Rattle.cs_tx_types.specs.declared.action.Action.{Action}
use Rattle.cs_tx_types.specs.declared.action.Action.TheVariants.{Prepare, Decide}
use Rattle.cs_tx_types.specs.declared.leaf.Leaf.{Leaf}
use Rattle.cs_tx_types.specs.declared.session.Session.{Session}
use Rattle.cs_tx_types.specs.declared.transaction.Tx.{Tx}
use Rattle.cs_tx.specs.Sessions.{ledger_session}
use Rattle.cs_ledger.specs.Ledger.{Bytes, Transaction, Ledger as Plain, has, is_well_formed, ledger_after, genesis_ledger}
use Rattle.cs_ledger.specs.Session as Seen
use Rattle.cs_node_state.specs.Setup.{Setup, is_fit}
use Rattle.cs_tx_types.specs.Session.{session_in}
use Rattle.cs_node_pool.specs.Deployed.{deployed_setup}
use Rattle.cs_audit_dump.specs.declared.dump.Dump.{Dump}
use Rattle.cs_audit_dump.specs.declared.dump.Log.{Log}
use Rattle.cs_audit_rules.specs.declared.verdict.Fault.{Fault}
use Rattle.cs_audit_rules.specs.Slots.{is_judged, is_result, is_head, fault_at, broken_by, leaves_fault, logs_fault, log_fault}
use Rattle.cs_audit_rules.specs.declared.verdict.Rule.TheVariants as rule
use Rattle.cs_check_rules.specs.Chain.{made_last}
use Rattle.cs_audit_rules.specs.Stands as rules
use Rattle.cs_audit_rules.specs.History.{prepared_session, sessions_in_logs, committed, transactions, first_with_digest, takes, history_fault_at, then_told, ends_whole, history_fault}
use Rattle.cs_audit_rules.specs.Support.{all_logs_commit}
use Rattle.cs_audit_rules.specs.Verdicts.{told_fault}
use Rattle.cs_audit_rules.proofs.Parts.{neither_there, map_none, passed, of_flat, of_filter}
use Rattle.cs_audit.specs.declared.ledger.Ledger.{Ledger}
use Rattle.cs_audit.specs.Ledgers.{ShowsLedger, has_room_for, seen_tx}
use Rattle.cs_audit.specs.Committed.{Places, first_tx, FindsTransactions, is_told, GoesOn}
use Rattle.cs_audit.proofs.Telling.{is_of, first-is, all-told, one-untold}

pub nothing-in : (places : Places) → length places ≡ 0 → places ≡ []
nothing-in [] none = refl
nothing-in (place ∷ places) none = absurd (omega arith)

-- ---- what was prepared is well formed and approved

abbrev Good : (Tx → Bool) → Tx → Type 0
Good approves tx = (is_well_formed (seen_tx approves tx) && (seen_tx approves tx).approved) ≡ true

module _ (setup : Setup) where
  leaf-formed : (shard : ℕ) (heads : List Bytes) (stand : rules.Stand) (leaf : Leaf) → broken_by setup shard heads stand leaf ≡ None
      → (is_fit setup shard (session_in leaf.action) ≡ true) × (is_judged setup leaf.action ≡ true)
  leaf-formed shard heads stand leaf none =
      let head = is_head heads (made_last (rules.after_leaf setup shard stand leaf).log) in
      let after_result = if not head then Some rule.Head else None in
      let after_judge = if not (is_result setup shard stand leaf) then Some rule.Result else after_result in
      let after_form = if not (is_judged setup leaf.action) then Some rule.Judge else after_judge in
      let after_slot = if not (is_fit setup shard (session_in leaf.action)) then Some rule.Form else after_form in
      let slot = passed (leaf.slot == length stand.log.leaves) rule.Slot after_slot none in
      let form = passed (is_fit setup shard (session_in leaf.action)) rule.Form after_form slot.1 in
      let judge = passed (is_judged setup leaf.action) rule.Judge after_judge form.1 in
      (form.0, judge.0)

  leaves-formed : (shard : ℕ) (heads : List Bytes) (stand : rules.Stand) (leaves : List Leaf) → leaves_fault setup shard heads stand leaves ≡ None → (leaf : Leaf) → IsIn leaf leaves
      → (is_fit setup shard (session_in leaf.action) ≡ true) × (is_judged setup leaf.action ≡ true)
  leaves-formed shard heads stand [] none leaf among = absurd among
  leaves-formed shard heads stand (first ∷ leaves) none leaf among =
      let rest = leaves_fault setup shard heads (rules.after_leaf setup shard stand first) leaves in
      let here = option_map (fault_at shard (length stand.log.leaves)) (broken_by setup shard heads stand first) in
      let both = neither_there here rest none in
      elim among [
        | inl same ↦
            subst (λ (l : Leaf). (is_fit setup shard (session_in l.action) ≡ true) × (is_judged setup l.action ≡ true)) (sym same)
            (leaf-formed shard heads stand first (map_none (fault_at shard (length stand.log.leaves)) (broken_by setup shard heads stand first) both.0))
        | inr later ↦ leaves-formed shard heads (rules.after_leaf setup shard stand first) leaves both.1 leaf later
      ]

  logs-formed : (shard : ℕ) (logs : List Log) → logs_fault setup shard logs ≡ None → (log : Log) (leaf : Leaf) → IsIn log logs → IsIn leaf log.leaves
      → (at : ℕ) × (is_fit setup at (session_in leaf.action) ≡ true) × (is_judged setup leaf.action ≡ true)
  logs-formed shard [] none log leaf among told = absurd among
  logs-formed shard (first ∷ logs) none log leaf among told =
      let both = neither_there (log_fault setup shard first) (logs_fault setup (shard + 1) logs) none in
      elim among [
        | inl same ↦
            let here = leaves-formed shard first.heads (rules.start_stand setup shard) first.leaves both.0 leaf (subst (λ (l : Log). IsIn leaf l.leaves) same told) in
            (shard, here.0, here.1)
        | inr later ↦ logs-formed (shard + 1) logs both.1 log leaf later told
      ]

module _ (approves : Tx → Bool) (dump : Dump) where
  abbrev setup : Setup
  setup = deployed_setup dump.config dump.genesis approves

  abbrev sessions : List Session
  sessions = committed setup dump.logs

  abbrev txs : List Transaction
  txs = transactions setup dump.logs

  both-true : (a b c : Bool) → (a && b) ≡ true → c ≡ true → (a && c) ≡ true
  both-true true b c h k = k
  both-true false b c h k = h

  prepared-good : (entry : Action) (x : Session) → IsIn x (prepared_session entry) → (at : ℕ) → is_fit setup at (session_in entry) ≡ true → is_judged setup entry ≡ true → Good approves x.tx
  prepared-good (Prepare y) x (inl same) at fit judged =
      subst (λ (z : Session). Good approves z.tx) (sym same)
      (both-true (is_well_formed (ledger_session approves y).transaction) (Seen.has_its_dummies setup.rules (ledger_session approves y)) (ledger_session approves y).transaction.approved
      (and_parts (Seen.well_formed setup.rules (setup.session_of y)) (Seen.concerns setup.rules (setup.session_of y) at) fit).0 judged)
  prepared-good (Prepare y) x (inr later) at fit judged = absurd later
  prepared-good (Decide vote y) x among at fit judged = absurd among

  pub good : logs_fault setup 0 dump.logs ≡ None → (x : Session) → IsIn x sessions → Good approves x.tx
  good none x among =
      let of = of_filter (all_logs_commit setup dump.logs) x (sessions_in_logs dump.logs) among in
      let log = of_flat (λ (log : Log). flat_map (λ (leaf : Leaf). prepared_session leaf.action) log.leaves) x dump.logs of.0 in
      let leaf = of_flat (λ (leaf : Leaf). prepared_session leaf.action) x log.0.leaves log.2 in
      let formed = logs-formed setup 0 dump.logs none log.0 leaf.0 log.1 leaf.1 in
      prepared-good leaf.0.action x leaf.2 formed.0 formed.1 formed.2

  -- ---- one digest more

  with-digest : (xs : List Session) (d : Bytes) → first_with_digest d (map (λ x. (ledger_session approves x).transaction) xs) ≡ option_map (seen_tx approves) (first_tx d xs)
  with-digest [] d = refl
  with-digest (x ∷ xs) d = by (is_of d x) (with-digest xs d)
    where
      by : (test : Bool) → first_with_digest d (map (λ x. (ledger_session approves x).transaction) xs) ≡ option_map (seen_tx approves) (first_tx d xs)
          → (if test then Some (ledger_session approves x).transaction else find (λ tx. bytes_eq d tx.digest) (map (λ x. (ledger_session approves x).transaction) xs))
          ≡ option_map (seen_tx approves) (option_map (λ (y : Session). y.tx) (if test then Some x else find (is_of d) xs))
      by true rest = refl
      by false rest = rest

  -- what is told so far, and what is left
  pub record ToldSoFar (place : ℕ) (places : Places) (ledger : Ledger) : Type 0 where
    pub plain : Plain
    pub finds : FindsTransactions dump.logs places sessions (take place dump.history)
    pub shows : ShowsLedger ledger plain
    pub left : history_fault txs plain (take place dump.history) (drop place dump.history) ≡ told_fault setup dump

  pub begins : (places : Places) (ledger : Ledger) → FindsTransactions dump.logs places sessions [] → ShowsLedger ledger (genesis_ledger setup.rules.genesis) → ToldSoFar 0 places ledger
  begins places ledger finds shows = record { plain = genesis_ledger setup.rules.genesis; finds = finds; shows = shows; left = refl }

  module _ (none : logs_fault setup 0 dump.logs ≡ None) where
    took : (plain : Plain) (tx : Tx) → Good approves tx → takes plain (seen_tx approves tx) ≡ has_room_for plain (seen_tx approves tx)
    took plain tx fine = ap (λ b. b && has_room_for plain (seen_tx approves tx)) fine

    fine-first : (d : Bytes) (tx : Tx) → first_tx d sessions ≡ Some tx → Good approves tx
    fine-first d tx first = let one = first-is d sessions tx first in subst (Good approves) one.2 (good none one.0 one.1)

    pub told_on : (place : ℕ) (d : Bytes) (places new : Places) (ledger next : Ledger) (so_far : ToldSoFar place places ledger) → place < length dump.history → d ≡ get_or dump.history place []
        → GoesOn dump.logs approves sessions so_far.plain (take place dump.history) d new next → ToldSoFar (place + 1) new next
    told_on place d places new ledger next so_far less is on =
        let earlier : List Bytes = take place dump.history in
        let later : List Bytes = drop (place + 1) dump.history in
        let parts = and_parts (not (has d earlier)) (has_room_for so_far.plain (seen_tx approves on.tx)) on.told in
        let after : Plain = ledger_after so_far.plain (seen_tx approves on.tx) in
        let more : take (place + 1) dump.history ≡ earlier ++ d ∷ [] = take_more dump.history place [] less ∙ ap (λ x. earlier ++ x ∷ []) (sym is) in
        let split : drop place dump.history ≡ d ∷ later = rw add-one (drop-cons dump.history place [] less) ∙ ap (λ x. x ∷ later) (sym is) in
        let found : first_with_digest d txs ≡ Some (seen_tx approves on.tx) = with-digest sessions d ∙ ap (option_map (seen_tx approves)) on.first in
        let taken : (not (has d earlier) && takes so_far.plain (seen_tx approves on.tx)) ≡ true =
        ap (λ b. not (has d earlier) && b) (took so_far.plain on.tx (fine-first d on.tx on.first)) ∙ on.told in
        record {
          plain = after;
          finds = subst (FindsTransactions dump.logs new sessions) (sym more) on.finds;
          shows = on.shows;
          left =
              ap (λ xs. history_fault txs after xs later) more
              ∙ sym (ap (λ (b : Bool). if b then history_fault txs after (earlier ++ d ∷ []) later else Some (history_fault_at (length earlier))) taken)
              ∙ sym (ap (λ (o : Option Transaction). then_told so_far.plain d earlier o (λ l. history_fault txs l (earlier ++ d ∷ []) later)) found)
              ∙ sym (ap (history_fault txs so_far.plain earlier) split) ∙ so_far.left;
        }

    pub told_off : (place : ℕ) (d : Bytes) (places : Places) (ledger : Ledger) (so_far : ToldSoFar place places ledger) → place < length dump.history → d ≡ get_or dump.history place []
        → is_told approves so_far.plain (take place dump.history) d (first_tx d sessions) ≡ false → Some (history_fault_at place) ≡ told_fault setup dump
    told_off place d places ledger so_far less is off =
        let earlier : List Bytes = take place dump.history in
        let later : List Bytes = drop (place + 1) dump.history in
        let split : drop place dump.history ≡ d ∷ later = rw add-one (drop-cons dump.history place [] less) ∙ ap (λ x. x ∷ later) (sym is) in
        let count : length earlier ≡ place = length-take-le place dump.history (omega arith) in
        sym (ap (λ n. Some (history_fault_at n)) count)
        ∙ sym (by (first_tx d sessions) refl off)
        ∙ sym (ap (λ (o : Option Transaction). then_told so_far.plain d earlier o (λ l. history_fault txs l (earlier ++ d ∷ []) later)) (with-digest sessions d))
        ∙ sym (ap (history_fault txs so_far.plain earlier) split) ∙ so_far.left
      where
        by : (o : Option Tx) → first_tx d sessions ≡ o → is_told approves so_far.plain (take place dump.history) d o ≡ false
            → then_told so_far.plain d (take place dump.history) (option_map (seen_tx approves) o) (λ l. history_fault txs l (take place dump.history ++ d ∷ []) (drop (place + 1) dump.history))
            ≡ Some (history_fault_at (length (take place dump.history)))
        by None first never = refl
        by (Some tx) first never =
            ap (λ (b : Bool). if b then history_fault txs (ledger_after so_far.plain (seen_tx approves tx)) (take place dump.history ++ d ∷ []) (drop (place + 1) dump.history) else Some (history_fault_at (length (take place dump.history))))
            (ap (λ b. not (has d (take place dump.history)) && b) (took so_far.plain tx (fine-first d tx first)) ∙ never)

  -- ---- the end

  all-from : (p : Transaction → Bool) (xs : List Session) → ((x : Session) → IsIn x xs → p (ledger_session approves x).transaction ≡ true) → list_all p (map (λ x. (ledger_session approves x).transaction) xs) ≡ true
  all-from p [] h = refl
  all-from p (x ∷ xs) h = (λ i. h x (inl refl) i && list_all p (map (λ x. (ledger_session approves x).transaction) xs)) ∙ all-from p xs (λ y among. h y (inr among))

  one-not : (p : Transaction → Bool) (xs : List Session) (x : Session) → IsIn x xs → p (ledger_session approves x).transaction ≡ false → list_all p (map (λ x. (ledger_session approves x).transaction) xs) ≡ false
  one-not p [] x among h = absurd among
  one-not p (y ∷ xs) x (inl same) h = ap (λ b. b && list_all p (map (λ x. (ledger_session approves x).transaction) xs)) (ap (λ (z : Session). p (ledger_session approves z).transaction) (sym same) ∙ h)
  one-not p (y ∷ xs) x (inr later) h = ap (λ b. p (ledger_session approves y).transaction && b) (one-not p xs x later h) ∙ zeros (p (ledger_session approves y).transaction)
    where
      zeros : (b : Bool) → (b && false) ≡ false
      zeros true = refl
      zeros false = refl

  abbrev end_of : List Bytes → Bool → Option Fault
  end_of told whole = if whole then None else Some (history_fault_at (length told))

  at-end : (place : ℕ) (places : Places) (ledger : Ledger) (so_far : ToldSoFar place places ledger) → length dump.history ≤ place
      → (take place dump.history ≡ dump.history) × (ends_whole txs (take place dump.history) ≡ told_fault setup dump)
  at-end place places ledger so_far over =
      (whole dump.history place over, sym (ap (history_fault txs so_far.plain (take place dump.history)) (drop_of_length-le dump.history over)) ∙ so_far.left)
    where
      whole : (xs : List Bytes) (n : ℕ) → length xs ≤ n → take n xs ≡ xs
      whole [] zero less = refl
      whole [] (suc n) less = refl
      whole (x ∷ xs) zero less = absurd (omega arith)
      whole (x ∷ xs) (suc n) less = ap (λ zs. x ∷ zs) (whole xs n (omega arith))

  pub ends_whole-so : (place : ℕ) (places : Places) (ledger : Ledger) → ToldSoFar place places ledger → length dump.history ≤ place → places ≡ [] → None ≡ told_fault setup dump
  ends_whole-so place places ledger so_far over empty =
      sym (ap (end_of (take place dump.history)) (all-from (λ tx. has tx.digest (take place dump.history)) sessions (all-told dump.logs sessions (take place dump.history) places so_far.finds empty)))
      ∙ (at-end place places ledger so_far over).1

  pub ends_short : (place : ℕ) (places : Places) (ledger : Ledger) → ToldSoFar place places ledger → length dump.history ≤ place → (places ≡ [] → ⊥) → Some (history_fault_at (length dump.history)) ≡ told_fault setup dump
  ends_short place [] ledger so_far over some = absurd (some refl)
  ends_short place (first ∷ more) ledger so_far over some =
      let one = one-untold dump.logs sessions (take place dump.history) (first ∷ more) so_far.finds first more refl in
      let end = at-end place (first ∷ more) ledger so_far over in
      ap (λ xs. Some (history_fault_at (length xs))) (sym end.0)
      ∙ sym (ap (end_of (take place dump.history)) (one-not (λ tx. has tx.digest (take place dump.history)) sessions one.0 one.1 one.2))
      ∙ end.1
