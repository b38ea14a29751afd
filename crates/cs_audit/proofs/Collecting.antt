-- The committed transactions are collected leaf by leaf, and log by log.
use Rattle.std.proofs.Common.{◌≡◌, ℕ, zero, suc, ◌+◌, ◌<◌, ◌≤◌, Bool, true, false, List, [], ◌∷◌, ◌++◌, length, take, get_or, filter, option_map, Some, refl, ap, sym, subst, ◌∙◌, append-nil, append_assoc, arith}
use Rattle.std.specs.Prelude.{if◌then◌else◌, slice_get}
use Rattle.std.specs.List.{flat_map}
use Rattle.std.specs.Option.{option_and_then}
use Rattle.std.proofs.lemmas.List.{take_more}
use Rattle.std.proofs.lemmas.Grind.{flat_map-append}
use Rattle.cs_tx_types.specs.declared.action.Action.{Action}
use Rattle.cs_tx_types.specs.declared.action.Action.TheVariants.{Prepare, Decide}
use Rattle.cs_tx_types.specs.declared.leaf.Leaf.{Leaf}
use Rattle.cs_tx_types.specs.declared.session.Session.{Session}
use Rattle.cs_node_state.specs.Setup.{Setup}
use Rattle.cs_tx_types.specs.Session.{session_in}
use Rattle.cs_audit_dump.specs.declared.dump.Log.{Log}
use Rattle.cs_audit_rules.specs.History.{prepared_session, sessions_in_logs}
use Rattle.cs_audit_rules.specs.Support.{all_logs_commit}
use Rattle.cs_audit.specs.Committed.{Places, tx_in, tx_in_logs, commits, FindsTransactions}

-- what a leaf adds
pub kept-of : (setup : Setup) (logs : List Log) (entry : Action) → filter (all_logs_commit setup logs) (prepared_session entry) ≡ (if commits setup logs entry then session_in entry ∷ [] else [])
kept-of setup logs (Prepare x) = refl
kept-of setup logs (Decide vote x) = refl

pub none-of : (setup : Setup) (logs : List Log) (entry : Action) (sessions : List Session) (places : Places) → commits setup logs entry ≡ false → FindsTransactions logs places sessions []
    → FindsTransactions logs places (sessions ++ filter (all_logs_commit setup logs) (prepared_session entry)) []
none-of setup logs entry sessions places never finds =
    subst (λ xs. FindsTransactions logs places xs []) (sym (ap (λ xs. sessions ++ xs) (kept-of setup logs entry ∙ ap (λ (b : Bool). if b then session_in entry ∷ [] else []) never) ∙ append-nil sessions)) finds

pub one-of : (setup : Setup) (logs : List Log) (entry : Action) (sessions : List Session) (places : Places) → commits setup logs entry ≡ true → FindsTransactions logs places (sessions ++ session_in entry ∷ []) []
    → FindsTransactions logs places (sessions ++ filter (all_logs_commit setup logs) (prepared_session entry)) []
one-of setup logs entry sessions places always finds =
    subst (λ xs. FindsTransactions logs places xs []) (sym (ap (λ xs. sessions ++ xs) (kept-of setup logs entry ∙ ap (λ (b : Bool). if b then session_in entry ∷ [] else []) always))) finds

-- where the transaction of a leaf stands
pub place-of : (logs : List Log) (shard slot : ℕ) (log : Log) (leaf : Leaf) → slice_get logs shard ≡ Some log → slice_get log.leaves slot ≡ Some leaf → tx_in_logs logs (shard, slot) ≡ Some (session_in leaf.action).tx
place-of logs shard slot log leaf at in_log =
    ap (option_and_then (λ (l : Log). tx_in l slot)) at ∙ ap (option_map (λ (l : Leaf). (session_in l.action).tx)) in_log

filter-append : {A : Type 0} (p : A → Bool) (xs ys : List A) → filter p (xs ++ ys) ≡ filter p xs ++ filter p ys
filter-append p [] ys = refl
filter-append p (x ∷ xs) ys = by (p x) (filter-append p xs ys)
  where
    by : (b : Bool) → filter p (xs ++ ys) ≡ filter p xs ++ filter p ys → (if b then x ∷ filter p (xs ++ ys) else filter p (xs ++ ys)) ≡ (if b then x ∷ filter p xs else filter p xs) ++ filter p ys
    by true rest = ap (λ zs. x ∷ zs) rest
    by false rest = rest

module _ (setup : Setup) (logs : List Log) where
  abbrev pub committed_in : List Leaf → List Session
  committed_in leaves = filter (all_logs_commit setup logs) (flat_map (λ (leaf : Leaf). prepared_session leaf.action) leaves)

  -- one leaf more
  pub leaf-more : (leaves : List Leaf) (slot : ℕ) (leaf : Leaf) (sessions : List Session) (places : Places) → slot < length leaves → leaf ≡ get_or leaves slot leaf
      → FindsTransactions logs places ((sessions ++ committed_in (take slot leaves)) ++ filter (all_logs_commit setup logs) (prepared_session leaf.action)) [] → FindsTransactions logs places (sessions ++ committed_in (take (slot + 1) leaves)) []
  leaf-more leaves slot leaf sessions places less is finds =
      let more : take (slot + 1) leaves ≡ take slot leaves ++ leaf ∷ [] = take_more leaves slot leaf less ∙ ap (λ x. take slot leaves ++ x ∷ []) (sym is) in
      let all : committed_in (take (slot + 1) leaves) ≡ committed_in (take slot leaves) ++ filter (all_logs_commit setup logs) (prepared_session leaf.action) =
      ap committed_in more
      ∙ ap (filter (all_logs_commit setup logs)) (flat_map-append (λ (l : Leaf). prepared_session l.action) (take slot leaves) (leaf ∷ []) ∙ ap (λ xs. flat_map (λ (l : Leaf). prepared_session l.action) (take slot leaves) ++ xs) (append-nil (prepared_session leaf.action)))
      ∙ filter-append (all_logs_commit setup logs) (flat_map (λ (l : Leaf). prepared_session l.action) (take slot leaves)) (prepared_session leaf.action) in
      subst (λ xs. FindsTransactions logs places xs []) (append_assoc sessions (committed_in (take slot leaves)) (filter (all_logs_commit setup logs) (prepared_session leaf.action)) ∙ ap (λ xs. sessions ++ xs) (sym all)) finds

  -- one log more
  pub log-more : (some : List Log) (shard : ℕ) (log : Log) (places : Places) → shard < length some → log ≡ get_or some shard log
      → FindsTransactions logs places (filter (all_logs_commit setup logs) (sessions_in_logs (take shard some)) ++ committed_in log.leaves) [] → FindsTransactions logs places (filter (all_logs_commit setup logs) (sessions_in_logs (take (shard + 1) some))) []
  log-more some shard log places less is finds =
      let of_log : Log → List Session = λ l. flat_map (λ (leaf : Leaf). prepared_session leaf.action) l.leaves in
      let more : take (shard + 1) some ≡ take shard some ++ log ∷ [] = take_more some shard log less ∙ ap (λ x. take shard some ++ x ∷ []) (sym is) in
      let all : filter (all_logs_commit setup logs) (sessions_in_logs (take (shard + 1) some)) ≡ filter (all_logs_commit setup logs) (sessions_in_logs (take shard some)) ++ committed_in log.leaves =
      ap (λ xs. filter (all_logs_commit setup logs) (sessions_in_logs xs)) more
      ∙ ap (filter (all_logs_commit setup logs)) (flat_map-append of_log (take shard some) (log ∷ []) ∙ ap (λ xs. sessions_in_logs (take shard some) ++ xs) (append-nil (of_log log)))
      ∙ filter-append (all_logs_commit setup logs) (sessions_in_logs (take shard some)) (of_log log) in
      subst (λ xs. FindsTransactions logs places xs []) (sym all) finds

pub nothing-yet : (logs : List Log) (sessions : List Session) (places : Places) → FindsTransactions logs places sessions [] → FindsTransactions logs places (sessions ++ []) []
nothing-yet logs sessions places finds = subst (λ xs. FindsTransactions logs places xs []) (sym (append-nil sessions)) finds

pub all-leaves : (leaves : List Leaf) (n : ℕ) → length leaves ≤ n → take n leaves ≡ leaves
all-leaves [] zero less = refl
all-leaves [] (suc n) less = refl
all-leaves (leaf ∷ leaves) zero less = absurd (omega arith)
all-leaves (leaf ∷ leaves) (suc n) less = ap (λ xs. leaf ∷ xs) (all-leaves leaves n (omega arith))

pub all-logs : (logs : List Log) (n : ℕ) → length logs ≤ n → take n logs ≡ logs
all-logs [] zero less = refl
all-logs [] (suc n) less = refl
all-logs (log ∷ logs) zero less = absurd (omega arith)
all-logs (log ∷ logs) (suc n) less = ap (λ xs. log ∷ xs) (all-logs logs n (omega arith))
