-- The lines of a dump, read one after the other, give the dump.
use Rattle.std.specs.Prelude.{◌≡◌, ◌≢◌, ℕ, ◌+◌, ◌-◌, ◌/◌, ◌<◌, ◌≤◌, ◌^◌, nat_lt, Bool, true, false, List, [], ◌∷◌, ◌++◌, length, map, None, Result, Ok, codes}
use Rattle.std.specs.List.{AllByRecursion, AllPairs}
use Rattle.std.proofs.Common.{◌∙◌, sym, ap, refl, subst, arith, append_assoc, append-nil, suc}
use Rattle.std.proofs.lemmas.Bool.{lt-ltb, le-ltb}
use Rattle.std.proofs.lemmas.Bool.Decides.{nat_tests}
use Rattle.std.proofs.lemmas.List.{length-append}
use Rattle.cs_base.specs.Config.{config_of, configured, first_out, unless_out}
use Rattle.cs_base.specs.Fields.{IsBytes}
use Rattle.cs_base.specs.declared.config.Config.{Config}
use Rattle.cs_base.specs.declared.limits.TheConstants.{MOST_SHARDS, MOST_LIARS, MOST_DUMMIES, MOST_GENESIS}
use Rattle.cs_base.proofs.Configs.{configured-config}
use Rattle.cs_tx_value.specs.Object.{object_encoding, DigestFits, ObjectFits}
use Rattle.cs_tx_value.specs.declared.object.Object.{Object}
use Rattle.cs_tx_types.specs.declared.leaf.Leaf.{Leaf}
use Rattle.cs_base.specs.declared.version.Version.TheVariants.{One}
use Rattle.cs_tx_types.specs.Log.{leaf_encoding, LeafFits}
use Rattle.cs_tx.specs.Digest.{name_of_genesis}
use Rattle.cs_tx.specs.GenesisNames.{is_known, genesis_names}
use Rattle.cs_sched.specs.declared.limits.TheConstants.{MOST_CONTRACTS}
use Rattle.cs_sched.specs.Playable.{IsContractText}
use Rattle.cs_text.specs.Printed.{number_words}
use Rattle.cs_text.proofs.Back.{digest_back}
use Rattle.cs_sched.specs.Printed.{contract_words, object_words, contract_lines, genesis_lines}
use Rattle.cs_sched.specs.Values.{config_in_range}
use Rattle.cs_text.specs.declared.cause.Cause.{Cause}
use Rattle.cs_tx.proofs.GenesisNames.{genesis_names-append}
use Rattle.cs_audit_dump.specs.Drafts.{empty_dump_draft, empty_dump_log}
use Rattle.cs_audit_dump.specs.Lines.{log_settled}
use Rattle.cs_audit_dump.specs.declared.draft.Draft.{Draft}
use Rattle.cs_audit_dump.specs.declared.draft.Stage.{Stage}
use Rattle.cs_audit_dump.specs.declared.draft.Stage.TheVariants as stage
use Rattle.cs_audit_dump.specs.declared.dump.Log.{Log}
use Rattle.cs_audit_dump.specs.Printed.{leaf_words, head_words, tx_words, log_words, log_lines, logs_lines, config_lines, dump_history_lines}
use Rattle.cs_audit_dump.specs.Again.{IsEncodedLog}
use Rattle.cs_audit_dump.specs.Formed.{IsFormedLog}
use Rattle.cs_sched.proofs.Fields.{shards_back, faulty_back, dummies_back, contract_back, object_back, next_new}
use Rattle.cs_audit_dump.proofs.Fields.{log_back, leaf_back, txs_back}
use Rattle.cs_audit_dump.proofs.Steps.{dump_step, steps, then_step, steps_then}

-- a draft between logs, whose names are those of its objects
abbrev pub made : Stage → Config → List (List ℕ) → List Object → List Log → List (List ℕ) → ℕ → Draft
made place config contracts genesis logs history left = record {
  stage = place;
  dump = record { config = config; contracts = contracts; genesis = genesis; logs = logs; history = history };
  names = genesis_names 0 genesis;
  log = empty_dump_log;
  leaves_left = 0;
  heads_left = 0;
  txs_left = left;
}

abbrev done : Draft → Result Draft Cause
done draft = Ok draft

-- the places at which an object can stand: before the first one, and behind it
abbrev pub genesis_stage : Bool → Stage
genesis_stage false = stage.Contracts
genesis_stage true = stage.Genesis

-- ---- the configuration

pub reads_config : (config : Config) → config.version ≡ 1 → steps empty_dump_draft ((codes "dump" ∷ []) ∷ config_lines config) ≡ Ok (made stage.Contracts config [] [] [] [] 0)
reads_config config one =
    let least = config_of 1 0 0 in
    let first = config_of config.shards 0 0 in
    let second = config_of config.shards config.f 0 in
    let some_shard : 0 < config.shards = config.some_shard in
    let few_shards : config.shards ≤ MOST_SHARDS = config.few_shards in
    let few_liars : config.f ≤ MOST_LIARS = config.few_liars in
    let few_dummies : config.dummies ≤ MOST_DUMMIES = config.few_dummies in
    let same : first.shards ≡ config.shards = omega arith in
    let same_f : second.f ≡ config.f = omega arith in
    let out : first_out config.shards 0 0 ≡ None = grind (arith, nat_tests) in
    let out_f : first_out config.shards config.f 0 ≡ None = grind (arith, nat_tests) in
    let sharded : config_in_range (configured config.shards 0 0) ≡ Ok first = ap (λ field. config_in_range (unless_out first field)) out in
    let trusted : config_in_range (configured first.shards config.f 0) ≡ Ok second =
    ap (λ n. config_in_range (configured n config.f 0)) same ∙ ap (λ field. config_in_range (unless_out second field)) out_f in
    let whole : config_in_range (configured second.shards second.f config.dummies) ≡ Ok config =
    ap (λ n. config_in_range (configured n second.f config.dummies)) same ∙ ap (λ n. config_in_range (configured config.shards n config.dummies)) same_f ∙ ap config_in_range (configured-config config one) in
    let begun = made stage.Shards least [] [] [] [] 0 in
    let shards : dump_step begun (number_words (codes "shards") config.shards) ≡ Ok (made stage.Faulty first [] [] [] [] 0) = rw (shards_back least first config.shards (omega arith) sharded) refl in
    let faulty : dump_step (made stage.Faulty first [] [] [] [] 0) (number_words (codes "faulty") config.f) ≡ Ok (made stage.Dummies second [] [] [] [] 0) = rw (faulty_back first second config.f (omega arith) trusted) refl in
    let dummies : dump_step (made stage.Dummies second [] [] [] [] 0) (number_words (codes "dummies") config.dummies) ≡ Ok (made stage.Contracts config [] [] [] [] 0) = rw (dummies_back second config config.dummies (omega arith) whole) refl in
    rw (shards, faulty, dummies) refl

module _ (config : Config) where
  -- ---- contracts

  contract_step : (before : List (List ℕ)) (text : List ℕ) → IsContractText text → length before < MOST_CONTRACTS
      → dump_step (made stage.Contracts config before [] [] [] 0) (contract_words text) ≡ Ok (made stage.Contracts config (before ++ text ∷ []) [] [] [] 0)
  contract_step before text fits few = rw (contract_back (length before) text few fits) refl

  pub reads_contracts : (texts before : List (List ℕ)) → AllByRecursion IsContractText texts → length before + length texts ≤ MOST_CONTRACTS
      → steps (made stage.Contracts config before [] [] [] 0) (contract_lines texts) ≡ Ok (made stage.Contracts config (before ++ texts) [] [] [] 0)
  reads_contracts [] before fit few = ap (λ all. Ok (made stage.Contracts config all [] [] [] 0)) (sym (append-nil before))
  reads_contracts (text ∷ texts) before fit few =
      let more = length-append before (text ∷ []) in
      then_step (made stage.Contracts config before [] [] [] 0) (made stage.Contracts config (before ++ text ∷ []) [] [] [] 0) (made stage.Contracts config (before ++ text ∷ texts) [] [] [] 0)
      (contract_words text) (contract_lines texts) (contract_step before text fit.0 (omega arith))
      (reads_contracts texts (before ++ text ∷ []) fit.1 (omega arith) ∙ ap (λ all. Ok (made stage.Contracts config all [] [] [] 0)) (append_assoc before (text ∷ []) texts))

  module _ (contracts : List (List ℕ)) where
    -- ---- objects

    named : (before : List Object) (object : Object) → genesis_names 0 (before ++ object ∷ []) ≡ genesis_names 0 before ++ name_of_genesis (length before) object ∷ []
    named before object =
        let zero_first : 0 + length before ≡ length before = omega arith in
        genesis_names-append 0 before object ∙ rw zero_first refl

    object_step : (any : Bool) (before : List Object) (object : Object) → ObjectFits object → IsBytes (object_encoding object) → length before < MOST_GENESIS
        → is_known (name_of_genesis (length before) object) (genesis_names 0 before) ≡ false
        → dump_step (made (genesis_stage any) config contracts before [] [] 0) (object_words object) ≡ Ok (made stage.Genesis config contracts (before ++ object ∷ []) [] [] 0)
    object_step false before object fits encoded few new = rw (object_back (length before) object few fits encoded, new, named before object) refl
    object_step true before object fits encoded few new = rw (object_back (length before) object few fits encoded, new, named before object) refl

    abbrev pub any_of : {A : Type 0} → Bool → List A → Bool
    any_of any [] = any
    any_of any (x ∷ xs) = true

    pub reads_objects : (objects before : List Object) (any : Bool) → AllByRecursion ObjectFits objects → AllByRecursion (λ object. IsBytes (object_encoding object)) objects
        → length before + length objects ≤ MOST_GENESIS → AllPairs (λ a b. a ≢ b) (genesis_names 0 (before ++ objects))
        → steps (made (genesis_stage any) config contracts before [] [] 0) (genesis_lines objects) ≡ Ok (made (genesis_stage (any_of any objects)) config contracts (before ++ objects) [] [] 0)
    reads_objects [] before any fit encoded few differ = ap (λ all. Ok (made (genesis_stage any) config contracts all [] [] 0)) (sym (append-nil before))
    reads_objects (object ∷ objects) before any fit encoded few differ =
        let more = length-append before (object ∷ []) in
        let same = append_assoc before (object ∷ []) objects in
        then_step (made (genesis_stage any) config contracts before [] [] 0) (made stage.Genesis config contracts (before ++ object ∷ []) [] [] 0) (made stage.Genesis config contracts (before ++ object ∷ objects) [] [] 0)
        (object_words object) (genesis_lines objects) (object_step any before object fit.0 encoded.0 (omega arith) (next_new before object objects differ))
        (reads_objects objects (before ++ object ∷ []) true fit.1 encoded.1 (omega arith) (subst (λ all. AllPairs (λ a b. a ≢ b) (genesis_names 0 all)) (sym same) differ)
        ∙ ap done (stays objects) ∙ ap (λ all. Ok (made stage.Genesis config contracts all [] [] 0)) same)
      where
        stays : (rest : List Object) → made (genesis_stage (any_of true rest)) config contracts ((before ++ object ∷ []) ++ objects) [] [] 0 ≡ made stage.Genesis config contracts ((before ++ object ∷ []) ++ objects) [] [] 0
        stays [] = refl
        stays (x ∷ xs) = refl

    module _ (genesis : List Object) where
      -- ---- logs

      -- so many leaves and heads of a log are still to come
      abbrev within : List Log → Log → ℕ → ℕ → Draft
      within logs log leaves heads = record {
        stage = stage.Logs;
        dump = record { config = config; contracts = contracts; genesis = genesis; logs = logs; history = [] };
        names = genesis_names 0 genesis;
        log = log;
        leaves_left = leaves;
        heads_left = heads;
        txs_left = 0;
      }

      some : (n : ℕ) → nat_lt 0 (suc n) ≡ true
      some n = lt-ltb 0 (suc n) (omega arith)

      none : nat_lt 0 0 ≡ false
      none = le-ltb 0 0 (omega arith)

      leaf_step : (logs : List Log) (log : Log) (leaf : Leaf) (leaves heads : ℕ) → LeafFits One leaf → IsBytes (leaf_encoding One leaf)
          → dump_step (within logs log (suc leaves) heads) (leaf_words leaf) ≡ Ok (log_settled (within logs (record { leaves = log.leaves ++ leaf ∷ []; heads = log.heads }) leaves heads))
      leaf_step logs log leaf leaves heads fits encoded =
          let less : suc leaves - 1 ≡ leaves = omega arith in
          rw (some leaves, leaf_back leaf fits encoded) (ap (λ n. Ok (log_settled (within logs (record { leaves = log.leaves ++ leaf ∷ []; heads = log.heads }) n heads))) less)

      head_step : (logs : List Log) (log : Log) (head : List ℕ) (heads : ℕ) → DigestFits head
          → dump_step (within logs log 0 (suc heads)) (head_words head) ≡ Ok (log_settled (within logs (record { leaves = log.leaves; heads = log.heads ++ head ∷ [] }) 0 heads))
      head_step logs log head heads fits =
          let less : suc heads - 1 ≡ heads = omega arith in
          rw (some heads, digest_back head fits) (ap (λ n. Ok (log_settled (within logs (record { leaves = log.leaves; heads = log.heads ++ head ∷ [] }) 0 n))) less)

      open_leaves : (logs : List Log) (log : Log) (leaves heads : ℕ) → log_settled (within logs log (suc leaves) heads) ≡ within logs log (suc leaves) heads
      open_leaves logs log leaves heads = rw (some leaves) refl

      open_heads : (logs : List Log) (log : Log) (heads : ℕ) → log_settled (within logs log 0 (suc heads)) ≡ within logs log 0 (suc heads)
      open_heads logs log heads = rw (some heads) refl

      reads_heads : (logs : List Log) (log : Log) (heads : List (List ℕ)) → AllByRecursion DigestFits heads
          → steps (log_settled (within logs log 0 (length heads))) (map head_words heads) ≡ Ok (log_settled (within logs (record { leaves = log.leaves; heads = log.heads ++ heads }) 0 0))
      reads_heads logs log [] fit = ap (λ hs. Ok (log_settled (within logs (record { leaves = log.leaves; heads = hs }) 0 0))) (sym (append-nil log.heads))
      reads_heads logs log (head ∷ heads) fit =
          let next : Log = record { leaves = log.leaves; heads = log.heads ++ head ∷ [] } in
          ap (λ d. steps d (map head_words (head ∷ heads))) (open_heads logs log (length heads))
          ∙ then_step (within logs log 0 (suc (length heads))) (log_settled (within logs next 0 (length heads))) (log_settled (within logs (record { leaves = log.leaves; heads = log.heads ++ head ∷ heads }) 0 0))
          (head_words head) (map head_words heads) (head_step logs log head (length heads) fit.0)
          (reads_heads logs next heads fit.1 ∙ ap (λ hs. Ok (log_settled (within logs (record { leaves = log.leaves; heads = hs }) 0 0))) (append_assoc log.heads (head ∷ []) heads))

      reads_leaves : (logs : List Log) (log : Log) (leaves : List Leaf) (heads : ℕ) → AllByRecursion (LeafFits One) leaves → AllByRecursion (λ leaf. IsBytes (leaf_encoding One leaf)) leaves
          → steps (log_settled (within logs log (length leaves) heads)) (map leaf_words leaves) ≡ Ok (log_settled (within logs (record { leaves = log.leaves ++ leaves; heads = log.heads }) 0 heads))
      reads_leaves logs log [] heads fit encoded = ap (λ ls. Ok (log_settled (within logs (record { leaves = ls; heads = log.heads }) 0 heads))) (sym (append-nil log.leaves))
      reads_leaves logs log (leaf ∷ leaves) heads fit encoded =
          let next : Log = record { leaves = log.leaves ++ leaf ∷ []; heads = log.heads } in
          ap (λ d. steps d (map leaf_words (leaf ∷ leaves))) (open_leaves logs log (length leaves) heads)
          ∙ then_step (within logs log (suc (length leaves)) heads) (log_settled (within logs next (length leaves) heads)) (log_settled (within logs (record { leaves = log.leaves ++ leaf ∷ leaves; heads = log.heads }) 0 heads))
          (leaf_words leaf) (map leaf_words leaves) (leaf_step logs log leaf (length leaves) heads fit.0 encoded.0)
          (reads_leaves logs next leaves heads fit.1 encoded.1 ∙ ap (λ ls. Ok (log_settled (within logs (record { leaves = ls; heads = log.heads }) 0 heads))) (append_assoc log.leaves (leaf ∷ []) leaves))

      -- the places at which a log can stand: behind contracts, behind objects, behind logs
      abbrev pub log_stage : Bool → Bool → Stage
      log_stage any false = genesis_stage any
      log_stage any true = stage.Logs

      log_step : (any more : Bool) (logs : List Log) (slots : ℕ) → length logs < config.shards → slots < 2 ^ 64
          → dump_step (made (log_stage any more) config contracts genesis logs [] 0) (log_words (length logs) slots) ≡ Ok (log_settled (within logs empty_dump_log slots (slots / 16)))
      log_step any more logs slots room few = by any more
        where
          small : length logs < 2 ^ 64
          small = let few_shards : config.shards ≤ MOST_SHARDS = config.few_shards in omega arith

          by : (any more : Bool) → dump_step (made (log_stage any more) config contracts genesis logs [] 0) (log_words (length logs) slots) ≡ Ok (log_settled (within logs empty_dump_log slots (slots / 16)))
          by false false = rw (lt-ltb (length logs) config.shards room, log_back (length logs) slots small few) refl
          by true false = rw (lt-ltb (length logs) config.shards room, log_back (length logs) slots small few) refl
          by any true = rw (lt-ltb (length logs) config.shards room, log_back (length logs) slots small few) refl

      reads_log : (any more : Bool) (logs : List Log) (log : Log) → length logs < config.shards → IsFormedLog log → AllByRecursion (LeafFits One) log.leaves → IsEncodedLog log
          → steps (made (log_stage any more) config contracts genesis logs [] 0) (log_lines (length logs) log) ≡ Ok (made stage.Logs config contracts genesis (logs ++ log ∷ []) [] 0)
      reads_log any more logs log room formed fits encoded =
          let leaves = length log.leaves in
          let begun : Log = record { leaves = [] ++ log.leaves; heads = [] } in
          let last : Draft = made stage.Logs config contracts genesis (logs ++ log ∷ []) [] 0 in
          let heads_read : steps (log_settled (within logs begun 0 (leaves / 16))) (map head_words log.heads) ≡ Ok last =
          ap (λ n. steps (log_settled (within logs begun 0 n)) (map head_words log.heads)) (sym formed.heads) ∙ reads_heads logs begun log.heads encoded.heads in
          then_step (made (log_stage any more) config contracts genesis logs [] 0) (log_settled (within logs empty_dump_log leaves (leaves / 16))) last
          (log_words (length logs) leaves) (map leaf_words log.leaves ++ map head_words log.heads) (log_step any more logs leaves room encoded.slots)
          (steps_then (log_settled (within logs empty_dump_log leaves (leaves / 16))) (log_settled (within logs begun 0 (leaves / 16))) last (map leaf_words log.leaves) (map head_words log.heads)
          (reads_leaves logs empty_dump_log log.leaves (leaves / 16) fits encoded.leaves) heads_read)

      pub reads_logs : (any more : Bool) (logs some_logs : List Log) (shard : ℕ) → shard ≡ length logs → length logs + length some_logs ≤ config.shards
          → AllByRecursion IsFormedLog some_logs → AllByRecursion (λ (log : Log). AllByRecursion (LeafFits One) log.leaves) some_logs → AllByRecursion IsEncodedLog some_logs
          → steps (made (log_stage any more) config contracts genesis logs [] 0) (logs_lines shard some_logs) ≡ Ok (made (log_stage any (any_of more some_logs)) config contracts genesis (logs ++ some_logs) [] 0)
      reads_logs any more logs [] shard at room formed fits encoded = ap (λ all. Ok (made (log_stage any more) config contracts genesis all [] 0)) (sym (append-nil logs))
      reads_logs any more logs (log ∷ some_logs) shard at room formed fits encoded =
          let grown = length-append logs (log ∷ []) in
          let same = append_assoc logs (log ∷ []) some_logs in
          let here = subst (λ n. steps (made (log_stage any more) config contracts genesis logs [] 0) (log_lines n log) ≡ Ok (made stage.Logs config contracts genesis (logs ++ log ∷ []) [] 0)) (sym at)
          (reads_log any more logs log (omega arith) formed.0 fits.0 encoded.0) in
          steps_then (made (log_stage any more) config contracts genesis logs [] 0) (made stage.Logs config contracts genesis (logs ++ log ∷ []) [] 0) (made stage.Logs config contracts genesis (logs ++ log ∷ some_logs) [] 0)
          (log_lines shard log) (logs_lines (shard + 1) some_logs) here
          (reads_logs any true (logs ++ log ∷ []) some_logs (shard + 1) (omega arith) (omega arith) formed.1 fits.1 encoded.1
          ∙ ap done (stays some_logs) ∙ ap (λ all. Ok (made stage.Logs config contracts genesis all [] 0)) same)
        where
          stays : (rest : List Log) → made (log_stage any (any_of true rest)) config contracts genesis ((logs ++ log ∷ []) ++ some_logs) [] 0 ≡ made stage.Logs config contracts genesis ((logs ++ log ∷ []) ++ some_logs) [] 0
          stays [] = refl
          stays (x ∷ xs) = refl

      -- ---- the history

      module _ (logs : List Log) where
        history_step : (any more : Bool) (txs : ℕ) → config.shards ≤ length logs → txs < 2 ^ 64
            → dump_step (made (log_stage any more) config contracts genesis logs [] 0) (number_words (codes "history") txs) ≡ Ok (made stage.History config contracts genesis logs [] txs)
        history_step any more txs all few = by any more
          where
            by : (any more : Bool) → dump_step (made (log_stage any more) config contracts genesis logs [] 0) (number_words (codes "history") txs) ≡ Ok (made stage.History config contracts genesis logs [] txs)
            by false false = rw (le-ltb (length logs) config.shards all, txs_back txs few) refl
            by true false = rw (le-ltb (length logs) config.shards all, txs_back txs few) refl
            by any true = rw (le-ltb (length logs) config.shards all, txs_back txs few) refl

        tx_step : (history : List (List ℕ)) (tx : List ℕ) (left : ℕ) → DigestFits tx
            → dump_step (made stage.History config contracts genesis logs history (suc left)) (tx_words tx) ≡ Ok (made stage.History config contracts genesis logs (history ++ tx ∷ []) left)
        tx_step history tx left fits =
            let less : suc left - 1 ≡ left = omega arith in
            rw (some left, digest_back tx fits) (ap (λ n. Ok (made stage.History config contracts genesis logs (history ++ tx ∷ []) n)) less)

        reads_txs : (history txs : List (List ℕ)) → AllByRecursion DigestFits txs
            → steps (made stage.History config contracts genesis logs history (length txs)) (map tx_words txs) ≡ Ok (made stage.History config contracts genesis logs (history ++ txs) 0)
        reads_txs history [] fit = ap (λ all. Ok (made stage.History config contracts genesis logs all 0)) (sym (append-nil history))
        reads_txs history (tx ∷ txs) fit =
            then_step (made stage.History config contracts genesis logs history (suc (length txs))) (made stage.History config contracts genesis logs (history ++ tx ∷ []) (length txs)) (made stage.History config contracts genesis logs (history ++ tx ∷ txs) 0)
            (tx_words tx) (map tx_words txs) (tx_step history tx (length txs) fit.0)
            (reads_txs (history ++ tx ∷ []) txs fit.1 ∙ ap (λ all. Ok (made stage.History config contracts genesis logs all 0)) (append_assoc history (tx ∷ []) txs))

        pub reads_history : (any more : Bool) (history : List (List ℕ)) → config.shards ≤ length logs → length history < 2 ^ 64 → AllByRecursion DigestFits history
            → steps (made (log_stage any more) config contracts genesis logs [] 0) (dump_history_lines history) ≡ Ok (made stage.History config contracts genesis logs history 0)
        reads_history any more history all few fit =
            then_step (made (log_stage any more) config contracts genesis logs [] 0) (made stage.History config contracts genesis logs [] (length history)) (made stage.History config contracts genesis logs history 0)
            (number_words (codes "history") (length history)) (map tx_words history) (history_step any more (length history) all few) (reads_txs [] history fit)

        pub reads_end : (history : List (List ℕ)) → steps (made stage.History config contracts genesis logs history 0) ((codes "end" ∷ []) ∷ []) ≡ Ok (made stage.Ended config contracts genesis logs history 0)
        reads_end history = refl
