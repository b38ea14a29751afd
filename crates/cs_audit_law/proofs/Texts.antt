-- What a replay dumps is the text of the dump of its world.
use Rattle.std.proofs.Common.{◌≡◌, ℕ, zero, suc, ◌+◌, List, [], ◌∷◌, ◌++◌, length, map, refl, sym, ap, subst, ◌∙◌, arith, append_assoc, append-nil}
use Rattle.std.specs.Prelude.{codes}
use Rattle.std.specs.Fmt.{decimal}
use Rattle.std.specs.List.{flat_map}
use Rattle.std.proofs.lemmas.List.{length-map}
use Rattle.cs_base.specs.Codes.{bytes_text}
use Rattle.cs_base.specs.Fields.{each}
use Rattle.cs_base.proofs.Written.{each-append}
use Rattle.cs_base.specs.declared.config.Config.{Config}
use Rattle.cs_tx_value.specs.Object.{object_encoding}
use Rattle.cs_tx_value.specs.declared.object.Object.{Object}
use Rattle.cs_tx_types.specs.declared.leaf.Leaf.{Leaf}
use Rattle.cs_base.specs.declared.version.Version.TheVariants.{One}
use Rattle.cs_tx_types.specs.Log.{leaf_encoding}
use Rattle.cs_ledger.specs.Ledger.{Bytes, Item, Transaction}
use Rattle.cs_check_rules.specs.Chain.{Log as ChainLog}
use Rattle.cs_node_state.specs.Deployed.{genesis_from}
use Rattle.cs_node_state.specs.Setup.{Setup}
use Rattle.cs_replay_rules.specs.Dumps.{dumped_leaf, dumped_head, log_text, number_line, dumped_genesis, dumped_contract, shard_log, logs_text, dump_text}
use Rattle.cs_replay_rules.specs.Lines.{transaction_lines, history_text}
use Rattle.cs_node_rules.specs.Site.{Site}
use Rattle.cs_node_rules.specs.World.{Happening, Execution, firsts_of, recorded_history}
use Rattle.cs_text.specs.Printed.{line_text, number_words, bytes_words}
use Rattle.cs_sched.specs.Printed.{contract_lines, genesis_lines}
use Rattle.cs_audit_dump.specs.Printed.{leaf_words, head_words, tx_words, log_words, log_lines, logs_lines, config_lines, dump_history_lines, dump_lines, printed_dump}
use Rattle.cs_audit_dump.specs.declared.dump.Dump.{Dump}
use Rattle.cs_audit_dump.specs.declared.dump.Log.{Log}
use Rattle.cs_audit_law.specs.Dumped.{dumped_leaves, dumped_stand, all_heads, dumped_log, dumped_logs}
use Rattle.cs_audit_law.specs.Passing.{DumpsFirsts, told_digests}
use Rattle.cs_audit_law.proofs.Unbroken.{count_logs}

-- ---- one line

one_field : (word field : List ℕ) → line_text (word ∷ field ∷ []) ≡ word ++ 32 ∷ (field ++ 10 ∷ [])
one_field word field = ap (λ (text : List ℕ). word ++ 32 ∷ (text ++ 10 ∷ [])) (append-nil field)

each-flat : {X : Type 0} (write : X → List ℕ) (xs : List X) → each write xs ≡ flat_map write xs
each-flat write [] = refl
each-flat write (x ∷ xs) = ap (λ (text : List ℕ). write x ++ text) (each-flat write xs)

each-same : {X Y : Type 0} (write : Y → List ℕ) (words : X → Y) (line : X → List ℕ) → ((x : X) → write (words x) ≡ line x) → (xs : List X) → each write (map words xs) ≡ flat_map line xs
each-same write words line same [] = refl
each-same write words line same (x ∷ xs) = λ i. same x i ++ each-same write words line same xs i

number_same : (n : ℕ) → (line_text (number_words (codes "shards") n) ≡ number_line (codes "shards ") n)
    × (line_text (number_words (codes "faulty") n) ≡ number_line (codes "faulty ") n)
    × (line_text (number_words (codes "dummies") n) ≡ number_line (codes "dummies ") n)
number_same n = (one_field (codes "shards") (decimal n), one_field (codes "faulty") (decimal n), one_field (codes "dummies") (decimal n))

leaf_same : (leaf : Leaf) → line_text (leaf_words leaf) ≡ dumped_leaf (leaf_encoding One leaf)
leaf_same leaf = one_field (codes "leaf") (bytes_text (leaf_encoding One leaf))

head_same : (head : Bytes) → line_text (head_words head) ≡ dumped_head head
head_same head = one_field (codes "head") (bytes_text head)

contract_same : (text : Bytes) → line_text (bytes_words (codes "contract") text) ≡ dumped_contract text
contract_same text = one_field (codes "contract") (bytes_text text)

flat-map : {X Y : Type 0} (line : Y → List ℕ) (change : X → Y) (xs : List X) → flat_map line (map change xs) ≡ flat_map (λ x. line (change x)) xs
flat-map line change [] = refl
flat-map line change (x ∷ xs) = ap (λ (text : List ℕ). line (change x) ++ text) (flat-map line change xs)

-- ---- logs

log_same : (shard : ℕ) (log : Log) (chain : ChainLog) → chain.leaves ≡ map (leaf_encoding One) log.leaves → all_heads chain ≡ log.heads
    → each line_text (log_lines shard log) ≡ log_text shard chain
log_same shard log chain leaves heads =
    let leaf_part : each line_text (map leaf_words log.leaves) ≡ flat_map dumped_leaf chain.leaves =
    each-same line_text leaf_words (λ leaf. dumped_leaf (leaf_encoding One leaf)) leaf_same log.leaves ∙ sym (flat-map dumped_leaf (leaf_encoding One) log.leaves) ∙ ap (flat_map dumped_leaf) (sym leaves) in
    let head_part : each line_text (map head_words log.heads) ≡ flat_map dumped_head (all_heads chain) =
    each-same line_text head_words dumped_head head_same log.heads ∙ ap (flat_map dumped_head) (sym heads) in
    let count : length log.leaves ≡ length chain.leaves = sym (length-map log.leaves (leaf_encoding One)) ∙ ap length (sym leaves) in
    let rest : each line_text (map leaf_words log.leaves ++ map head_words log.heads) ≡ flat_map dumped_leaf chain.leaves ++ flat_map dumped_head (all_heads chain) =
    each-append line_text (map leaf_words log.leaves) (map head_words log.heads) ∙ (λ i. leaf_part i ++ head_part i) in
    let first : line_text (log_words shard (length log.leaves)) ≡ codes "log " ++ (decimal shard ++ (codes " " ++ (decimal (length log.leaves) ++ codes "\n"))) =
    ap (λ (text : List ℕ). codes "log " ++ text)
    (append_assoc (decimal shard) (32 ∷ (decimal (length log.leaves) ++ [])) (10 ∷ [])
    ∙ ap (λ (text : List ℕ). decimal shard ++ 32 ∷ (text ++ 10 ∷ [])) (append-nil (decimal (length log.leaves)))) in
    let end = flat_map dumped_leaf chain.leaves ++ flat_map dumped_head (all_heads chain) in
    (λ i. first i ++ rest i)
    ∙ ap (λ (text : List ℕ). codes "log " ++ text)
    (append_assoc (decimal shard) (codes " " ++ (decimal (length log.leaves) ++ codes "\n")) end
    ∙ ap (λ (text : List ℕ). decimal shard ++ (codes " " ++ text)) (append_assoc (decimal (length log.leaves)) (codes "\n") end))
    ∙ ap (λ n. codes "log " ++ (decimal shard ++ (codes " " ++ (decimal n ++ (codes "\n" ++ end))))) count

logs-end : (shard : ℕ) (logs : List Log) (log : Log) → logs_lines shard (logs ++ log ∷ []) ≡ logs_lines shard logs ++ log_lines (shard + length logs) log
logs-end shard [] log =
    let none : shard ≡ shard + 0 = omega arith in
    append-nil (log_lines shard log) ∙ ap (λ n. log_lines n log) none
logs-end shard (first ∷ logs) log =
    let at : shard + 1 + length logs ≡ shard + length (first ∷ logs) = omega arith in
    ap (λ (ls : List (List (List ℕ))). log_lines shard first ++ ls) (logs-end (shard + 1) logs log ∙ ap (λ n. logs_lines (shard + 1) logs ++ log_lines n log) at)
    ∙ sym (append_assoc (log_lines shard first) (logs_lines (shard + 1) logs) (log_lines (shard + length (first ∷ logs)) log))

module _ {M : Type 0} (site : Site M) (world : List (Happening M)) (dumps : DumpsFirsts site world)
    (leaves : (shard : ℕ) → (dumped_stand site.setup shard (firsts_of world)).log.leaves ≡ map (leaf_encoding One) (dumped_leaves shard (firsts_of world))) where
  logs_same : (n : ℕ) → each line_text (logs_lines 0 (dumped_logs site.setup (firsts_of world) n)) ≡ logs_text site world n
  logs_same zero = refl
  logs_same (suc n) =
      let logs = dumped_logs site.setup (firsts_of world) n in
      let log = dumped_log site.setup (firsts_of world) n in
      let at : 0 + length logs ≡ n = (let count = count_logs site.setup (firsts_of world) n in omega arith) in
      let chain = shard_log site world n in
      let here : each line_text (log_lines (0 + length logs) log) ≡ log_text n chain =
      ap (λ k. each line_text (log_lines k log)) at
      ∙ log_same n log chain (ap (λ (l : ChainLog). l.leaves) (dumps n) ∙ leaves n) (ap all_heads (dumps n)) in
      ap (each line_text) (logs-end 0 logs log) ∙ each-append line_text (logs_lines 0 logs) (log_lines (0 + length logs) log) ∙ (λ i. logs_same n i ++ here i)

  -- ---- the history

  txs_same : (txs : List Transaction) → each line_text (map tx_words (map (λ (tx : Transaction). tx.digest) txs)) ≡ transaction_lines txs
  txs_same [] = refl
  txs_same (tx ∷ txs) =
      (λ i. one_field (codes "tx") (bytes_text tx.digest) i ++ txs_same txs i)
      ∙ ap (λ (text : List ℕ). codes "tx " ++ text) (append_assoc (bytes_text tx.digest) (codes "\n") (transaction_lines txs))

  told_same : (txs : List Transaction) (digests : List Bytes) → digests ≡ map (λ (tx : Transaction). tx.digest) txs
      → each line_text (dump_history_lines digests ++ (codes "end" ∷ []) ∷ []) ≡ history_text txs ++ codes "end\n"
  told_same txs digests is =
      let ended : List (List (List ℕ)) = (codes "end" ∷ []) ∷ [] in
      let count : length digests ≡ length txs = ap length is ∙ length-map txs (λ (tx : Transaction). tx.digest) in
      let first : line_text (number_words (codes "history") (length digests)) ≡ codes "history " ++ (decimal (length txs) ++ codes "\n") =
      one_field (codes "history") (decimal (length digests)) ∙ ap (λ n. codes "history " ++ (decimal n ++ codes "\n")) count in
      let lines_are : each line_text (map tx_words digests) ≡ transaction_lines txs = ap (λ ds. each line_text (map tx_words ds)) is ∙ txs_same txs in
      each-append line_text (dump_history_lines digests) ended
      ∙ (λ i. (first i ++ lines_are i) ++ codes "end\n")
      ∙ ap (λ (text : List ℕ). text ++ codes "end\n")
      (ap (λ (text : List ℕ). codes "history " ++ text) (append_assoc (decimal (length txs)) (codes "\n") (transaction_lines txs)))

  -- ---- the whole

  objects_same : (place : ℕ) (objects : List Object) → each line_text (genesis_lines objects) ≡ flat_map dumped_genesis (genesis_from place objects)
  objects_same place [] = refl
  objects_same place (object ∷ objects) = λ i. one_field (codes "genesis") (bytes_text (object_encoding object)) i ++ objects_same (place + 1) objects i

  abbrev dump_in : Config → List Bytes → List Object → Dump
  dump_in config contracts genesis = record {
    config = config;
    contracts = contracts;
    genesis = genesis;
    logs = dumped_logs site.setup (firsts_of world) site.setup.shards;
    history = told_digests site.setup (firsts_of world);
  }

  pub dump_same : (config : Config) (contracts : List Bytes) (genesis : List Object) → site.setup.shards ≡ config.shards → site.setup.f ≡ config.f
      → site.setup.rules.dummies ≡ config.dummies → site.setup.rules.genesis ≡ genesis_from 0 genesis
      → printed_dump (dump_in config contracts genesis) ≡ dump_text site contracts world
  dump_same config contracts genesis shards f dummies genesis_is =
      let logs = dumped_logs site.setup (firsts_of world) site.setup.shards in
      let told_lines = dump_history_lines (told_digests site.setup (firsts_of world)) ++ (codes "end" ∷ []) ∷ [] in
      let told_part = told_same (recorded_history site world) (told_digests site.setup (firsts_of world)) refl in
      let logs_part : each line_text (logs_lines 0 logs ++ told_lines) ≡ logs_text site world site.setup.shards ++ (history_text (recorded_history site world) ++ codes "end\n") =
      each-append line_text (logs_lines 0 logs) told_lines ∙ (λ i. logs_same site.setup.shards i ++ told_part i) in
      let genesis_part : each line_text (genesis_lines genesis ++ (logs_lines 0 logs ++ told_lines)) ≡ flat_map dumped_genesis site.setup.rules.genesis ++ (logs_text site world site.setup.shards ++ (history_text (recorded_history site world) ++ codes "end\n")) =
      each-append line_text (genesis_lines genesis) (logs_lines 0 logs ++ told_lines)
      ∙ (λ i. (objects_same 0 genesis ∙ ap (flat_map dumped_genesis) (sym genesis_is)) i ++ logs_part i) in
      let contracts_same : each line_text (contract_lines contracts) ≡ flat_map dumped_contract contracts = each-same line_text (bytes_words (codes "contract")) dumped_contract contract_same contracts in
      let contracts_part = each-append line_text (contract_lines contracts) (genesis_lines genesis ++ (logs_lines 0 logs ++ told_lines)) ∙ (λ i. contracts_same i ++ genesis_part i) in
      let shards_part = (number_same config.shards).0 ∙ ap (number_line (codes "shards ")) (sym shards) in
      let f_part = (number_same config.f).1 ∙ ap (number_line (codes "faulty ")) (sym f) in
      let dummies_part = (number_same config.dummies).2 ∙ ap (number_line (codes "dummies ")) (sym dummies) in
      λ i. codes "dump\n" ++ (shards_part i ++ (f_part i ++ (dummies_part i ++ contracts_part i)))
