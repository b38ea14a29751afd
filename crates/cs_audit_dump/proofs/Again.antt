-- What is printed of a dump is read as that dump.
use Rattle.std.specs.Prelude.{◌≡◌, ℕ, ◌+◌, ◌≤◌, false, List, [], ◌∷◌, ◌++◌, length, map, Ok, codes}
use Rattle.std.specs.List.{AllByRecursion}
use Rattle.std.specs.Fmt.{decimal}
use Rattle.std.proofs.Common.{refl, arith}
use Rattle.std.proofs.lemmas.List.Elements.{recursion_from_All}
use Rattle.cs_base.specs.Fields.{IsBytes}
use Rattle.cs_base.specs.declared.limits.TheConstants.{MOST_SHARDS, MOST_LIARS, MOST_DUMMIES}
use Rattle.cs_tx_value.specs.Object.{object_encoding, DigestFits, ObjectFits}
use Rattle.cs_tx_value.specs.declared.object.Object.{Object}
use Rattle.cs_tx_types.specs.declared.leaf.Leaf.{Leaf}
use Rattle.cs_base.specs.declared.version.Version.TheVariants.{One}
use Rattle.cs_tx_types.specs.Log.{leaf_encoding, LeafFits}
use Rattle.cs_sched.specs.Playable.{IsContractText}
use Rattle.cs_sched.specs.Printed.{contract_lines, genesis_lines}
use Rattle.cs_text.proofs.Plain.{IsLine, field-word, field-decimal, field-bytes}
use Rattle.cs_text.proofs.Rows.{text_again}
use Rattle.cs_audit_dump.specs.Drafts.{empty_dump_draft}
use Rattle.cs_audit_dump.specs.Formed.{IsFormed, IsFormedLog}
use Rattle.cs_audit_dump.specs.Text.{dump_form, dump_of}
use Rattle.cs_audit_dump.specs.declared.draft.Draft.{Draft}
use Rattle.cs_audit_dump.specs.declared.draft.Stage.TheVariants as stage
use Rattle.cs_audit_dump.specs.declared.dump.Dump.{Dump}
use Rattle.cs_audit_dump.specs.declared.dump.Log.{Log}
use Rattle.cs_audit_dump.specs.Printed.{leaf_words, head_words, tx_words, log_lines, logs_lines, config_lines, dump_history_lines, dump_lines, printed_dump}
use Rattle.cs_audit_dump.specs.Again.{IsEncodedLog, IsEncoded, DumpIsReadAgain}
use Rattle.cs_audit_dump.proofs.Steps.{steps, steps_then, read_steps}
use Rattle.cs_audit_dump.proofs.Walk.{made, genesis_stage, any_of, log_stage, reads_config, reads_contracts, reads_objects, reads_logs, reads_history, reads_end}

-- ---- each line has a word, and fields that can be told apart

lines-append : (some more : List (List (List ℕ))) → AllByRecursion IsLine some → AllByRecursion IsLine more → AllByRecursion IsLine (some ++ more)
lines-append [] more first later = later
lines-append (line ∷ some) more first later = (first.0, lines-append some more first.1 later)

contracts_are_lines : (contracts : List (List ℕ)) → AllByRecursion IsContractText contracts → AllByRecursion IsLine (contract_lines contracts)
contracts_are_lines [] fit = tt
contracts_are_lines (text ∷ contracts) fit = ((field-word (codes "contract") (omega arith) refl, (field-bytes text fit.0.in_bytes, tt)), contracts_are_lines contracts fit.1)

objects_are_lines : (objects : List Object) → AllByRecursion (λ object. IsBytes (object_encoding object)) objects → AllByRecursion IsLine (genesis_lines objects)
objects_are_lines [] fit = tt
objects_are_lines (object ∷ objects) fit = ((field-word (codes "genesis") (omega arith) refl, (field-bytes (object_encoding object) fit.0, tt)), objects_are_lines objects fit.1)

leaves_are_lines : (leaves : List Leaf) → AllByRecursion (λ leaf. IsBytes (leaf_encoding One leaf)) leaves → AllByRecursion IsLine (map leaf_words leaves)
leaves_are_lines [] fit = tt
leaves_are_lines (leaf ∷ leaves) fit = ((field-word (codes "leaf") (omega arith) refl, (field-bytes (leaf_encoding One leaf) fit.0, tt)), leaves_are_lines leaves fit.1)

heads_are_lines : (heads : List (List ℕ)) → AllByRecursion DigestFits heads → AllByRecursion IsLine (map head_words heads)
heads_are_lines [] fit = tt
heads_are_lines (head ∷ heads) fit = ((field-word (codes "head") (omega arith) refl, (field-bytes head fit.0.1, tt)), heads_are_lines heads fit.1)

txs_are_lines : (txs : List (List ℕ)) → AllByRecursion DigestFits txs → AllByRecursion IsLine (map tx_words txs)
txs_are_lines [] fit = tt
txs_are_lines (tx ∷ txs) fit = ((field-word (codes "tx") (omega arith) refl, (field-bytes tx fit.0.1, tt)), txs_are_lines txs fit.1)

logs_are_lines : (shard : ℕ) (logs : List Log) → shard + length logs ≤ MOST_SHARDS → AllByRecursion IsEncodedLog logs → AllByRecursion IsLine (logs_lines shard logs)
logs_are_lines shard [] few fit = tt
logs_are_lines shard (log ∷ logs) few fit =
    let named : IsLine (codes "log" ∷ decimal shard ∷ decimal (length log.leaves) ∷ []) = (field-word (codes "log") (omega arith) refl, (field-decimal shard (omega arith), (field-decimal (length log.leaves) fit.0.slots, tt))) in
    lines-append (log_lines shard log) (logs_lines (shard + 1) logs)
    (named, lines-append (map leaf_words log.leaves) (map head_words log.heads) (leaves_are_lines log.leaves fit.0.leaves) (heads_are_lines log.heads fit.0.heads))
    (logs_are_lines (shard + 1) logs (omega arith) fit.1)

all_fit : (logs : List Log) → AllByRecursion IsFormedLog logs → AllByRecursion (λ (log : Log). AllByRecursion (LeafFits One) log.leaves) logs
all_fit [] formed = tt
all_fit (log ∷ logs) formed = (recursion_from_All (LeafFits One) log.leaves formed.0.leaves, all_fit logs formed.1)

module _ (dump : Dump) (formed : IsFormed dump) (encoded : IsEncoded dump) where
  abbrev ended : List (List (List ℕ))
  ended = (codes "end" ∷ []) ∷ []

  abbrev last : Draft
  last = made stage.Ended dump.config dump.contracts dump.genesis dump.logs dump.history 0

  are_lines : AllByRecursion IsLine (dump_lines dump)
  are_lines =
      let config = dump.config in
      let few_shards : config.shards ≤ MOST_SHARDS = config.few_shards in
      let few_liars : config.f ≤ MOST_LIARS = config.few_liars in
      let few_dummies : config.dummies ≤ MOST_DUMMIES = config.few_dummies in
      let shards = formed.shards in
      let history : AllByRecursion IsLine (dump_history_lines dump.history) = ((field-word (codes "history") (omega arith) refl, (field-decimal (length dump.history) encoded.txs, tt)), txs_are_lines dump.history encoded.history) in
      let end_line : AllByRecursion IsLine ended = ((field-word (codes "end") (omega arith) refl, tt), tt) in
      let configured_lines : AllByRecursion IsLine (config_lines config) = (
        (field-word (codes "shards") (omega arith) refl, (field-decimal config.shards (omega arith), tt)),
        (
          (field-word (codes "faulty") (omega arith) refl, (field-decimal config.f (omega arith), tt)),
          ((field-word (codes "dummies") (omega arith) refl, (field-decimal config.dummies (omega arith), tt)), tt),
        ),
      ) in (
        (field-word (codes "dump") (omega arith) refl, tt),
        lines-append (config_lines config) _ configured_lines
            (lines-append (contract_lines dump.contracts) _ (contracts_are_lines dump.contracts (recursion_from_All IsContractText dump.contracts formed.contracts))
            (lines-append (genesis_lines dump.genesis) _ (objects_are_lines dump.genesis encoded.objects)
            (lines-append (logs_lines 0 dump.logs) _ (logs_are_lines 0 dump.logs (omega arith) encoded.logs)
            (lines-append (dump_history_lines dump.history) ended history end_line)))),
      )

  reads_all : steps empty_dump_draft (dump_lines dump) ≡ Ok last
  reads_all =
      let config = dump.config in
      let shards = formed.shards in
      let any = any_of config dump.contracts false dump.genesis in
      let logs_any = any_of config dump.contracts false dump.logs in
      let at_contracts = made stage.Contracts config [] [] [] [] 0 in
      let at_objects = made stage.Contracts config dump.contracts [] [] [] 0 in
      let at_logs = made (genesis_stage any) config dump.contracts dump.genesis [] [] 0 in
      let at_history = made (log_stage config dump.contracts dump.genesis any logs_any) config dump.contracts dump.genesis dump.logs [] 0 in
      let at_end = made stage.History config dump.contracts dump.genesis dump.logs dump.history 0 in
      let contracts_read = reads_contracts config dump.contracts [] (recursion_from_All IsContractText dump.contracts formed.contracts) (let few = formed.few_contracts in omega arith) in
      let objects_read = reads_objects config dump.contracts dump.genesis [] false (recursion_from_All ObjectFits dump.genesis formed.objects) encoded.objects (let few = formed.few_objects in omega arith) formed.keys_differ in
      let formed_logs = recursion_from_All IsFormedLog dump.logs formed.logs in
      let logs_read = reads_logs config dump.contracts dump.genesis any false [] dump.logs 0 refl (omega arith) formed_logs (all_fit dump.logs formed_logs) encoded.logs in
      let history_read = reads_history config dump.contracts dump.genesis dump.logs any logs_any dump.history (omega arith) encoded.txs encoded.history in
      steps_then empty_dump_draft at_contracts last ((codes "dump" ∷ []) ∷ config_lines config) (contract_lines dump.contracts ++ (genesis_lines dump.genesis ++ (logs_lines 0 dump.logs ++ (dump_history_lines dump.history ++ ended)))) (reads_config config formed.version)
      (steps_then at_contracts at_objects last (contract_lines dump.contracts) (genesis_lines dump.genesis ++ (logs_lines 0 dump.logs ++ (dump_history_lines dump.history ++ ended))) contracts_read
      (steps_then at_objects at_logs last (genesis_lines dump.genesis) (logs_lines 0 dump.logs ++ (dump_history_lines dump.history ++ ended)) objects_read
      (steps_then at_logs at_history last (logs_lines 0 dump.logs) (dump_history_lines dump.history ++ ended) logs_read
      (steps_then at_history at_end last (dump_history_lines dump.history) ended history_read (reads_end config dump.contracts dump.genesis dump.logs dump.history)))))

  again_whole : (limit : ℕ) → length (printed_dump dump) ≤ limit → dump_of limit (printed_dump dump) ≡ Ok dump
  unfolding dump_of
  again_whole limit short = text_again dump_form (dump_lines dump) last dump limit are_lines (read_steps (dump_lines dump) empty_dump_draft last 1 reads_all) refl short

pub again : (limit : ℕ) → DumpIsReadAgain limit
again limit dump formed encoded short = again_whole dump formed encoded limit short
