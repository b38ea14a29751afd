-- Every dump that is read is formed.
use Rattle.std.specs.Prelude.{◌≡◌, ◌⊎◌, ℕ, ◌<◌, ◌≤◌, nat_lt, Bool, true, false, ◌||◌, List, [], ◌∷◌, length, Some, None, Result, Ok, Err, IfOk, codes, if◌then◌else◌}
use Rattle.std.specs.Option.{ok_or}
use Rattle.std.specs.Str.{bytes_eq}
use Rattle.std.proofs.Common.{◌∙◌, ap, refl, subst, inl, inr, arith}
use Rattle.std.proofs.lemmas.Bool.{ltb-true, ltb-false}
use Rattle.cs_base.specs.Codes.{bytes_of}
use Rattle.cs_base.specs.Fields.{whole_at}
use Rattle.cs_tx_types.specs.declared.leaf.Leaf.{Leaf}
use Rattle.cs_base.specs.declared.version.Version.TheVariants.{One}
use Rattle.cs_tx_types.specs.Log.{LeafFits, leaf_at}
use Rattle.cs_tx.specs.Digest.{name_of_genesis}
use Rattle.cs_tx.specs.GenesisNames.{is_known}
use Rattle.cs_text.specs.Reading.{GivesText}
use Rattle.cs_text.specs.Values.{digest_said, no_field, number_said}
use Rattle.cs_text.proofs.Kept.{whole_kept}
use Rattle.cs_text.proofs.Taken.{bytes_fit}
use Rattle.cs_sched.specs.Said.{shards_said, faulty_said, dummies_said, contract_said, object_said}
use Rattle.cs_text.specs.declared.cause.Cause.TheVariants as cause
use Rattle.cs_text.specs.declared.error.TextError.{TextError}
use Rattle.cs_text.proofs.Steps.{step_ok, change_ok, ok_same, when_ok, unless_ok, either_ok, some_ok}
use Rattle.cs_sched.proofs.Said.{contract_said-ok, object_said-ok, shards_first, faulty_first, dummies_first}
use Rattle.cs_audit_dump.specs.Said.{log_said, leaf_said, encoded_leaf}
use Rattle.cs_audit_dump.specs.Drafts.{dump_has_ended, is_open}
use Rattle.cs_audit_dump.specs.Lines.{draft_with_config, draft_with_contract, draft_with_genesis, with_log, draft_with_leaf, draft_with_head, with_history, with_tx, dump_at_stage, after_shards_line, after_faulty_line, after_dummies_line, after_contract_line, dump_named_object, after_genesis_line, after_log_line, after_leaf_line, after_head_line, history_line, after_tx_line, after_end_line}
use Rattle.cs_audit_dump.specs.Places.{next_place, logs_place, dump_genesis_place, dump_contracts_place, history_place, before_place, dump_line_at}
use Rattle.cs_audit_dump.specs.Text.{dump_form, dump_of}
use Rattle.cs_audit_dump.specs.Formed.{IsFormed}
use Rattle.cs_audit_dump.specs.declared.draft.Draft.{Draft}
use Rattle.cs_audit_dump.specs.declared.draft.Stage.{Stage}
use Rattle.cs_audit_dump.specs.declared.draft.Stage.TheVariants as stage
use Rattle.cs_audit_dump.specs.declared.dump.Dump.{Dump}
use Rattle.cs_audit_dump.proofs.Leaves.{found_fits}
use Rattle.cs_audit_dump.proofs.Kept.{HasNoLog, HasSome, HasAll, IsPlaced, IsKept, IsMidLog, empty_kept, with_config-kept, at_stage-kept, with_contract-kept, with_genesis-kept, with_log-kept, with_leaf-kept, with_head-kept, with_history-kept, with_tx-kept}

-- what a test chose
either_way : {B E : Type 0} (test : Bool) (one other : Result B E) (b : B) → (if test then one else other) ≡ Ok b → ((test ≡ true) × (one ≡ Ok b)) ⊎ ((test ≡ false) × (other ≡ Ok b))
either_way true one other b is = inl (refl, is)
either_way false one other b is = inr (refl, is)

leaf_said-ok : (fields : List (List ℕ)) (leaf : Leaf) → leaf_said fields ≡ Ok leaf → LeafFits One leaf
leaf_said-ok [] leaf is = absurd cc
leaf_said-ok (field ∷ []) leaf is =
    let (bytes, hex, encoded) = step_ok (ok_or (bytes_of field) cause.Hex) encoded_leaf leaf is in
    (found_fits bytes leaf (bytes_fit field bytes (some_ok (bytes_of field) cause.Hex bytes hex)) (some_ok (whole_at (leaf_at One) bytes) cause.Object leaf encoded)).0
leaf_said-ok (field ∷ another ∷ more) leaf is = absurd cc

no_log-shut : (draft : Draft) → HasNoLog draft → length draft.dump.logs ≤ draft.dump.config.shards
no_log-shut draft none = let no : length draft.dump.logs ≡ 0 = ap length none.0 in omega arith

module _ (draft next : Draft) (fields : List (List ℕ)) (kept : IsKept draft) where
  shards_kept : HasNoLog draft → after_shards_line draft fields ≡ Ok next → IsKept next
  shards_kept none is =
      let (config, said, moved) = change_ok (shards_said draft.dump.config fields) (λ config. draft_with_config draft stage.Faulty config) next is in
      subst IsKept moved (with_config-kept draft stage.Faulty config (shards_first draft.dump.config config fields said) kept none)

  faulty_kept : HasNoLog draft → after_faulty_line draft fields ≡ Ok next → IsKept next
  faulty_kept none is =
      let (config, said, moved) = change_ok (faulty_said draft.dump.config fields) (λ config. draft_with_config draft stage.Dummies config) next is in
      subst IsKept moved (with_config-kept draft stage.Dummies config (faulty_first draft.dump.config config fields said) kept none)

  dummies_kept : HasNoLog draft → after_dummies_line draft fields ≡ Ok next → IsKept next
  dummies_kept none is =
      let (config, said, moved) = change_ok (dummies_said draft.dump.config fields) (λ config. draft_with_config draft stage.Contracts config) next is in
      subst IsKept moved (with_config-kept draft stage.Contracts config (dummies_first draft.dump.config config fields said) kept none)

  contract_kept : draft.stage ≡ stage.Contracts → after_contract_line draft fields ≡ Ok next → IsKept next
  contract_kept at is =
      let place = length draft.dump.contracts in
      let (text, said, moved) = change_ok (contract_said place fields) (λ text. draft_with_contract draft text) next is in
      let (few, fits) = contract_said-ok place fields text said in
      subst IsKept moved (with_contract-kept draft text kept at fits few)

  genesis_kept : HasNoLog draft → after_genesis_line draft fields ≡ Ok next → IsKept next
  genesis_kept none is =
      let place = length draft.dump.genesis in
      let (object, said, named) = step_ok (object_said place fields) (λ object. dump_named_object draft object (name_of_genesis place object)) next is in
      let (few, (fits, encoded)) = object_said-ok place fields object said in
      let (new, done) = unless_ok (is_known (name_of_genesis place object) draft.names) (Ok (draft_with_genesis draft object (name_of_genesis place object))) cause.Key next named in
      subst IsKept (ok_same (draft_with_genesis draft object (name_of_genesis place object)) next done) (with_genesis-kept draft object kept none fits few new)

  log_kept : is_open draft ≡ false → length draft.dump.logs < draft.dump.config.shards → after_log_line draft fields ≡ Ok next → IsKept next
  log_kept shut room is =
      let (slots, said, moved) = change_ok (log_said (length draft.dump.logs) fields) (λ slots. with_log draft slots) next is in
      subst IsKept moved (with_log-kept draft slots kept shut room)

  leaf_kept : IsMidLog draft → 0 < draft.leaves_left → after_leaf_line draft fields ≡ Ok next → IsKept next
  leaf_kept mid some is =
      let (leaf, said, moved) = change_ok (leaf_said fields) (λ leaf. draft_with_leaf draft leaf) next is in
      subst IsKept moved (with_leaf-kept draft leaf kept mid some (leaf_said-ok fields leaf said))

  head_kept : IsMidLog draft → 0 < draft.heads_left → after_head_line draft fields ≡ Ok next → IsKept next
  head_kept mid some is =
      let (head, said, moved) = change_ok (digest_said fields) (λ head. draft_with_head draft head) next is in
      subst IsKept moved (with_head-kept draft head kept mid some)

  history_kept : HasAll draft → history_line draft fields ≡ Ok next → IsKept next
  history_kept all is =
      let (txs, said, moved) = change_ok (number_said fields) (λ txs. with_history draft txs) next is in
      subst IsKept moved (with_history-kept draft txs kept all)

  tx_kept : draft.stage ≡ stage.History → after_tx_line draft fields ≡ Ok next → IsKept next
  tx_kept at is =
      let (tx, said, moved) = change_ok (digest_said fields) (λ tx. with_tx draft tx) next is in
      subst IsKept moved (with_tx-kept draft tx kept at)

  end_kept : HasAll draft → after_end_line draft fields ≡ Ok next → IsKept next
  end_kept all is =
      let (nothing, said, moved) = change_ok (no_field fields) (λ nothing. dump_at_stage draft stage.Ended) next is in
      subst IsKept moved (at_stage-kept draft stage.Ended kept all)

  next_place-kept : (word : List ℕ) → is_open draft ≡ false → length draft.dump.logs ≤ draft.dump.config.shards → next_place draft word fields ≡ Ok next → IsKept next
  next_place-kept word shut within is =
      let logs = if bytes_eq word (codes "log") then after_log_line draft fields else Err cause.Word in
      let history = if bytes_eq word (codes "history") then history_line draft fields else Err cause.Word in
      elim (either_way (nat_lt (length draft.dump.logs) draft.dump.config.shards) logs history next is) [
        | inl more ↦ log_kept shut (ltb-true (length draft.dump.logs) draft.dump.config.shards more.0) (when_ok (bytes_eq word (codes "log")) (after_log_line draft fields) cause.Word next more.1).1
        | inr done ↦
            let least = ltb-false (length draft.dump.logs) draft.dump.config.shards done.0 in
            let all : HasAll draft = omega arith in
            history_kept all (when_ok (bytes_eq word (codes "history")) (history_line draft fields) cause.Word next done.1).1
      ]

  logs_place-kept : (word : List ℕ) → draft.stage ≡ stage.Logs → logs_place draft word fields ≡ Ok next → IsKept next
  logs_place-kept word at is =
      let some : HasSome draft = subst (λ s. IsPlaced s draft) at kept.placed in
      let leaf = if bytes_eq word (codes "leaf") then after_leaf_line draft fields else Err cause.Word in
      let head = if bytes_eq word (codes "head") then after_head_line draft fields else Err cause.Word in
      let later = if nat_lt 0 draft.heads_left then head else next_place draft word fields in
      elim (either_way (nat_lt 0 draft.leaves_left) leaf later next is) [
        | inl more ↦
            leaf_kept (record { at = at; left = ap (λ test. test || nat_lt 0 draft.heads_left) more.0 }) (ltb-true 0 draft.leaves_left more.0)
            (when_ok (bytes_eq word (codes "leaf")) (after_leaf_line draft fields) cause.Word next more.1).1
        | inr done ↦ elim (either_way (nat_lt 0 draft.heads_left) head (next_place draft word fields) next done.1) [
          | inl more ↦
              let left : is_open draft ≡ true = ap (λ test. test || nat_lt 0 draft.heads_left) done.0 ∙ more.0 in
              head_kept (record { at = at; left = left }) (ltb-true 0 draft.heads_left more.0)
              (when_ok (bytes_eq word (codes "head")) (after_head_line draft fields) cause.Word next more.1).1
          | inr none ↦
              let shut : is_open draft ≡ false = ap (λ test. test || nat_lt 0 draft.heads_left) done.0 ∙ none.0 in
              next_place-kept word shut some.0 none.1
        ]
      ]

  genesis_place-kept : (word : List ℕ) → HasNoLog draft → dump_genesis_place draft word fields ≡ Ok next → IsKept next
  genesis_place-kept word none is =
      elim (either_ok (bytes_eq word (codes "genesis")) (after_genesis_line draft fields) (next_place draft word fields) next is) [
        | inl genesis ↦ genesis_kept none genesis
        | inr other ↦ next_place-kept word none.1 (no_log-shut draft none) other
      ]

  contracts_place-kept : (word : List ℕ) → draft.stage ≡ stage.Contracts → HasNoLog draft → dump_contracts_place draft word fields ≡ Ok next → IsKept next
  contracts_place-kept word at none is =
      elim (either_ok (bytes_eq word (codes "contract")) (after_contract_line draft fields) (dump_genesis_place draft word fields) next is) [
        | inl contract ↦ contract_kept at contract
        | inr other ↦ genesis_place-kept word none other
      ]

  history_place-kept : (word : List ℕ) → draft.stage ≡ stage.History → HasAll draft → history_place draft word fields ≡ Ok next → IsKept next
  history_place-kept word at all is =
      let tx = if bytes_eq word (codes "tx") then after_tx_line draft fields else Err cause.Word in
      let ends = if bytes_eq word (codes "end") then after_end_line draft fields else Err cause.Word in
      elim (either_way (nat_lt 0 draft.txs_left) tx ends next is) [
        | inl more ↦ tx_kept at (when_ok (bytes_eq word (codes "tx")) (after_tx_line draft fields) cause.Word next more.1).1
        | inr done ↦ end_kept all (when_ok (bytes_eq word (codes "end")) (after_end_line draft fields) cause.Word next done.1).1
      ]

  -- at its place in the dump
  line_kept : (place : Stage) (word : List ℕ) → draft.stage ≡ place → IsPlaced place draft → dump_line_at place draft word fields ≡ Ok next → IsKept next
  line_kept stage.Before word at none is = subst IsKept (ok_same (before_place draft word fields) next is) (begun fields)
    where
      begins : (test : Bool) → IsKept (if test then dump_at_stage draft stage.Shards else draft)
      begins true = at_stage-kept draft stage.Shards kept none
      begins false = kept

      begun : (those : List (List ℕ)) → IsKept (before_place draft word those)
      begun [] = begins (bytes_eq word (codes "dump"))
      begun (field ∷ more) = kept
  line_kept stage.Shards word at none is = shards_kept none (when_ok (bytes_eq word (codes "shards")) (after_shards_line draft fields) cause.Word next is).1
  line_kept stage.Faulty word at none is = faulty_kept none (when_ok (bytes_eq word (codes "faulty")) (after_faulty_line draft fields) cause.Word next is).1
  line_kept stage.Dummies word at none is = dummies_kept none (when_ok (bytes_eq word (codes "dummies")) (after_dummies_line draft fields) cause.Word next is).1
  line_kept stage.Contracts word at none is = contracts_place-kept word at none is
  line_kept stage.Genesis word at none is = genesis_place-kept word none is
  line_kept stage.Logs word at some is = logs_place-kept word at is
  line_kept stage.History word at all is = history_place-kept word at all is
  line_kept stage.Ended word at all is = absurd cc

kept_by_line : (number : ℕ) (draft next : Draft) (word : List ℕ) (fields : List (List ℕ)) → IsKept draft → dump_line_at draft.stage draft word fields ≡ Ok next → IsKept next
kept_by_line number draft next word fields kept is = line_kept draft next fields kept draft.stage word refl kept.placed is

-- at the end each shard has its log
ended_formed : (draft : Draft) → IsKept draft → dump_has_ended draft.stage ≡ true → IsFormed draft.dump
ended_formed draft kept ended = record {
  version = kept.version;
  contracts = kept.given.accepted;
  few_contracts = kept.given.few_contracts;
  objects = kept.given.objects;
  few_objects = kept.given.few_objects;
  keys_differ = kept.given.differ;
  shards = by draft.stage ended kept.placed;
  logs = kept.logs;
}
  where
    by : (at : Stage) → dump_has_ended at ≡ true → IsPlaced at draft → HasAll draft
    by stage.Before is placed = absurd cc
    by stage.Shards is placed = absurd cc
    by stage.Faulty is placed = absurd cc
    by stage.Dummies is placed = absurd cc
    by stage.Contracts is placed = absurd cc
    by stage.Genesis is placed = absurd cc
    by stage.Logs is placed = absurd cc
    by stage.History is placed = absurd cc
    by stage.Ended is placed = placed

dump_formed : (limit : ℕ) (text : List ℕ) (dump : Dump) → dump_of limit text ≡ Ok dump → IsFormed dump
unfolding dump_of
dump_formed limit text dump is =
    let (draft, kept, ends) = whole_kept dump_form IsKept empty_kept kept_by_line limit text dump is in
    by draft (dump_has_ended draft.stage) (λ ended. ended_formed draft kept ended) ends
  where
    by : (draft : Draft) (ended : Bool) → (ended ≡ true → IsFormed draft.dump) → (if ended then Some draft.dump else None) ≡ Some dump → IsFormed dump
    by draft true formed ends = let same : draft.dump ≡ dump = cc in subst IsFormed same (formed refl)
    by draft false formed ends = absurd cc

-- what is read of a text is formed
pub given_formed : (given : Result Dump TextError) (limit : ℕ) (text : List ℕ) → GivesText given (dump_of limit text) → IfOk given IsFormed
given_formed (Ok dump) limit text gives = dump_formed limit text dump gives
given_formed (Err error) limit text gives = tt
