-- What is known of a dump while it is read.
use Rattle.std.specs.Prelude.{◌≡◌, ◌≢◌, ℕ, ◌+◌, ◌-◌, ◌/◌, ◌<◌, ◌≤◌, nat_lt, Bool, true, false, ◌||◌, List, [], ◌∷◌, ◌++◌, length, if◌then◌else◌}
use Rattle.std.specs.List.{All, AllPairs}
use Rattle.std.proofs.Common.{◌∙◌, sym, ap, subst, refl, arith}
use Rattle.std.proofs.lemmas.Bool.{true≢false, ltb-false}
use Rattle.std.proofs.lemmas.List.{length-append}
use Rattle.std.proofs.lemmas.List.Elements.{All-push, All-nil}
use Rattle.cs_base.specs.declared.config.Config.{Config}
use Rattle.cs_base.specs.declared.limits.TheConstants.{MOST_GENESIS}
use Rattle.cs_tx_value.specs.declared.object.Object.{Object}
use Rattle.cs_tx_value.specs.Object.{ObjectFits}
use Rattle.cs_tx_types.specs.declared.leaf.Leaf.{Leaf}
use Rattle.cs_base.specs.declared.version.Version.TheVariants.{One}
use Rattle.cs_tx_types.specs.Log.{LeafFits}
use Rattle.cs_tx.specs.Digest.{name_of_genesis}
use Rattle.cs_tx.specs.GenesisNames.{is_known, genesis_names}
use Rattle.cs_sched.specs.declared.limits.TheConstants.{MOST_CONTRACTS}
use Rattle.cs_sched.specs.Playable.{IsContractText}
use Rattle.cs_tx.proofs.GenesisNames.{names_differ, genesis_names-append}
use Rattle.cs_audit_dump.specs.declared.draft.Draft.{Draft}
use Rattle.cs_audit_dump.specs.declared.draft.Stage.{Stage}
use Rattle.cs_audit_dump.specs.declared.draft.Stage.TheVariants as stage
use Rattle.cs_audit_dump.specs.declared.dump.Log.{Log}
use Rattle.cs_audit_dump.specs.Drafts.{empty_dump_log, empty_dump_draft, is_open}
use Rattle.cs_audit_dump.specs.Formed.{IsFormedLog}
use Rattle.cs_audit_dump.specs.Lines.{draft_with_config, draft_with_contract, draft_with_genesis, log_settled, with_log, draft_with_leaf, draft_with_head, with_history, with_tx, dump_at_stage}

-- contracts, and objects with their names
pub record IsGiven (contracts : List (List ℕ)) (genesis : List Object) (names : List (List ℕ)) : Type 0 where
  pub accepted : All IsContractText contracts
  pub few_contracts : length contracts ≤ MOST_CONTRACTS
  pub objects : All ObjectFits genesis
  pub few_objects : length genesis ≤ MOST_GENESIS
  pub differ : AllPairs (λ a b. a ≢ b) (genesis_names 0 genesis)
  pub named : names ≡ genesis_names 0 genesis

-- no log was begun
abbrev pub HasNoLog : Draft → Type 0
HasNoLog draft = (draft.dump.logs ≡ []) × (is_open draft ≡ false)

-- the logs are those of as many shards, of which there are so many
abbrev pub HasSome : Draft → Type 0
HasSome draft =
    (length draft.dump.logs ≤ draft.dump.config.shards)
    × (is_open draft ≡ true → length draft.dump.logs < draft.dump.config.shards)

abbrev pub HasAll : Draft → Type 0
HasAll draft = length draft.dump.logs ≡ draft.dump.config.shards

abbrev pub IsPlaced : Stage → Draft → Type 0
IsPlaced stage.Before draft = HasNoLog draft
IsPlaced stage.Shards draft = HasNoLog draft
IsPlaced stage.Faulty draft = HasNoLog draft
IsPlaced stage.Dummies draft = HasNoLog draft
IsPlaced stage.Contracts draft = HasNoLog draft
IsPlaced stage.Genesis draft = HasNoLog draft
IsPlaced stage.Logs draft = HasSome draft
IsPlaced stage.History draft = HasAll draft
IsPlaced stage.Ended draft = HasAll draft

-- as many heads as there will be leaves for
abbrev pub Counts : Draft → Type 0
Counts draft = (length draft.log.leaves + draft.leaves_left) / 16 ≡ length draft.log.heads + draft.heads_left

pub record IsKept (draft : Draft) : Type 0 where
  pub version : draft.dump.config.version ≡ 1
  pub given : IsGiven draft.dump.contracts draft.dump.genesis draft.names
  pub logs : All IsFormedLog draft.dump.logs
  pub leaves : All (LeafFits One) draft.log.leaves
  pub counts : Counts draft
  pub fresh : is_open draft ≡ false → draft.log ≡ empty_dump_log
  pub placed : IsPlaced draft.stage draft

pub empty_kept : IsKept empty_dump_draft
empty_kept = record {
  version = omega arith;
  given = record {
    accepted = All-nil IsContractText;
    few_contracts = omega arith;
    objects = All-nil ObjectFits;
    few_objects = omega arith;
    differ = λ i j d before within. absurd (omega arith);
    named = refl;
  };
  logs = All-nil IsFormedLog;
  leaves = All-nil (LeafFits One);
  counts = refl;
  fresh = λ shut. refl;
  placed = (refl, refl);
}

-- the same contracts and objects, in another stage before the logs
pub with_config-kept : (draft : Draft) (next : Stage) (config : Config) → config.version ≡ 1 → IsKept draft → IsPlaced next (draft_with_config draft next config) → IsKept (draft_with_config draft next config)
with_config-kept draft next config first kept placed = record {
  version = first;
  given = kept.given;
  logs = kept.logs;
  leaves = kept.leaves;
  counts = kept.counts;
  fresh = kept.fresh;
  placed = placed;
}

pub at_stage-kept : (draft : Draft) (next : Stage) → IsKept draft → IsPlaced next (dump_at_stage draft next) → IsKept (dump_at_stage draft next)
at_stage-kept draft next kept placed = record {
  version = kept.version;
  given = kept.given;
  logs = kept.logs;
  leaves = kept.leaves;
  counts = kept.counts;
  fresh = kept.fresh;
  placed = placed;
}

pub with_contract-kept : (draft : Draft) (text : List ℕ) → IsKept draft → draft.stage ≡ stage.Contracts → IsContractText text → length draft.dump.contracts < MOST_CONTRACTS → IsKept (draft_with_contract draft text)
with_contract-kept draft text kept at fits few = record {
  version = kept.version;
  given = record {
    accepted = All-push IsContractText draft.dump.contracts text kept.given.accepted fits;
    few_contracts = omega (arith, length-append draft.dump.contracts (text ∷ []));
    objects = kept.given.objects;
    few_objects = kept.given.few_objects;
    differ = kept.given.differ;
    named = kept.given.named;
  };
  logs = kept.logs;
  leaves = kept.leaves;
  counts = kept.counts;
  fresh = kept.fresh;
  placed = let none : HasNoLog draft = subst (λ s. IsPlaced s draft) at kept.placed in subst (λ s. IsPlaced s (draft_with_contract draft text)) (sym at) none;
}

pub with_genesis-kept : (draft : Draft) (object : Object) → IsKept draft → HasNoLog draft → ObjectFits object → length draft.dump.genesis < MOST_GENESIS
    → is_known (name_of_genesis (length draft.dump.genesis) object) draft.names ≡ false → IsKept (draft_with_genesis draft object (name_of_genesis (length draft.dump.genesis) object))
with_genesis-kept draft object kept none fits few new =
    let name = name_of_genesis (length draft.dump.genesis) object in
    let zero_first : 0 + length draft.dump.genesis ≡ length draft.dump.genesis = omega arith in
    let appended : genesis_names 0 (draft.dump.genesis ++ object ∷ []) ≡ genesis_names 0 draft.dump.genesis ++ name ∷ [] = genesis_names-append 0 draft.dump.genesis object ∙ rw zero_first refl in
    let unknown : is_known name (genesis_names 0 draft.dump.genesis) ≡ false = subst (λ names. is_known name names ≡ false) kept.given.named new in
    record {
      version = kept.version;
      given = record {
        accepted = kept.given.accepted;
        few_contracts = kept.given.few_contracts;
        objects = All-push ObjectFits draft.dump.genesis object kept.given.objects fits;
        few_objects = omega (arith, length-append draft.dump.genesis (object ∷ []));
        differ = subst (λ names. AllPairs (λ a b. a ≢ b) names) (sym appended) (names_differ (genesis_names 0 draft.dump.genesis) name kept.given.differ unknown);
        named = ap (λ names. names ++ name ∷ []) kept.given.named ∙ sym appended;
      };
      logs = kept.logs;
      leaves = kept.leaves;
      counts = kept.counts;
      fresh = kept.fresh;
      placed = none;
    }

-- ---- logs

none_left : (leaves heads : ℕ) → (nat_lt 0 leaves || nat_lt 0 heads) ≡ false → (leaves ≡ 0) × (heads ≡ 0)
none_left leaves heads shut = by (nat_lt 0 leaves) refl shut
  where
    by : (test : Bool) → nat_lt 0 leaves ≡ test → (test || nat_lt 0 heads) ≡ false → (leaves ≡ 0) × (heads ≡ 0)
    by true is none = absurd (true≢false none)
    by false is none =
        let leaf : leaves ≤ 0 = ltb-false 0 leaves is in
        let head : heads ≤ 0 = ltb-false 0 heads none in
        (omega arith, omega arith)

-- what is known of a log of which a line was read, before it is settled
pub record IsInLog (draft : Draft) : Type 0 where
  pub version : draft.dump.config.version ≡ 1
  pub given : IsGiven draft.dump.contracts draft.dump.genesis draft.names
  pub logs : All IsFormedLog draft.dump.logs
  pub leaves : All (LeafFits One) draft.log.leaves
  pub counts : Counts draft
  pub at : draft.stage ≡ stage.Logs
  pub room : length draft.dump.logs < draft.dump.config.shards

-- the log with the others
abbrev shut_of : Draft → Draft
shut_of draft = record draft { dump = record draft.dump { logs = draft.dump.logs ++ draft.log ∷ [] }; log = empty_dump_log }

open_kept : (draft : Draft) → IsInLog draft → is_open draft ≡ true → IsKept draft
open_kept draft within left = record {
  version = within.version;
  given = within.given;
  logs = within.logs;
  leaves = within.leaves;
  counts = within.counts;
  fresh = λ shut. absurd (true≢false (sym left ∙ shut));
  placed = let some : HasSome draft = (let room = within.room in omega arith, λ is. within.room) in subst (λ s. IsPlaced s draft) (sym within.at) some;
}

shut_kept : (draft : Draft) → IsInLog draft → is_open draft ≡ false → IsKept (shut_of draft)
shut_kept draft within shut =
    let (leaves, heads) = none_left draft.leaves_left draft.heads_left shut in
    let counts = within.counts in
    let all : length draft.log.leaves + draft.leaves_left ≡ length draft.log.leaves = omega arith in
    let whole : length draft.log.heads ≡ length draft.log.leaves / 16 = (let none : length draft.log.heads ≡ length draft.log.heads + draft.heads_left = omega arith in none) ∙ sym counts ∙ ap (λ n. n / 16) all in
    let nothing : (0 + draft.leaves_left) / 16 ≡ 0 + draft.heads_left = ap (λ n. (0 + n) / 16) leaves ∙ sym (ap (λ n. 0 + n) heads) in
    record {
      version = within.version;
      given = within.given;
      logs = All-push IsFormedLog draft.dump.logs draft.log within.logs (record { leaves = within.leaves; heads = whole });
      leaves = All-nil (LeafFits One);
      counts = nothing;
      fresh = λ is. refl;
      placed =
          let room = within.room in
          let more = length-append draft.dump.logs (draft.log ∷ []) in
          let some : HasSome (shut_of draft) = (omega arith, λ is. absurd (true≢false (sym is ∙ shut))) in
          subst (λ s. IsPlaced s (shut_of draft)) (sym within.at) some;
    }

settled-kept : (draft : Draft) → IsInLog draft → IsKept (log_settled draft)
settled-kept draft within = by (is_open draft) refl
  where
    by : (left : Bool) → is_open draft ≡ left → IsKept (if left then draft else shut_of draft)
    by true is = open_kept draft within is
    by false is = shut_kept draft within is

pub with_log-kept : (draft : Draft) (slots : ℕ) → IsKept draft → is_open draft ≡ false → length draft.dump.logs < draft.dump.config.shards → IsKept (with_log draft slots)
with_log-kept draft slots kept shut room =
    let none = kept.fresh shut in
    let no_leaf : length draft.log.leaves ≡ 0 = ap (λ (log : Log). length log.leaves) none in
    let no_head : length draft.log.heads ≡ 0 = ap (λ (log : Log). length log.heads) none in
    let leaves : length draft.log.leaves + slots ≡ slots = omega arith in
    let heads : slots / 16 ≡ length draft.log.heads + slots / 16 = omega arith in
    settled-kept (record draft { stage = stage.Logs; leaves_left = slots; heads_left = slots / 16 }) (record {
      version = kept.version;
      given = kept.given;
      logs = kept.logs;
      leaves = kept.leaves;
      counts = ap (λ n. n / 16) leaves ∙ heads;
      at = refl;
      room = room;
    })

-- in the midst of a log
pub record IsMidLog (draft : Draft) : Type 0 where
  pub at : draft.stage ≡ stage.Logs
  pub left : is_open draft ≡ true

room_of : (draft : Draft) → IsKept draft → IsMidLog draft → length draft.dump.logs < draft.dump.config.shards
room_of draft kept mid = let some : HasSome draft = subst (λ s. IsPlaced s draft) mid.at kept.placed in some.1 mid.left

pub with_leaf-kept : (draft : Draft) (leaf : Leaf) → IsKept draft → IsMidLog draft → 0 < draft.leaves_left → LeafFits One leaf → IsKept (draft_with_leaf draft leaf)
with_leaf-kept draft leaf kept mid some fits =
    let more = length-append draft.log.leaves (leaf ∷ []) in
    let same : length (draft.log.leaves ++ leaf ∷ []) + (draft.leaves_left - 1) ≡ length draft.log.leaves + draft.leaves_left = omega arith in
    settled-kept (record draft { log = record draft.log { leaves = draft.log.leaves ++ leaf ∷ [] }; leaves_left = draft.leaves_left - 1 }) (record {
      version = kept.version;
      given = kept.given;
      logs = kept.logs;
      leaves = All-push (LeafFits One) draft.log.leaves leaf kept.leaves fits;
      counts = ap (λ n. n / 16) same ∙ kept.counts;
      at = mid.at;
      room = room_of draft kept mid;
    })

pub with_head-kept : (draft : Draft) (head : List ℕ) → IsKept draft → IsMidLog draft → 0 < draft.heads_left → IsKept (draft_with_head draft head)
with_head-kept draft head kept mid some =
    let more = length-append draft.log.heads (head ∷ []) in
    let same : length draft.log.heads + draft.heads_left ≡ length (draft.log.heads ++ head ∷ []) + (draft.heads_left - 1) = omega arith in
    settled-kept (record draft { log = record draft.log { heads = draft.log.heads ++ head ∷ [] }; heads_left = draft.heads_left - 1 }) (record {
      version = kept.version;
      given = kept.given;
      logs = kept.logs;
      leaves = kept.leaves;
      counts = kept.counts ∙ same;
      at = mid.at;
      room = room_of draft kept mid;
    })

-- ---- the history

pub with_history-kept : (draft : Draft) (txs : ℕ) → IsKept draft → HasAll draft → IsKept (with_history draft txs)
with_history-kept draft txs kept all = record {
  version = kept.version;
  given = kept.given;
  logs = kept.logs;
  leaves = kept.leaves;
  counts = kept.counts;
  fresh = kept.fresh;
  placed = all;
}

pub with_tx-kept : (draft : Draft) (tx : List ℕ) → IsKept draft → draft.stage ≡ stage.History → IsKept (with_tx draft tx)
with_tx-kept draft tx kept at = record {
  version = kept.version;
  given = kept.given;
  logs = kept.logs;
  leaves = kept.leaves;
  counts = kept.counts;
  fresh = kept.fresh;
  placed = let all : HasAll draft = subst (λ s. IsPlaced s draft) at kept.placed in subst (λ s. IsPlaced s (with_tx draft tx)) (sym at) all;
}
