-- A log that is executed leaf by leaf, and the logs one after the other.
use Rattle.std.proofs.Common.{◌≡◌, ℕ, zero, suc, ◌+◌, ◌<◌, ◌≤◌, Bool, List, [], ◌∷◌, ◌++◌, length, take, drop, get_or, map, option_map, Option, Some, None, Ok, Err, refl, ap, sym, subst, ◌∙◌, arith, add-one}
use Rattle.std.proofs.Math.Seq.{drop-cons}
use Rattle.std.proofs.Math.ListN.{drop_of_length-le}
use Rattle.std.proofs.lemmas.List.{length-append, map-append, take_more}
use Rattle.cs_base.specs.declared.config.Config.{Config}
use Rattle.cs_tx_value.specs.declared.object.Object.{Object}
use Rattle.cs_tx_types.specs.declared.leaf.Leaf.{Leaf}
use Rattle.cs_tx_types.specs.declared.transaction.Tx.{Tx}
use Rattle.cs_ledger.specs.Ledger.{Bytes}
use Rattle.cs_check_rules.specs.Chain as chain
use Rattle.cs_check_rules.specs.Chain.{empty_log, kept_of}
use Rattle.cs_node_state.specs.Setup.{Setup}
use Rattle.cs_node_pool.specs.Deployed.{deployed_setup}
use Rattle.cs_audit_dump.specs.declared.dump.Log.{Log}
use Rattle.cs_base.specs.Options.{or_else}
use Rattle.cs_audit_rules.specs.declared.verdict.Fault.{Fault}
use Rattle.cs_audit_rules.specs.declared.verdict.Rule.{Rule}
use Rattle.cs_audit_rules.specs.Slots.{fault_at, broken_by, leaves_fault, logs_fault}
use Rattle.cs_audit_rules.specs.Stands as rules
use Rattle.cs_audit.specs.declared.stand.Stand.{Stand}
use Rattle.cs_audit.specs.Standing.{IsPlaced, stand_of, log_with, TellsLeaf}
use Rattle.cs_audit.specs.Votes.{KeptVotes}
use Rattle.cs_audit.specs.Kept.{no_votes, votes_noted, digest_of_leaf, log_votes, logs_votes, digests_in_log, TellsLog, TellsFirstFault}
use Rattle.cs_audit.specs.declared.logs.Executed.{Executed}
use Rattle.cs_audit.proofs.Voting.{keeps}

whole : (leaves : List Leaf) (n : ℕ) → length leaves ≤ n → take n leaves ≡ leaves
whole [] zero less = refl
whole [] (suc n) less = refl
whole (leaf ∷ leaves) zero less = absurd (omega arith)
whole (leaf ∷ leaves) (suc n) less = ap (λ xs. leaf ∷ xs) (whole leaves n (omega arith))

-- what is left of leaves at a place
left-at : (leaves : List Leaf) (slot : ℕ) (leaf : Leaf) → slot < length leaves → leaf ≡ get_or leaves slot leaf → drop slot leaves ≡ leaf ∷ drop (slot + 1) leaves
left-at leaves slot leaf less is =
    let parts : drop slot leaves ≡ get_or leaves slot leaf ∷ drop (slot + 1) leaves = rw add-one (drop-cons leaves slot leaf less) in
    parts ∙ ap (λ x. x ∷ drop (slot + 1) leaves) (sym is)

-- one leaf more of a log
fault-behind : (setup : Setup) (shard : ℕ) (heads : List Bytes) (stand : rules.Stand) (leaf : Leaf) (leaves : List Leaf) → broken_by setup shard heads stand leaf ≡ None
    → leaves_fault setup shard heads stand (leaf ∷ leaves) ≡ leaves_fault setup shard heads (rules.after_leaf setup shard stand leaf) leaves
fault-behind setup shard heads stand leaf leaves none =
    let later : Option Fault = leaves_fault setup shard heads (rules.after_leaf setup shard stand leaf) leaves in
    ap (λ (broken : Option Rule). or_else (option_map (fault_at shard (length stand.log.leaves)) broken) later) none

fault-here : (setup : Setup) (shard : ℕ) (heads : List Bytes) (stand : rules.Stand) (leaf : Leaf) (leaves : List Leaf) (rule : Rule) → broken_by setup shard heads stand leaf ≡ Some rule
    → leaves_fault setup shard heads stand (leaf ∷ leaves) ≡ Some (fault_at shard (length stand.log.leaves) rule)
fault-here setup shard heads stand leaf leaves rule some =
    let later : Option Fault = leaves_fault setup shard heads (rules.after_leaf setup shard stand leaf) leaves in
    ap (λ (broken : Option Rule). or_else (option_map (fault_at shard (length stand.log.leaves)) broken) later) some

-- the log of a shard is executed up to a slot
pub record IsOn (approves : Tx → Bool) (config : Config) (shard : ℕ) (log : Log) (first : rules.Stand) (old : KeptVotes) (slot : ℕ) (s : Stand) (digests : List Bytes) (votes : KeptVotes) : Type 0 where
  pub placed : IsPlaced s
  pub config_is : s.config ≡ config
  pub shard_is : s.shard ≡ shard
  pub executed : chain.Log
  pub kept_is : s.chain.kept ≡ kept_of executed
  pub slots : length executed.leaves ≡ slot
  pub digests_are : digests ≡ map digest_of_leaf (take slot log.leaves)
  pub votes_are : log_votes shard (drop slot log.leaves) votes ≡ log_votes shard log.leaves old
  pub told : (genesis : List Object) → leaves_fault (deployed_setup config genesis approves) shard log.heads (stand_of executed s) (drop slot log.leaves)
      ≡ leaves_fault (deployed_setup config genesis approves) shard log.heads first log.leaves

module _ (approves : Tx → Bool) (config : Config) (shard : ℕ) (log : Log) (first : rules.Stand) (old : KeptVotes) where
  abbrev On : ℕ → Stand → List Bytes → KeptVotes → Type 0
  On = IsOn approves config shard log first old

  abbrev setup_at : List Object → Setup
  setup_at genesis = deployed_setup config genesis approves

  pub begins : (s : Stand) → IsPlaced s → s.config ≡ config → s.shard ≡ shard → s.chain.kept ≡ kept_of (empty_log shard)
      → first ≡ stand_of (empty_log shard) s → On 0 s [] old
  begins s placed config_is shard_is kept_is is = record {
    placed = placed;
    config_is = config_is;
    shard_is = shard_is;
    executed = empty_log shard;
    kept_is = kept_is;
    slots = refl;
    digests_are = refl;
    votes_are = refl;
    told = λ genesis. ap (λ x. leaves_fault (setup_at genesis) shard log.heads x log.leaves) (sym is);
  }

  -- the shard's rules, by the names of the log
  none-here : (genesis : List Object) (slot : ℕ) (s new : Stand) (digests : List Bytes) (votes : KeptVotes) (leaf : Leaf) (on : On slot s digests votes)
      → TellsLeaf (deployed_setup s.config genesis approves) on.executed log.heads leaf s new None
      → (broken_by (setup_at genesis) shard log.heads (stand_of on.executed s) leaf ≡ None)
      × (stand_of (log_with leaf on.executed new) new ≡ rules.after_leaf (setup_at genesis) shard (stand_of on.executed s) leaf)
  none-here genesis slot s new digests votes leaf on tells =
      let P : Config × ℕ → Type 0 = λ at. (broken_by (deployed_setup at.0 genesis approves) at.1 log.heads (stand_of on.executed s) leaf ≡ None)
      × (stand_of (log_with leaf on.executed new) new ≡ rules.after_leaf (deployed_setup at.0 genesis approves) at.1 (stand_of on.executed s) leaf) in
      subst P (λ i. (on.config_is i, on.shard_is i)) (tells.0, tells.1.stand_is)

  pub goes_on : (slot : ℕ) (s new : Stand) (digests : List Bytes) (votes : KeptVotes) (leaf : Leaf) (d : Bytes) (more : List Bytes) (later : KeptVotes) (on : On slot s digests votes)
      → slot < length log.leaves → leaf ≡ get_or log.leaves slot leaf → ((genesis : List Object) → TellsLeaf (deployed_setup s.config genesis approves) on.executed log.heads leaf s new None)
      → d ≡ digest_of_leaf leaf → more ≡ digests ++ d ∷ [] → later ≡ votes_noted shard leaf.action leaf.result d votes → On (slot + 1) new more later
  goes_on slot s new digests votes leaf d more later on less is tells named pushed noted_is =
      let follows = (tells []).1 in
      let left : drop slot log.leaves ≡ leaf ∷ drop (slot + 1) log.leaves = left-at log.leaves slot leaf less is in
      record {
        placed = follows.placed;
        config_is = follows.config_stays ∙ on.config_is;
        shard_is = follows.shard_stays ∙ on.shard_is;
        executed = log_with leaf on.executed new;
        kept_is = follows.kept_is;
        slots = length-append on.executed.leaves _ ∙ ap (λ n. n + 1) on.slots;
        digests_are = pushed ∙ (λ i. on.digests_are i ++ named i ∷ []) ∙ sym (ap (map digest_of_leaf) (take_more log.leaves slot leaf less ∙ ap (λ x. take slot log.leaves ++ x ∷ []) (sym is)) ∙ map-append digest_of_leaf (take slot log.leaves) (leaf ∷ []));
        votes_are = ap (log_votes shard (drop (slot + 1) log.leaves)) (noted_is ∙ ap (λ x. votes_noted shard leaf.action leaf.result x votes) named)
            ∙ sym (ap (λ xs. log_votes shard xs votes) left) ∙ on.votes_are;
        told = λ genesis.
            let here = none-here genesis slot s new digests votes leaf on (tells genesis) in
            ap (λ x. leaves_fault (setup_at genesis) shard log.heads x (drop (slot + 1) log.leaves)) here.1
            ∙ sym (fault-behind (setup_at genesis) shard log.heads (stand_of on.executed s) leaf (drop (slot + 1) log.leaves) here.0)
            ∙ sym (ap (leaves_fault (setup_at genesis) shard log.heads (stand_of on.executed s)) left) ∙ on.told genesis;
      }

  pub ends : (genesis : List Object) (slot : ℕ) (s : Stand) (digests : List Bytes) (votes : KeptVotes) → On slot s digests votes → length log.leaves ≤ slot
      → TellsLog (setup_at genesis) shard log first old votes (Ok digests)
  ends genesis slot s digests votes on over =
      let none : drop slot log.leaves ≡ [] = drop_of_length-le log.leaves over in (
        sym (on.told genesis) ∙ ap (leaves_fault (setup_at genesis) shard log.heads (stand_of on.executed s)) none,
        on.digests_are ∙ ap (map digest_of_leaf) (whole log.leaves slot over),
        sym (ap (λ xs. log_votes shard xs votes) none) ∙ on.votes_are,
      )

  pub breaks : (genesis : List Object) (slot : ℕ) (s new : Stand) (digests : List Bytes) (votes later : KeptVotes) (leaf : Leaf) (rule : Rule) (fault : Fault) (on : On slot s digests votes)
      → slot < length log.leaves → leaf ≡ get_or log.leaves slot leaf → TellsLeaf (deployed_setup s.config genesis approves) on.executed log.heads leaf s new (Some rule) → fault ≡ fault_at shard slot rule
      → TellsLog (setup_at genesis) shard log first old later (Err fault)
  breaks genesis slot s new digests votes later leaf rule fault on less is tells fault_is =
      let P : Config × ℕ → Type 0 = λ at. broken_by (deployed_setup at.0 genesis approves) at.1 log.heads (stand_of on.executed s) leaf ≡ Some rule in
      let broken = subst P (λ i. (on.config_is i, on.shard_is i)) tells in
      sym (on.told genesis) ∙ ap (leaves_fault (setup_at genesis) shard log.heads (stand_of on.executed s)) (left-at log.leaves slot leaf less is)
      ∙ fault-here (setup_at genesis) shard log.heads (stand_of on.executed s) leaf (drop (slot + 1) log.leaves) rule broken
      ∙ (λ i. Some (fault_at shard (on.slots i) rule)) ∙ ap (λ f. Some f) (sym fault_is)

-- ---- the logs one after the other

-- the logs of the shards below a place are executed
pub record AreOn (setup : Setup) (logs : List Log) (place : ℕ) (digests : List (List Bytes)) (votes : KeptVotes) : Type 0 where
  pub digests_are : digests ≡ map digests_in_log (take place logs)
  pub votes_are : logs_votes place (drop place logs) votes ≡ logs_votes 0 logs no_votes
  pub told : logs_fault setup place (drop place logs) ≡ logs_fault setup 0 logs

log-at : (logs : List Log) (place : ℕ) (log : Log) → place < length logs → log ≡ get_or logs place log → drop place logs ≡ log ∷ drop (place + 1) logs
log-at logs place log less is =
    let parts : drop place logs ≡ get_or logs place log ∷ drop (place + 1) logs = rw add-one (drop-cons logs place log less) in
    parts ∙ ap (λ x. x ∷ drop (place + 1) logs) (sym is)

all-logs : (logs : List Log) (n : ℕ) → length logs ≤ n → take n logs ≡ logs
all-logs [] zero less = refl
all-logs [] (suc n) less = refl
all-logs (log ∷ logs) zero less = absurd (omega arith)
all-logs (log ∷ logs) (suc n) less = ap (λ xs. log ∷ xs) (all-logs logs n (omega arith))

module _ (setup : Setup) (logs : List Log) where
  pub logs_go_on : (place : ℕ) (log : Log) (digests more : List (List Bytes)) (named : List Bytes) (votes later : KeptVotes) → AreOn setup logs place digests votes
      → place < length logs → log ≡ get_or logs place log → TellsLog setup place log (rules.start_stand setup place) votes later (Ok named) → more ≡ digests ++ named ∷ []
      → AreOn setup logs (place + 1) more later
  logs_go_on place log digests more named votes later on less is tells pushed =
      let left : drop place logs ≡ log ∷ drop (place + 1) logs = log-at logs place log less is in
      record {
        digests_are = pushed ∙ (λ i. on.digests_are i ++ tells.1 i ∷ []) ∙ sym (ap (map digests_in_log) (take_more logs place log less ∙ ap (λ x. take place logs ++ x ∷ []) (sym is)) ∙ map-append digests_in_log (take place logs) (log ∷ []));
        votes_are = ap (logs_votes (place + 1) (drop (place + 1) logs)) tells.2 ∙ sym (ap (λ xs. logs_votes place xs votes) left) ∙ on.votes_are;
        told = ap (λ (o : Option Fault). or_else o (logs_fault setup (place + 1) (drop (place + 1) logs))) (sym tells.0) ∙ sym (ap (logs_fault setup place) left) ∙ on.told;
      }

  pub logs_break : (place : ℕ) (log : Log) (digests : List (List Bytes)) (votes later : KeptVotes) (fault : Fault) → AreOn setup logs place digests votes
      → place < length logs → log ≡ get_or logs place log → TellsLog setup place log (rules.start_stand setup place) votes later (Err fault) → logs_fault setup 0 logs ≡ Some fault
  logs_break place log digests votes later fault on less is tells =
      sym on.told ∙ ap (logs_fault setup place) (log-at logs place log less is)
      ∙ ap (λ (o : Option Fault). or_else o (logs_fault setup (place + 1) (drop (place + 1) logs))) tells

pub logs_end : (config : Config) (genesis : List Object) (approves : Tx → Bool) (logs : List Log) (place : ℕ) (executed : Executed) → AreOn (deployed_setup config genesis approves) logs place executed.digests executed.votes
    → length logs ≤ place → TellsFirstFault (deployed_setup config genesis approves) logs (Ok executed)
logs_end config genesis approves logs place executed on over =
    let none : drop place logs ≡ [] = drop_of_length-le logs over in (
      sym on.told ∙ ap (logs_fault (deployed_setup config genesis approves) place) none,
      on.digests_are ∙ ap (map digests_in_log) (all-logs logs place over),
      keeps config genesis approves logs executed.votes (sym (ap (λ xs. logs_votes place xs executed.votes) none) ∙ on.votes_are),
    )
