-- What is kept of decisions, by one input more.
use Rattle.std.proofs.Common.{◌≡◌, ℕ, zero, suc, ◌+◌, ◌*◌, ◌<◌, Bool, true, false, List, [], ◌∷◌, ◌++◌, Some, None, inl, inr, refl, sym, ap, subst, ◌∙◌, arith, if◌then◌else◌, append-nil}
use Rattle.std.specs.Prelude.{slice_get, bytes_eq, ◌==◌, ◌&&◌, ◌||◌, not}
use Rattle.std.specs.Option.{option_map_or}
use Rattle.std.proofs.lemmas.Bool.{cases_Bool, cases_eq}
use Rattle.std.proofs.lemmas.Bool.Decides.{nat_tests}
use Rattle.cs_base.specs.declared.config.Config.{Config}
use Rattle.cs_base.specs.declared.node_id.NodeId.{NodeId}
use Rattle.cs_base.specs.NodeId.{same_name, is_node}
use Rattle.cs_tx_types.specs.declared.session.Session.{Session}
use Rattle.cs_tx.specs.Digest.{digest_of_session}
use Rattle.cs_tx.specs.Uses.{concerns, concerned_below, concerned_shards}
use Rattle.cs_wire_message.specs.declared.message.Message.{Message}
use Rattle.cs_wire_message.specs.declared.message.Message.TheVariants as message
use Rattle.cs_quorum.specs.Marks.{Marks, is_marked}
use Rattle.cs_client.specs.declared.counting.Voices.{Voices}
use Rattle.cs_client.specs.declared.errand.Errand.{Errand}
use Rattle.cs_client.specs.declared.phases.Phase.{Phase as Kept}
use Rattle.cs_client.specs.declared.phases.Phase.TheVariants as kept
use Rattle.cs_client.specs.declared.phases.Submission.{Submission}
use Rattle.cs_client.specs.Inputs.{ClientInput, heard, from_node, said_from}
use Rattle.cs_client.specs.Phases.{Submitting, phase}
use Rattle.cs_client.specs.Knowing.{says_decided, has_decided}
use Rattle.cs_client.specs.Voices.{Pairwise, Marked, Heard, HeardThere, HeardFrom}
use Rattle.cs_client.specs.Seen.{VoicesAfter, CountsIn}
use Rattle.cs_client.specs.Hearing.{KeepsTally, KeepsVoices, KeepsHeard}
use Rattle.cs_client.proofs.Members.{node_at}
use Rattle.cs_client.proofs.Telling.{is_in, is-one, isn't, same-place, other-shard, other-index, stranger}
use Rattle.std.proofs.lemmas.Option.{slice_get_within}
use Rattle.cs_client.proofs.Counted.{got-more, got-at}

-- a concerned shard is one of the configuration
pub concerned-low : (config : Config) (x : Session) (n k shard : ℕ) → slice_get (concerned_below config x n) k ≡ Some shard → shard < n
concerned-low config x zero k shard is = absurd cc
concerned-low config x (suc n) k shard is = by (concerns config x n) is (concerned-low config x n k shard) where
  by : (here : Bool) → slice_get (concerned_below config x n ++ (if here then n ∷ [] else [])) k ≡ Some shard
      → (slice_get (concerned_below config x n) k ≡ Some shard → shard < n) → shard < suc n
  by true is rest =
      elim (got-more (concerned_below config x n) n k shard is) [
        | inl before ↦ let less = rest before in omega arith
        | inr last ↦ let e = last.1 in omega arith
      ]
  by false is rest = let less = rest (ap (λ xs. slice_get xs k) (sym (append-nil (concerned_below config x n))) ∙ is) in omega arith

pub are-node : (config : Config) (shard index : ℕ) → shard < config.shards → index < 3 * config.f + 1 → is_node config (node_at shard index) ≡ true
are-node config shard index low less = grind (arith, nat_tests)

-- of two names of which only one is a node's
two-nodes : (config : Config) (from node : NodeId) → is_node config from ≡ false → is_node config node ≡ true → same_name from node ≡ false
two-nodes config from node other is =
    let place = is_in config node is in stranger config from node.shard node.index other place.0 place.1

module _ (e : Errand) (past : List ClientInput) (input : ClientInput) where
  -- what a node says by the input of the session that is submitted
  abbrev now : Bool → NodeId → Bool
  now accepted node = option_map_or (says_decided (phase e past) accepted) (said_from e.keys node input) false

  -- no node decides
  pub silent-heard : (kept : Kept) → ((accepted : Bool) (node : NodeId) → is_node e.config node ≡ true → now accepted node ≡ false) → KeepsHeard e past kept → KeepsHeard e (input ∷ past) kept
  silent-heard kept.Asking none old = tt
  silent-heard (kept.Wanting wanted) none old = tt
  silent-heard kept.Idle none old = tt
  silent-heard (kept.Submitting s) none old = record {
    many = old.many;
    each = λ k shard v gs gv.
        let low = concerned-low e.config s.session e.config.shards k shard gs in
        let before = old.each k shard v gs gv in
        let still : (accepted : Bool) (n : ℕ) → n < 3 * e.config.f + 1 → has_decided e accepted past (node_at shard n) ≡ has_decided e accepted (input ∷ past) (node_at shard n) = λ accepted n less.
        sym (ap (λ t. t || has_decided e accepted past (node_at shard n)) (none accepted (node_at shard n) (are-node e.config shard n low less))) in
        record {
          shard_is = before.shard_is;
          accepted = record { members = before.accepted.members; marks = λ n less. before.accepted.marks n less ∙ still true n less };
          aborted = record { members = before.aborted.members; marks = λ n less. before.aborted.marks n less ∙ still false n less };
        };
  }

  -- what doesn't open decides nothing
  pub unheard-heard : (kept : Kept) → heard e.keys input ≡ None → KeepsHeard e past kept → KeepsHeard e (input ∷ past) kept
  unheard-heard kept none old =
      silent-heard kept (λ accepted node is. ap (λ s. option_map_or (says_decided (phase e past) accepted) (from_node node s) false) none) old

  module _ (from : NodeId) (m : Message) (said : heard e.keys input ≡ Some (from, m)) where
    now-here : (accepted : Bool) (node : NodeId) → same_name from node ≡ true → now accepted node ≡ says_decided (phase e past) accepted m
    now-here accepted node same =
        ap (λ s. option_map_or (says_decided (phase e past) accepted) (from_node node s) false) said
        ∙ ap (λ t. option_map_or (says_decided (phase e past) accepted) (if t then Some m else None) false) same

    now-not : (accepted : Bool) (node : NodeId) → same_name from node ≡ false → now accepted node ≡ false
    now-not accepted node other =
        ap (λ s. option_map_or (says_decided (phase e past) accepted) (from_node node s) false) said
        ∙ ap (λ t. option_map_or (says_decided (phase e past) accepted) (if t then Some m else None) false) other

    -- nor does a message that is no decision on it
    pub other-heard : (kept : Kept) → ((accepted : Bool) → says_decided (phase e past) accepted m ≡ false) → KeepsHeard e past kept → KeepsHeard e (input ∷ past) kept
    other-heard kept none old =
        silent-heard kept
        (λ accepted node is. elim (cases_Bool (same_name from node)) [
          | inl same ↦ now-here accepted node same ∙ none accepted
          | inr other ↦ now-not accepted node other
        ])
        old

    -- nor does who isn't a node of the configuration
    pub stranger-heard : (kept : Kept) → is_node e.config from ≡ false → KeepsHeard e past kept → KeepsHeard e (input ∷ past) kept
    stranger-heard kept other old = silent-heard kept (λ accepted node is. now-not accepted node (two-nodes e.config from node other is)) old

-- ---- a node decides

marked-so : (from : NodeId) (shard n : ℕ) (says : Bool) → from.shard ≡ shard → (if same_name from (node_at shard n) then says else false) ≡ ((n == from.index) && says)
marked-so from shard n says here =
    elim (cases_eq n from.index) [
      | inl same ↦
          ap (λ t. if t then says else false) (same-place from shard n here (sym same))
          ∙ sym (ap (λ t. t && says) (is-one n from.index same))
      | inr other ↦
          ap (λ t. if t then says else false) (other-index from (node_at shard n) (λ q. other (sym q)))
          ∙ sym (ap (λ t. t && says) (isn't n from.index other))
    ]

module _ (e : Errand) (past : List ClientInput) (input : ClientInput) (from : NodeId) (digest : List ℕ) (so : Bool) (said : heard e.keys input ≡ Some (from, message.Decided digest so)) where
  -- whether it decides so
  abbrev sense : Bool → Bool
  sense accepted = if accepted then so else not so

  -- what is said of a session that is submitted, by each node
  now-decided : (x : Session) → phase e past ≡ Submitting x → bytes_eq (digest_of_session x) digest ≡ true → (accepted : Bool) (node : NodeId)
      → now e past input accepted node ≡ (if same_name from node then sense accepted else false)
  now-decided x at same accepted node =
      elim (cases_Bool (same_name from node)) [
        | inl here ↦
            now-here e past input from (message.Decided digest so) said accepted node here
            ∙ (ap (λ p. says_decided p accepted (message.Decided digest so)) at ∙ (ap (λ t. t && sense accepted) same
            ∙ sym (ap (λ t. if t then sense accepted else false) here)))
        | inr other ↦ now-not e past input from (message.Decided digest so) said accepted node other ∙ sym (ap (λ t. if t then sense accepted else false) other)
      ]

  -- a tally of the shard of who says it
  marked-tally : (x : Session) → phase e past ≡ Submitting x → bytes_eq (digest_of_session x) digest ≡ true → (accepted : Bool) (shard : ℕ) (old new : Marks)
      → from.shard ≡ shard → KeepsTally e accepted past shard old → Marked from.index (sense accepted) old new → KeepsTally e accepted (input ∷ past) shard new
  marked-tally x at same accepted shard old new here before marked = record {
    members = marked.members ∙ before.members;
    marks = λ n less.
        marked.marks n
        ∙ (ap (λ t. t || is_marked old n) (sym (now-decided x at same accepted (node_at shard n) ∙ marked-so from shard n (sense accepted) here))
        ∙ ap (λ t. now e past input accepted (node_at shard n) || t) (before.marks n less));
  }

  -- that of another shard
  kept-tally : (accepted : Bool) (shard : ℕ) (tally : Marks) → (from.shard ≡ shard → ⊥) → KeepsTally e accepted past shard tally → KeepsTally e accepted (input ∷ past) shard tally
  kept-tally accepted shard tally apart before = record {
    members = before.members;
    marks = λ n less.
        before.marks n less
        ∙ sym (ap (λ t. t || has_decided e accepted past (node_at shard n))
        (now-not e past input from (message.Decided digest so) said accepted (node_at shard n) (other-shard from (node_at shard n) apart)));
  }

  heard-voices : (x : Session) → phase e past ≡ Submitting x → bytes_eq (digest_of_session x) digest ≡ true → (shard : ℕ) (old new : Voices)
      → KeepsVoices e past shard old → HeardFrom from so old new → KeepsVoices e (input ∷ past) shard new
  heard-voices x at same shard old new before heard =
      elim (cases_eq old.shard from.shard) [
        | inl here ↦
            let there : Heard from.index so old new = subst (λ t. HeardThere t from.index so old new) (is-one old.shard from.shard here) heard in
            let place : from.shard ≡ shard = sym here ∙ before.shard_is in
            record {
              shard_is = there.shard_is ∙ before.shard_is;
              accepted = marked-tally x at same true shard old.accepted new.accepted place before.accepted there.accepted_is;
              aborted = marked-tally x at same false shard old.aborted new.aborted place before.aborted there.aborted_is;
            }
        | inr apart ↦
            let still : new ≡ old = subst (λ t. HeardThere t from.index so old new) (isn't old.shard from.shard apart) heard in
            let away : from.shard ≡ shard → ⊥ = λ q. apart (before.shard_is ∙ sym q) in
            subst (KeepsVoices e (input ∷ past) shard) (sym still) (record {
              shard_is = before.shard_is;
              accepted = kept-tally true shard old.accepted away before.accepted;
              aborted = kept-tally false shard old.aborted away before.aborted;
            })
      ]

  -- all voices after it
  pub decided-heard : (old new : Submission) → phase e past ≡ Submitting old.session → old.digest ≡ digest_of_session old.session
      → KeepsHeard e past (kept.Submitting old) → CountsIn from digest so old new → KeepsHeard e (input ∷ past) (kept.Submitting new)
  decided-heard old new at own before counts =
      subst (λ x. Pairwise (KeepsVoices e (input ∷ past)) (concerned_shards e.config x) new.voices.items) (sym counts.session_is) (by (bytes_eq old.digest digest) refl counts.voices)
    where
      by : (same : Bool) → bytes_eq old.digest digest ≡ same → VoicesAfter same from so old.voices.items new.voices.items
          → Pairwise (KeepsVoices e (input ∷ past)) (concerned_shards e.config old.session) new.voices.items
      by false is after =
          subst (λ vs. Pairwise (KeepsVoices e (input ∷ past)) (concerned_shards e.config old.session) vs) (sym after)
          (other-heard e past input from (message.Decided digest so) said (kept.Submitting old)
          (λ accepted. ap (λ p. says_decided p accepted (message.Decided digest so)) at ∙ ap (λ d. bytes_eq d digest && sense accepted) (sym own) ∙ ap (λ t. t && sense accepted) is)
          before)
      by true is after = record {
        many = after.many ∙ before.many;
        each = λ k shard w gs gw. one k shard w gs gw;
      }
        where
          same : bytes_eq (digest_of_session old.session) digest ≡ true
          same = ap (λ d. bytes_eq d digest) (sym own) ∙ is

          one : (k shard : ℕ) (w : Voices) → slice_get (concerned_shards e.config old.session) k ≡ Some shard → slice_get new.voices.items k ≡ Some w → KeepsVoices e (input ∷ past) shard w
          one k shard w gs gw =
              let less = slice_get_within (concerned_shards e.config old.session) k shard gs in
              let long = before.many in
              let found = got-at old.voices.items k (omega arith) in
              heard-voices old.session at same shard found.0 w (before.each k shard found.0 gs found.1) (after.each k found.0 w found.1 gw)
