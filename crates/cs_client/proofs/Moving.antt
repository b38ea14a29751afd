-- How a phase moves on by what is kept, and by the inputs.
use Rattle.std.proofs.Common.{◌≡◌, ℕ, zero, suc, ◌<◌, Bool, true, false, List, [], ◌∷◌, ◌++◌, map, Option, Some, None, Ok, Err, refl, sym, ap, subst, ◌∙◌, arith, if◌then◌else◌}
use Rattle.std.specs.Prelude.{filter, unwrap_or, ◌||◌}
use Rattle.std.specs.List.{AllByRecursion}
use Rattle.std.specs.Option.{option_map_or}
use Rattle.std.proofs.lemmas.List.Concat.{flat_map-append}
use Rattle.cs_base.specs.declared.config.Config.{Config}
use Rattle.cs_base.specs.declared.node_id.NodeId.{NodeId}
use Rattle.cs_tx_types.specs.declared.session.Session.{Session}
use Rattle.cs_tx.specs.Uses.{concerns, concerned_below, concerned_shards}
use Rattle.cs_wire.specs.declared.keys.Keys.{Keys}
use Rattle.cs_wire.specs.declared.input.Out.{Out}
use Rattle.cs_wire_message.specs.declared.message.Message.{Message}
use Rattle.cs_quorum.specs.Marks.{Marks}
use Rattle.cs_proc.specs.declared.call.Call.{Call}
use Rattle.cs_proc.specs.declared.error.ProcError.{ProcError}
use Rattle.cs_proc.specs.Calling.{CallRan}
use Rattle.cs_tx_types.specs.Transaction.{tx_of}
use Rattle.cs_client.specs.declared.errand.Errand.{Errand}
use Rattle.cs_client.specs.declared.phases.Phase.{Phase as Kept}
use Rattle.cs_client.specs.declared.phases.Phase.TheVariants as kept
use Rattle.cs_client.specs.Inputs.{ClientInput, said_from}
use Rattle.cs_client.specs.Objects.{believed}
use Rattle.cs_dummies.specs.Named.{least_named}
use Rattle.cs_client.specs.Dummies.{serials_in, dummy_believed, with_dummy, dummies_for}
use Rattle.cs_client.specs.Calls.{objects_with, objects_for, call_with, ready, ran_with}
use Rattle.cs_client.specs.Sessions.{has_input, session_without_dummies, is_bare, bare_shards}
use Rattle.cs_client.specs.Phases.{Phase, Asking, Wanting, Submitting, Idle, provided, wanting, after_method, moved, first_phase, phase}
use Rattle.cs_client.specs.Knowing.{says_decided, has_decided, knows}
use Rattle.cs_client.specs.Sayings.{again, at_tick, on_entering, says_at, out_of, outs_of_sayings}
use Rattle.cs_client.specs.Kept.{WordsTold, told_by_inputs, asked_on, objects_believed}
use Rattle.cs_client.specs.Voices.{IsBlank}
use Rattle.cs_client.specs.Seen.{phase_seen, dummies_kept, ready_kept, next_kept, IsFresh, StaysOrFresh, IsApproved, HasMoved, IsRefusedNow}
use Rattle.cs_client.specs.Hearing.{KeepsTally, KeepsHeard, Keeps}
use Rattle.cs_client.specs.Standing.{MethodIsRefused}
use Rattle.cs_client.proofs.Members.{node_at, get-shards}

-- ---- the call and the dummies that are believed

objects-kept : (config : Config) (keys : Keys) (inputs : List ClientInput) (names : List (List ℕ)) → objects_believed config.f (map (asked_on config keys inputs) names) ≡ objects_for (believed config keys inputs) names
objects-kept config keys inputs [] = refl
objects-kept config keys inputs (name ∷ names) = ap (objects_with name (believed config keys inputs name)) (objects-kept config keys inputs names)

ready-so : (e : Errand) (inputs : List ClientInput) → ready_kept e (told_by_inputs e inputs) ≡ ready e inputs
ready-so e inputs =
    ap (λ i. call_with e.call i (objects_believed e.config.f (told_by_inputs e inputs).reads)) (objects-kept e.config e.keys inputs e.call.inputs)
    ∙ ap (λ r. call_with e.call (objects_for (believed e.config e.keys inputs) e.call.inputs) r) (objects-kept e.config e.keys inputs e.call.reads)

pub dummy-so : (e : Errand) (inputs : List ClientInput) (shard : ℕ) → shard < e.config.shards → dummies_kept e (told_by_inputs e inputs) shard ≡ dummy_believed e.dummy e.config e.keys inputs shard
dummy-so e inputs shard low =
    ap (λ o. least_named e.config.f (unwrap_or o [])) (get-shards (serials_in e.dummy e.config e.keys inputs) e.config.shards shard low)

-- ---- dummies that agree at the shards of the configuration

dummies-alike : (d d' : ℕ → Option ℕ) (shards : List ℕ) → AllByRecursion (λ s. d s ≡ d' s) shards → dummies_for d shards ≡ dummies_for d' shards
dummies-alike d d' [] same = refl
dummies-alike d d' (shard ∷ shards) same =
    ap (λ o. with_dummy shard o (dummies_for d shards)) same.0 ∙ ap (with_dummy shard (d' shard)) (dummies-alike d d' shards same.1)

module _ (P : ℕ → Type 0) where
  all-filter : (p : ℕ → Bool) (xs : List ℕ) → AllByRecursion P xs → AllByRecursion P (filter p xs)
  all-filter p [] all = tt
  all-filter p (x ∷ xs) all = by (p x) (all-filter p xs all.1) where
    by : (here : Bool) → AllByRecursion P (filter p xs) → AllByRecursion P (if here then x ∷ filter p xs else filter p xs)
    by true rest = (all.0, rest)
    by false rest = rest

  all-append : (xs ys : List ℕ) → AllByRecursion P xs → AllByRecursion P ys → AllByRecursion P (xs ++ ys)
  all-append [] ys a b = b
  all-append (x ∷ xs) ys a b = (a.0, all-append xs ys a.1 b)

all-concerned : (P : ℕ → Type 0) (config : Config) (x : Session) (n : ℕ) → ((s : ℕ) → s < n → P s) → AllByRecursion P (concerned_below config x n)
all-concerned P config x zero h = tt
all-concerned P config x (suc n) h =
    all-append P (concerned_below config x n) (if concerns config x n then n ∷ [] else [])
    (all-concerned P config x n (λ s less. h s (omega arith))) (by (concerns config x n))
  where
    by : (here : Bool) → AllByRecursion P (if here then n ∷ [] else [])
    by true = (h n (omega arith), tt)
    by false = tt

-- what holds of all shards of the configuration holds of those that need a dummy
pub all-bare : (P : ℕ → Type 0) (config : Config) (x : Session) → ((s : ℕ) → s < config.shards → P s) → AllByRecursion P (bare_shards config x)
all-bare P config x h = all-filter P (is_bare config x) (concerned_shards config x) (all-concerned P config x config.shards h)

wanting-alike : (config : Config) (d d' : ℕ → Option ℕ) (x : Session) → ((s : ℕ) → s < config.shards → d s ≡ d' s) → wanting config d x ≡ wanting config d' x
wanting-alike config d d' x same =
    ap (provided x) (dummies-alike d d' (bare_shards config x) (all-bare (λ s. d s ≡ d' s) config x same))

begun-alike : (e : Errand) (d d' : ℕ → Option ℕ) (run : CallRan) → ((s : ℕ) → s < e.config.shards → d s ≡ d' s) → after_method e d run ≡ after_method e d' run
begun-alike e d d' (Err error) same = refl
begun-alike e d d' (Ok traces) same =
    ap (λ p. if has_input (tx_of traces) then p else Idle) (wanting-alike e.config d d' (session_without_dummies (tx_of traces) e.call.number) same)

moved-alike : (e : Errand) (d d' : ℕ → Option ℕ) (call : Option Call) (p : Phase) → ((s : ℕ) → s < e.config.shards → d s ≡ d' s) → moved e d call p ≡ moved e d' call p
moved-alike e d d' (Some call) Asking same = begun-alike e d d' (ran_with e call) same
moved-alike e d d' None Asking same = refl
moved-alike e d d' call (Wanting x) same = wanting-alike e.config d d' x same
moved-alike e d d' call (Submitting x) same = refl
moved-alike e d d' call Idle same = refl

-- the phase that follows by what is kept of the inputs is that by the inputs
pub next-so : (e : Errand) (past : List ClientInput) (input : ClientInput) (told : WordsTold) (before : Phase) → told ≡ told_by_inputs e (input ∷ past) → before ≡ phase e past → next_kept e told before ≡ phase e (input ∷ past)
next-so e past input told before is at =
    ap (λ t. next_kept e t before) is
    ∙ (ap (next_kept e (told_by_inputs e (input ∷ past))) at
    ∙ (ap (λ c. moved e (dummies_kept e (told_by_inputs e (input ∷ past))) c (phase e past)) (ready-so e (input ∷ past))
    ∙ moved-alike e (dummies_kept e (told_by_inputs e (input ∷ past))) (dummy_believed e.dummy e.config e.keys (input ∷ past)) (ready e (input ∷ past)) (phase e past) (dummy-so e (input ∷ past))))

-- ---- before submission nothing is decided

abbrev IsBefore : Phase → Type 0
IsBefore Asking = Unit {0}
IsBefore (Wanting x) = Unit {0}
IsBefore (Submitting x) = ⊥
IsBefore Idle = Unit {0}

before-moved : (e : Errand) (d : ℕ → Option ℕ) (call : Option Call) (p : Phase) → IsBefore (moved e d call p) → IsBefore p
before-moved e d call Asking h = tt
before-moved e d call (Wanting x) h = tt
before-moved e d call (Submitting x) h = h
before-moved e d call Idle h = tt

decides-nothing : (p : Phase) (accepted : Bool) (said : Option Message) → IsBefore p → option_map_or (says_decided p accepted) said false ≡ false
decides-nothing p accepted None h = refl
decides-nothing Asking accepted (Some m) h = refl
decides-nothing (Wanting x) accepted (Some m) h = refl
decides-nothing (Submitting x) accepted (Some m) h = absurd h
decides-nothing Idle accepted (Some m) h = refl

none-decided : (e : Errand) (accepted : Bool) (past : List ClientInput) (input : ClientInput) (node : NodeId) → IsBefore (phase e past) → has_decided e accepted (input ∷ past) node ≡ false
none-decided e accepted [] input node h = ap (λ t. t || false) (decides-nothing (first_phase e.session) accepted (said_from e.keys node input) h)
none-decided e accepted (last ∷ past) input node h =
    ap (λ t. t || has_decided e accepted (last ∷ past) node) (decides-nothing (phase e (last ∷ past)) accepted (said_from e.keys node input) h)
    ∙ none-decided e accepted past last node (before-moved e (dummy_believed e.dummy e.config e.keys (last ∷ past)) (ready e (last ∷ past)) (phase e past) h)

blank-kept : (e : Errand) (accepted : Bool) (past : List ClientInput) (input : ClientInput) (shard : ℕ) (tally : Marks) → IsBefore (phase e past) → IsBlank e.config.f tally → KeepsTally e accepted (input ∷ past) shard tally
blank-kept e accepted past input shard tally h blank = record {
  members = blank.members;
  marks = λ n less. blank.unmarked n ∙ sym (none-decided e accepted past input (node_at shard n) h);
}

fresh-heard : (e : Errand) (past : List ClientInput) (input : ClientInput) (new : Kept) → IsBefore (phase e past) → IsFresh e.config new → KeepsHeard e (input ∷ past) new
fresh-heard e past input kept.Asking h fresh = tt
fresh-heard e past input (kept.Wanting wanted) h fresh = tt
fresh-heard e past input kept.Idle h fresh = tt
fresh-heard e past input (kept.Submitting s) h fresh = record {
  many = fresh.many;
  each = λ k shard v gs gv.
      let one = fresh.each k shard v gs gv in
      record {
        shard_is = one.shard_is;
        accepted = blank-kept e true past input shard v.accepted h one.accepted;
        aborted = blank-kept e false past input shard v.aborted h one.aborted;
      };
}

-- before the first input nothing is decided either
blank-begun : (e : Errand) (accepted : Bool) (shard : ℕ) (tally : Marks) → IsBlank e.config.f tally → KeepsTally e accepted [] shard tally
blank-begun e accepted shard tally blank = record { members = blank.members; marks = λ n less. blank.unmarked n }

pub first-heard : (e : Errand) (new : Kept) → IsFresh e.config new → KeepsHeard e [] new
first-heard e kept.Asking fresh = tt
first-heard e (kept.Wanting wanted) fresh = tt
first-heard e kept.Idle fresh = tt
first-heard e (kept.Submitting s) fresh = record {
  many = fresh.many;
  each = λ k shard v gs gv.
      let one = fresh.each k shard v gs gv in
      record {
        shard_is = one.shard_is;
        accepted = blank-begun e true shard v.accepted one.accepted;
        aborted = blank-begun e false shard v.aborted one.aborted;
      };
}

next-heard : (e : Errand) (past : List ClientInput) (input : ClientInput) (old new : Kept) → phase_seen old ≡ phase e past → KeepsHeard e (input ∷ past) old → StaysOrFresh e.config old new → KeepsHeard e (input ∷ past) new
next-heard e past input kept.Asking new at heard after = fresh-heard e past input new (subst IsBefore at tt) after
next-heard e past input (kept.Wanting wanted) new at heard after = fresh-heard e past input new (subst IsBefore at tt) after
next-heard e past input kept.Idle new at heard after = fresh-heard e past input new (subst IsBefore at tt) after
next-heard e past input (kept.Submitting s) new at heard after = subst (KeepsHeard e (input ∷ past)) (sym after) heard

-- ---- a step

module _ (e : Errand) (past : List ClientInput) (input : ClientInput) (told : WordsTold) (old : Kept) (keeps : Keeps e (input ∷ past) (phase e past) told old) where
  next-is : next_kept e told (phase_seen old) ≡ phase e (input ∷ past)
  next-is = next-so e past input told (phase_seen old) keeps.told_is keeps.phase_is

  ready-is : ready_kept e told ≡ ready e (input ∷ past)
  ready-is = ap (ready_kept e) keeps.told_is ∙ ready-so e (input ∷ past)

  module _ (new : Kept) (before after : List Out) (goes : HasMoved e told old new before after) where
    pub moved-keeps : Keeps e (input ∷ past) (phase e (input ∷ past)) told new
    moved-keeps = record {
      told_is = keeps.told_is;
      phase_is = goes.enters.seen ∙ next-is;
      heard = next-heard e past input old new keeps.phase_is keeps.heard goes.voices;
    }

    pub moved-says : before ≡ outs_of_sayings e.keys (at_tick input (again e (knows e past) (phase e past))) → after ≡ outs_of_sayings e.keys (says_at e input past)
    moved-says first =
        goes.enters.said
        ∙ (ap (λ outs. outs ++ outs_of_sayings e.keys (on_entering e (phase_seen old) (next_kept e told (phase_seen old)))) first
        ∙ (ap (λ p. outs_of_sayings e.keys (at_tick input (again e (knows e past) (phase e past))) ++ outs_of_sayings e.keys (on_entering e p (next_kept e told (phase_seen old)))) keeps.phase_is
        ∙ (ap (λ p. outs_of_sayings e.keys (at_tick input (again e (knows e past) (phase e past))) ++ outs_of_sayings e.keys (on_entering e (phase e past) p)) next-is
        ∙ sym (flat_map-append (out_of e.keys) (at_tick input (again e (knows e past) (phase e past))) (on_entering e (phase e past) (phase e (input ∷ past)))))))

    pub moved-made : (call : Call) → phase e past ≡ Asking → ready e (input ∷ past) ≡ Some call → IsApproved e (ran_with e call)
    moved-made call asking is = goes.made call (keeps.phase_is ∙ asking) (ready-is ∙ is)

  pub moved-refused : (cause : ProcError) → IsRefusedNow e told old cause → MethodIsRefused e past input cause
  moved-refused cause refused = record {
    asking = sym keeps.phase_is ∙ refused.asking;
    call = refused.call;
    ready_is = sym ready-is ∙ refused.ready_is;
    refused = refused.refused;
    cause_is = refused.cause_is;
  }
