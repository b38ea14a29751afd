-- What is printed of a schedule is read as that schedule.
use Rattle.std.specs.Prelude.{◌≡◌, ◌≢◌, ℕ, ◌+◌, ◌≤◌, true, false, List, [], ◌∷◌, ◌++◌, length, Ok, codes}
use Rattle.std.specs.List.{All, AllByRecursion, AllPairs}
use Rattle.std.proofs.Common.{sym, refl, subst, arith}
use Rattle.std.proofs.lemmas.List.Elements.{recursion_from_All}
use Rattle.cs_base.specs.NodeId.{is_node}
use Rattle.cs_base.specs.declared.config.Config.{Config}
use Rattle.cs_base.specs.declared.node_id.NodeId.{NodeId}
use Rattle.cs_base.specs.declared.limits.TheConstants.{MOST_SHARDS, MOST_LIARS, MOST_DUMMIES, MOST_GENESIS}
use Rattle.cs_tx_value.specs.Object.{DigestFits}
use Rattle.cs_tx_value.specs.declared.object.Object.{Object}
use Rattle.cs_sched.specs.declared.schedule.Event.{Event}
use Rattle.cs_sched.specs.declared.schedule.Event.TheVariants.{Say, Inject, Deliver, Tick, Drain}
use Rattle.cs_sched.specs.declared.schedule.Schedule.{Schedule}
use Rattle.cs_sched.specs.Drafts.{empty_draft}
use Rattle.cs_tx.specs.GenesisNames.{genesis_names}
use Rattle.cs_sched.specs.Naming.{liars_of}
use Rattle.cs_sched.specs.declared.limits.TheConstants.{MOST_CONTRACTS}
use Rattle.cs_sched.specs.Playable.{IsPlayableEvent, IsContractText}
use Rattle.cs_text.proofs.Plain.{IsLine, field-word, field-decimal, field-bytes, field-name}
use Rattle.cs_text.proofs.Rows.{read_fields, text_again}
use Rattle.cs_sched.specs.Text.{schedule_form, schedule_of}
use Rattle.cs_sched.specs.declared.draft.Draft.{Draft}
use Rattle.cs_sched.specs.declared.draft.Stage.TheVariants as stage
use Rattle.cs_sched.proofs.Played.{schedule_sound}
use Rattle.cs_sched.proofs.Sound.{IsSound}
use Rattle.cs_sched.specs.Again.{numbered_events, renumbered, ScheduleIsReadAgain}
use Rattle.cs_sched.specs.Printed.{event_words, liar_lines, contract_lines, genesis_lines, printed_events, schedule_lines, schedule_text}
use Rattle.cs_sched.proofs.Back.{node_small, named_small, honest_small}
use Rattle.cs_sched.proofs.Walk.{made, IsPrintable, reads_head, reads_liars, reads_contracts, reads_objects, reads_events, run_step}

abbrev whole_of : Config → List ℕ → List NodeId → List (List ℕ) → List Object → List (ℕ × Event) → Schedule
whole_of config master liars contracts genesis events =
    record { config = config; master = master; liars = liars; contracts = contracts; genesis = genesis; events = events }

-- what is known of a schedule that was read
record IsRead (config : Config) (master : List ℕ) (liars : List NodeId) (contracts : List (List ℕ)) (genesis : List Object) (events : List (ℕ × Event)) : Type 0 where
  version : config.version ≡ 1
  digest : DigestFits master
  nodes : AllByRecursion (λ name. is_node config name ≡ true) liars
  few_liars : (shard : ℕ) → liars_of liars shard ≤ config.f
  apart : AllPairs (λ a b. a ≢ b) liars
  contracts_fit : AllByRecursion IsContractText contracts
  few_contracts : length contracts ≤ MOST_CONTRACTS
  objects : AllByRecursion IsPrintable genesis
  few : length genesis ≤ MOST_GENESIS
  differ : AllPairs (λ a b. a ≢ b) (genesis_names 0 genesis)
  played : AllByRecursion (λ event. IsPlayableEvent config liars event.1) events

-- each of its lines has a word, and fields that can be told apart

event_is_line : (config : Config) (liars : List NodeId) (event : Event) → IsPlayableEvent config liars event → IsLine (event_words event)
event_is_line config liars (Say from to kind body) fits =
    let few = fits.kind in
    let speaker = named_small config from fits.speaker.named in
    let listener = honest_small config liars to fits.listener in (
      field-word (codes "say") (omega arith) refl,
      (field-name from speaker.shard speaker.index, (field-name to listener.shard listener.index, (field-decimal kind (omega arith), (field-bytes body fits.in_bytes, tt)))),
    )
event_is_line config liars (Inject to bytes) fits =
    let node = honest_small config liars to fits.node in
    (field-word (codes "inject") (omega arith) refl, (field-name to node.shard node.index, (field-bytes bytes fits.in_bytes, tt)))
event_is_line config liars (Deliver number) fits = (field-word (codes "deliver") (omega arith) refl, (field-decimal number fits, tt))
event_is_line config liars (Tick node) fits =
    let small = honest_small config liars node fits in
    (field-word (codes "tick") (omega arith) refl, (field-name node small.shard small.index, tt))
event_is_line config liars (Drain times) fits = (field-word (codes "drain") (omega arith) refl, (field-decimal times fits, tt))

events_are_lines : (config : Config) (liars : List NodeId) (events : List (ℕ × Event)) (rest : List (List (List ℕ))) → AllByRecursion (λ event. IsPlayableEvent config liars event.1) events → AllByRecursion IsLine rest
    → AllByRecursion IsLine (printed_events events ++ rest)
events_are_lines config liars [] rest fit more = more
events_are_lines config liars (event ∷ events) rest fit more = (event_is_line config liars event.1 fit.0, events_are_lines config liars events rest fit.1 more)

objects_are_lines : (objects : List Object) (rest : List (List (List ℕ))) → AllByRecursion IsPrintable objects → AllByRecursion IsLine rest → AllByRecursion IsLine (genesis_lines objects ++ rest)
objects_are_lines [] rest fit more = more
objects_are_lines (object ∷ objects) rest fit more = ((field-word (codes "genesis") (omega arith) refl, (field-bytes _ fit.0.1, tt)), objects_are_lines objects rest fit.1 more)

contracts_are_lines : (contracts : List (List ℕ)) (rest : List (List (List ℕ))) → AllByRecursion IsContractText contracts → AllByRecursion IsLine rest → AllByRecursion IsLine (contract_lines contracts ++ rest)
contracts_are_lines [] rest fit more = more
contracts_are_lines (text ∷ contracts) rest fit more = ((field-word (codes "contract") (omega arith) refl, (field-bytes text fit.0.in_bytes, tt)), contracts_are_lines contracts rest fit.1 more)

liars_are_lines : (config : Config) (liars : List NodeId) (rest : List (List (List ℕ))) → AllByRecursion (λ name. is_node config name ≡ true) liars → AllByRecursion IsLine rest → AllByRecursion IsLine (liar_lines liars ++ rest)
liars_are_lines config [] rest nodes more = more
liars_are_lines config (name ∷ liars) rest nodes more =
    let small = node_small config name nodes.0 in
    ((field-word (codes "liar") (omega arith) refl, (field-name name small.shard small.index, tt)), liars_are_lines config liars rest nodes.1 more)

module _ (config : Config) (master : List ℕ) (liars : List NodeId) (contracts : List (List ℕ)) (genesis : List Object) (events : List (ℕ × Event)) (known : IsRead config master liars contracts genesis events) where
  abbrev schedule : Schedule
  schedule = whole_of config master liars contracts genesis events

  are_lines : AllByRecursion IsLine (schedule_lines schedule)
  are_lines =
      let few_shards : config.shards ≤ MOST_SHARDS = config.few_shards in
      let few_liars : config.f ≤ MOST_LIARS = config.few_liars in
      let few_dummies : config.dummies ≤ MOST_DUMMIES = config.few_dummies in
      let ended : AllByRecursion IsLine ((codes "end" ∷ []) ∷ []) = ((field-word (codes "end") (omega arith) refl, tt), tt) in
      let played = events_are_lines config liars events ((codes "end" ∷ []) ∷ []) known.played ended in
      let run : AllByRecursion IsLine ((codes "run" ∷ []) ∷ (printed_events events ++ (codes "end" ∷ []) ∷ [])) = ((field-word (codes "run") (omega arith) refl, tt), played) in (
        (field-word (codes "shards") (omega arith) refl, (field-decimal config.shards (omega arith), tt)),
        (
          (field-word (codes "faulty") (omega arith) refl, (field-decimal config.f (omega arith), tt)),
          (
            (field-word (codes "dummies") (omega arith) refl, (field-decimal config.dummies (omega arith), tt)),
            (
              (field-word (codes "master") (omega arith) refl, (field-bytes master known.digest.1, tt)),
              liars_are_lines config liars (contract_lines contracts ++ (genesis_lines genesis ++ (codes "run" ∷ []) ∷ (printed_events events ++ (codes "end" ∷ []) ∷ []))) known.nodes
                  (contracts_are_lines contracts (genesis_lines genesis ++ (codes "run" ∷ []) ∷ (printed_events events ++ (codes "end" ∷ []) ∷ [])) known.contracts_fit
                  (objects_are_lines genesis ((codes "run" ∷ []) ∷ (printed_events events ++ (codes "end" ∷ []) ∷ [])) known.objects run)),
            ),
          ),
        ),
      )

  -- the draft that its lines give
  abbrev last : ℕ → Draft
  last first = made stage.Ended config master liars contracts genesis (numbered_events first events)

  reads_run : (first : ℕ) → read_fields schedule_form (made stage.Events config master liars contracts genesis []) first (printed_events events ++ (codes "end" ∷ []) ∷ []) ≡ Ok (last first)
  reads_run first = reads_events config master liars contracts genesis (last first) ((codes "end" ∷ []) ∷ []) events [] first known.played refl

  -- the number of the first event's line
  abbrev events_from : ℕ
  events_from = 6 + (length liars + (length contracts + length genesis))

  reads_all : read_fields schedule_form empty_draft 1 (schedule_lines schedule) ≡ Ok (last events_from)
  reads_all =
      let first : 5 + length liars + length contracts + length genesis + 1 ≡ events_from = omega arith in
      let rest = (codes "run" ∷ []) ∷ (printed_events events ++ (codes "end" ∷ []) ∷ []) in
      reads_head config master known.version known.digest (last events_from) (liar_lines liars ++ (contract_lines contracts ++ (genesis_lines genesis ++ rest)))
      (reads_liars config master liars (last events_from) (contract_lines contracts ++ (genesis_lines genesis ++ rest)) known.apart known.few_liars liars [] 5 refl known.nodes
      (reads_contracts config master liars contracts (last events_from) (genesis_lines genesis ++ rest) known.few_contracts contracts [] false (5 + length liars) refl known.contracts_fit
      (λ told. reads_objects config master liars contracts genesis (last events_from) rest known.few known.differ genesis [] told false (5 + length liars + length contracts) refl known.objects
      (λ any. rw (run_step config master liars contracts told any genesis (5 + length liars + length contracts + length genesis))
      (subst (λ n. read_fields schedule_form (made stage.Events config master liars contracts genesis []) n (printed_events events ++ (codes "end" ∷ []) ∷ []) ≡ Ok (last events_from)) (sym first) (reads_run events_from))))))

  again_whole : (limit : ℕ) → length (schedule_text schedule) ≤ limit
      → schedule_of limit (schedule_text schedule) ≡ Ok (renumbered schedule)
  unfolding schedule_of
  again_whole limit short = text_again schedule_form (schedule_lines schedule) (last events_from) (renumbered schedule) limit are_lines reads_all refl short

-- a draft's objects have encodings
printable : (objects : List Object) → All IsPrintable objects → AllByRecursion IsPrintable objects
printable objects all = recursion_from_All IsPrintable objects all

known_of : (draft : Draft) → IsSound draft
    → IsRead draft.schedule.config draft.schedule.master draft.schedule.liars draft.schedule.contracts draft.schedule.genesis draft.schedule.events
known_of draft sound = record {
  version = sound.playable.version;
  digest = sound.master;
  nodes = recursion_from_All (λ name. is_node draft.schedule.config name ≡ true) draft.schedule.liars sound.playable.liars;
  few_liars = sound.playable.few_liars;
  apart = sound.playable.liars_differ;
  contracts_fit = recursion_from_All IsContractText draft.schedule.contracts sound.playable.contracts;
  few_contracts = sound.playable.few_contracts;
  objects = printable draft.schedule.genesis (λ k d within. (sound.playable.objects k d within, sound.encodings k d within));
  few = sound.playable.few_objects;
  differ = sound.playable.keys_differ;
  played = recursion_from_All (λ event. IsPlayableEvent draft.schedule.config draft.schedule.liars event.1) draft.schedule.events sound.playable.events;
}

again_sound : (limit : ℕ) (draft : Draft) → IsSound draft → length (schedule_text draft.schedule) ≤ limit → schedule_of limit (schedule_text draft.schedule) ≡ Ok (renumbered draft.schedule)
again_sound limit draft sound =
    let s = draft.schedule in
    again_whole s.config s.master s.liars s.contracts s.genesis s.events (known_of draft sound) limit

pub again : (limit : ℕ) → ScheduleIsReadAgain limit
again limit text schedule read short =
    let (draft, same, sound) = schedule_sound limit text schedule read in
    subst (λ (s : Schedule). length (schedule_text s) ≤ limit → schedule_of limit (schedule_text s) ≡ Ok (renumbered s)) same (again_sound limit draft sound) short
