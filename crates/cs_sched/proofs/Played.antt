-- Every schedule that is read can be played.
use Rattle.std.specs.Prelude.{◌≡◌, ℕ, Bool, true, false, List, [], length, Some, None, Result, Ok, Err, IfOk, codes, if◌then◌else◌}
use Rattle.std.specs.Str.{bytes_eq}
use Rattle.std.proofs.Common.{ap, refl, subst, inl, inr}
use Rattle.cs_tx.specs.Digest.{name_of_genesis}
use Rattle.cs_sched.specs.declared.schedule.Schedule.{Schedule}
use Rattle.cs_text.specs.declared.cause.Cause.TheVariants as cause
use Rattle.cs_sched.specs.declared.draft.Draft.{Draft}
use Rattle.cs_sched.specs.declared.draft.Stage.{Stage}
use Rattle.cs_sched.specs.declared.draft.Stage.TheVariants as stage
use Rattle.cs_text.specs.declared.error.TextError.{TextError}
use Rattle.cs_tx.specs.GenesisNames.{is_known}
use Rattle.cs_sched.specs.Drafts.{has_ended}
use Rattle.cs_sched.specs.Said.{shards_said, faulty_said, dummies_said, liar_said, contract_said, object_said}
use Rattle.cs_sched.specs.Events.{event_said}
use Rattle.cs_sched.specs.Lines.{with_config, with_master, with_liar, with_contract_text, with_genesis, with_event, at_stage, shards_line, faulty_line, dummies_line, master_line, liar_line, named_object, genesis_line, run_line, event_line, end_line, contract_line}
use Rattle.cs_sched.specs.Places.{genesis_place, contracts_place, liars_place, events_place, schedule_line_at}
use Rattle.cs_text.proofs.Kept.{whole_kept}
use Rattle.cs_text.proofs.Taken.{digest_said-ok}
use Rattle.cs_text.specs.Values.{no_field, digest_said}
use Rattle.cs_sched.specs.Text.{schedule_form, schedule_of}
use Rattle.cs_sched.specs.Playable.{IsPlayable}
use Rattle.cs_text.specs.Reading.{GivesText}
use Rattle.cs_text.proofs.Steps.{step_ok, change_ok, ok_same, when_ok, unless_ok, either_ok}
use Rattle.cs_sched.proofs.Sound.{IsSound, has_run, has_master, empty_sound, at_stage-sound, with_config-sound, with_master-sound, with_event-sound, with_contract-sound, with_genesis-sound, with_liar-sound}
use Rattle.cs_sched.proofs.Said.{contract_said-ok, object_said-ok, shards_first, faulty_first, dummies_first}
use Rattle.cs_sched.proofs.Liars.{liar_said-ok}
use Rattle.cs_sched.proofs.Told.{event_said-ok}

module _ (draft next : Draft) (fields : List (List ℕ)) (sound : IsSound draft) where
  shards_sound : draft.schedule.liars ≡ [] → draft.schedule.events ≡ [] → shards_line draft fields ≡ Ok next → IsSound next
  shards_sound trusted none is =
      let (config, said, moved) = change_ok (shards_said draft.schedule.config fields) (λ config. with_config draft stage.Faulty config) next is in
      subst IsSound moved (with_config-sound draft stage.Faulty config (shards_first draft.schedule.config config fields said) sound trusted none)

  faulty_sound : draft.schedule.liars ≡ [] → draft.schedule.events ≡ [] → faulty_line draft fields ≡ Ok next → IsSound next
  faulty_sound trusted none is =
      let (config, said, moved) = change_ok (faulty_said draft.schedule.config fields) (λ config. with_config draft stage.Dummies config) next is in
      subst IsSound moved (with_config-sound draft stage.Dummies config (faulty_first draft.schedule.config config fields said) sound trusted none)

  dummies_sound : draft.schedule.liars ≡ [] → draft.schedule.events ≡ [] → dummies_line draft fields ≡ Ok next → IsSound next
  dummies_sound trusted none is =
      let (config, said, moved) = change_ok (dummies_said draft.schedule.config fields) (λ config. with_config draft stage.Master config) next is in
      subst IsSound moved (with_config-sound draft stage.Master config (dummies_first draft.schedule.config config fields said) sound trusted none)

  master_sound : draft.schedule.events ≡ [] → master_line draft fields ≡ Ok next → IsSound next
  master_sound none is =
      let (master, said, moved) = change_ok (digest_said fields) (λ master. with_master draft master) next is in
      subst IsSound moved (with_master-sound draft master sound none (digest_said-ok fields master said))

  liar_sound : has_master draft.stage ≡ true → draft.schedule.events ≡ [] → liar_line draft fields ≡ Ok next → IsSound next
  liar_sound met none is =
      let (liar, said, moved) = change_ok (liar_said draft.schedule fields) (λ liar. with_liar draft liar) next is in
      subst IsSound moved (with_liar-sound draft liar sound met (liar_said-ok draft.schedule fields liar said) none)

  contract_sound : draft.schedule.events ≡ [] → contract_line draft fields ≡ Ok next → IsSound next
  contract_sound none is =
      let place = length draft.schedule.contracts in
      let (text, said, moved) = change_ok (contract_said place fields) (λ text. with_contract_text draft text) next is in
      let (few, fits) = contract_said-ok place fields text said in
      subst IsSound moved (with_contract-sound draft text sound none fits few)

  genesis_sound : draft.schedule.events ≡ [] → genesis_line draft fields ≡ Ok next → IsSound next
  genesis_sound none is =
      let place = length draft.schedule.genesis in
      let (object, said, named) = step_ok (object_said place fields) (λ object. named_object draft object (name_of_genesis place object)) next is in
      let (few, (fits, encoded)) = object_said-ok place fields object said in
      let (new, done) = unless_ok (is_known (name_of_genesis place object) draft.names) (Ok (with_genesis draft object (name_of_genesis place object))) cause.Key next named in
      subst IsSound (ok_same (with_genesis draft object (name_of_genesis place object)) next done) (with_genesis-sound draft object sound none fits encoded few new)

  run_sound : run_line draft fields ≡ Ok next → IsSound next
  run_sound is =
      let (nothing, said, moved) = change_ok (no_field fields) (λ nothing. at_stage draft stage.Events) next is in
      subst IsSound moved (at_stage-sound draft stage.Events sound refl)

  end_sound : end_line draft fields ≡ Ok next → IsSound next
  end_sound is =
      let (nothing, said, moved) = change_ok (no_field fields) (λ nothing. at_stage draft stage.Ended) next is in
      subst IsSound moved (at_stage-sound draft stage.Ended sound refl)

  event_sound : (line : ℕ) (word : List ℕ) → has_run draft.stage ≡ true → event_line line draft word fields ≡ Ok next → IsSound next
  event_sound line word run is =
      let (event, said, moved) = change_ok (event_said draft.schedule word fields) (λ event. with_event draft line event) next is in
      subst IsSound moved (with_event-sound draft line event sound run (event_said-ok draft.schedule word fields event said))

  genesis_place-sound : (word : List ℕ) → draft.schedule.events ≡ [] → genesis_place draft word fields ≡ Ok next → IsSound next
  genesis_place-sound word none is =
      elim (either_ok (bytes_eq word (codes "genesis")) (genesis_line draft fields) (if bytes_eq word (codes "run") then run_line draft fields else Err cause.Word) next is) [
        | inl genesis ↦ genesis_sound none genesis
        | inr other ↦ run_sound (when_ok (bytes_eq word (codes "run")) (run_line draft fields) cause.Word next other).1
      ]

  contracts_place-sound : (word : List ℕ) → draft.schedule.events ≡ [] → contracts_place draft word fields ≡ Ok next → IsSound next
  contracts_place-sound word none is =
      elim (either_ok (bytes_eq word (codes "contract")) (contract_line draft fields) (genesis_place draft word fields) next is) [
        | inl contract ↦ contract_sound none contract
        | inr genesis ↦ genesis_place-sound word none genesis
      ]

  liars_place-sound : (word : List ℕ) → has_master draft.stage ≡ true → draft.schedule.events ≡ [] → liars_place draft word fields ≡ Ok next → IsSound next
  liars_place-sound word met none is =
      elim (either_ok (bytes_eq word (codes "liar")) (liar_line draft fields) (contracts_place draft word fields) next is) [
        | inl liar ↦ liar_sound met none liar
        | inr other ↦ contracts_place-sound word none other
      ]

  events_place-sound : (line : ℕ) (word : List ℕ) → has_run draft.stage ≡ true → events_place line draft word fields ≡ Ok next → IsSound next
  events_place-sound line word run is =
      elim (either_ok (bytes_eq word (codes "end")) (end_line draft fields) (event_line line draft word fields) next is) [
        | inl ended ↦ end_sound ended
        | inr said ↦ event_sound line word run said
      ]

  -- at its place in the schedule, before or behind the line `run`
  line_sound : (place : Stage) (line : ℕ) (word : List ℕ) → draft.stage ≡ place → schedule_line_at place line draft word fields ≡ Ok next → IsSound next
  line_sound stage.Shards line word at is = shards_sound (sound.trusted (ap has_master at)) (sound.unplayed (ap has_run at)) (when_ok (bytes_eq word (codes "shards")) (shards_line draft fields) cause.Word next is).1
  line_sound stage.Faulty line word at is = faulty_sound (sound.trusted (ap has_master at)) (sound.unplayed (ap has_run at)) (when_ok (bytes_eq word (codes "faulty")) (faulty_line draft fields) cause.Word next is).1
  line_sound stage.Dummies line word at is = dummies_sound (sound.trusted (ap has_master at)) (sound.unplayed (ap has_run at)) (when_ok (bytes_eq word (codes "dummies")) (dummies_line draft fields) cause.Word next is).1
  line_sound stage.Master line word at is = master_sound (sound.unplayed (ap has_run at)) (when_ok (bytes_eq word (codes "master")) (master_line draft fields) cause.Word next is).1
  line_sound stage.Liars line word at is = liars_place-sound word (ap has_master at) (sound.unplayed (ap has_run at)) is
  line_sound stage.Contracts line word at is = contracts_place-sound word (sound.unplayed (ap has_run at)) is
  line_sound stage.Genesis line word at is = genesis_place-sound word (sound.unplayed (ap has_run at)) is
  line_sound stage.Events line word at is = events_place-sound line word (ap has_run at) is
  line_sound stage.Ended line word at is = absurd cc

line_kept : (number : ℕ) (draft next : Draft) (word : List ℕ) (fields : List (List ℕ)) → IsSound draft → schedule_line_at draft.stage number draft word fields ≡ Ok next → IsSound next
line_kept number draft next word fields sound is = line_sound draft next fields sound draft.stage number word refl is

ended_with : (draft : Draft) (ended : Bool) (schedule : Schedule) → (if ended then Some draft.schedule else None) ≡ Some schedule → draft.schedule ≡ schedule
ended_with draft true schedule is = cc
ended_with draft false schedule is = absurd cc

-- the draft of which a schedule is what was read
pub schedule_sound : (limit : ℕ) (text : List ℕ) (schedule : Schedule) → schedule_of limit text ≡ Ok schedule → (draft : Draft) × (draft.schedule ≡ schedule) × IsSound draft
unfolding schedule_of
schedule_sound limit text schedule is =
    let (draft, sound, ends) = whole_kept schedule_form IsSound empty_sound line_kept limit text schedule is in
    (draft, ended_with draft (has_ended draft.stage) schedule ends, sound)

schedule_playable : (limit : ℕ) (text : List ℕ) (schedule : Schedule) → schedule_of limit text ≡ Ok schedule → IsPlayable schedule
schedule_playable limit text schedule is =
    let (draft, same, sound) = schedule_sound limit text schedule is in
    subst IsPlayable same sound.playable

-- what is read of a text can be played
pub given_playable : (given : Result Schedule TextError) (limit : ℕ) (text : List ℕ) → GivesText given (schedule_of limit text) → IfOk given IsPlayable
given_playable (Ok schedule) limit text gives = schedule_playable limit text schedule gives
given_playable (Err error) limit text gives = tt
