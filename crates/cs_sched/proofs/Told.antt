-- What is known of events whose lines are taken.
use Rattle.std.specs.Prelude.{◌≡◌, ℕ, Bool, true, false, ◌||◌, List, [], ◌∷◌, Ok, Err, codes, if◌then◌else◌}
use Rattle.std.specs.Option.{ok_or}
use Rattle.std.specs.Str.{bytes_eq}
use Rattle.std.proofs.Common.{◌∙◌, sym, subst, refl, inl, inr}
use Rattle.std.proofs.lemmas.Bool.{true≢false}
use Rattle.cs_base.specs.declared.limits.TheConstants.{MOST_BODY, MOST_DATAGRAM}
use Rattle.cs_base.specs.NodeId.{node_of, is_node, is_named, is_client}
use Rattle.cs_base.specs.declared.config.Config.{Config}
use Rattle.cs_base.specs.declared.node_id.NodeId.{NodeId}
use Rattle.cs_sched.specs.declared.schedule.Schedule.{Schedule}
use Rattle.cs_sched.specs.declared.schedule.Event.{Event}
use Rattle.cs_sched.specs.declared.schedule.Event.TheVariants.{Say, Inject, Deliver, Tick, Drain}
use Rattle.cs_text.specs.declared.cause.Cause.TheVariants as cause
use Rattle.cs_text.specs.Values.{◌>>=◌, number_within, bytes_within, number_said}
use Rattle.cs_text.proofs.Steps.{step_ok, change_ok, ok_same, when_ok, unless_ok, either_ok}
use Rattle.cs_text.proofs.Taken.{number_said-ok, number_within-ok, bytes_within-ok}
use Rattle.cs_sched.specs.Naming.{name_of_field, is_liar, speaker_in, honest_in}
use Rattle.cs_sched.specs.Events.{say_of, inject_of, say_said, inject_said, deliver_said, tick_said, drain_said, event_said}
use Rattle.cs_sched.specs.Playable.{IsHonest, IsSpeaker, IsPlayableEvent}

-- names

pub left_of : (one other : Bool) → (one || other) ≡ true → other ≡ false → one ≡ true
left_of true other either not_other = refl
left_of false other either not_other = absurd (true≢false (sym either ∙ not_other))

neither : (one other : Bool) → (one || other) ≡ false → (one ≡ false) × (other ≡ false)
neither true other none = absurd (true≢false none)
neither false other none = (refl, none)

pub named_ok : (config : Config) (field : List ℕ) (name : NodeId) → name_of_field config field ≡ Ok name → is_named config name ≡ true
named_ok config field name is =
    let (text, of_field, tested) = step_ok (ok_or (node_of field) cause.Node) (λ text. if is_named config text then Ok text else Err cause.Node) name is in
    let (has, same) = when_ok (is_named config text) (Ok text) cause.Node name tested in
    subst (λ found. is_named config found ≡ true) (ok_same text name same) has

speaker_ok : (config : Config) (liars : List NodeId) (field : List ℕ) (name : NodeId) → speaker_in config liars field ≡ Ok name → IsSpeaker config liars name
speaker_ok config liars field name is =
    let (found, read, after) = step_ok (name_of_field config field) (λ found. if is_client found || is_liar liars found then Ok found else Err cause.Role) name is in
    let (speaks, done) = when_ok (is_client found || is_liar liars found) (Ok found) cause.Role name after in
    subst (IsSpeaker config liars) (ok_same found name done) (record { named = named_ok config field found read; speaks = speaks })

honest_ok : (config : Config) (liars : List NodeId) (field : List ℕ) (name : NodeId) → honest_in config liars field ≡ Ok name → IsHonest config liars name
honest_ok config liars field name is =
    let (found, read, after) = step_ok (name_of_field config field) (λ found. if is_client found || is_liar liars found then Err cause.Role else Ok found) name is in
    let (listens, done) = unless_ok (is_client found || is_liar liars found) (Ok found) cause.Role name after in
    let (no_client, honest) = neither (is_client found) (is_liar liars found) listens in
    subst (IsHonest config liars) (ok_same found name done) (record {
      node = left_of (is_node config found) (is_client found) (named_ok config field found read) no_client;
      honest = honest;
    })

-- events

module _ (schedule : Schedule) where
  -- what can stand behind these lines of a schedule
  abbrev Fits : Event → Type 0
  Fits said = IsPlayableEvent schedule.config schedule.liars said

  say_of-ok : (from to kind body : List ℕ) (said : Event) → say_of schedule from to kind body ≡ Ok said → Fits said
  say_of-ok from to kind body said is =
      let heard = λ (speaker listener : NodeId) (number : ℕ). bytes_within MOST_BODY body >>= (λ bytes. Ok (Say speaker listener number bytes)) in
      let (speaker, spoken, first) = step_ok (speaker_in schedule.config schedule.liars from) (λ speaker. honest_in schedule.config schedule.liars to >>= (λ listener. number_within 255 kind >>= (λ number. heard speaker listener number))) said is in
      let (listener, listened, second) = step_ok (honest_in schedule.config schedule.liars to) (λ listener. number_within 255 kind >>= (λ number. heard speaker listener number)) said first in
      let (number, kinded, third) = step_ok (number_within 255 kind) (λ number. heard speaker listener number) said second in
      let (bytes, within, same) = change_ok (bytes_within MOST_BODY body) (λ bytes. Say speaker listener number bytes) said third in
      subst Fits {x = Say speaker listener number bytes} same (record {
        speaker = speaker_ok schedule.config schedule.liars from speaker spoken;
        listener = honest_ok schedule.config schedule.liars to listener listened;
        kind = number_within-ok 255 kind number kinded;
        short = (bytes_within-ok MOST_BODY body bytes within).0;
        in_bytes = (bytes_within-ok MOST_BODY body bytes within).1;
      })

  say_said-ok : (fields : List (List ℕ)) (said : Event) → say_said schedule fields ≡ Ok said → Fits said
  say_said-ok [] said is = absurd cc
  say_said-ok (a ∷ []) said is = absurd cc
  say_said-ok (a ∷ b ∷ []) said is = absurd cc
  say_said-ok (a ∷ b ∷ c ∷ []) said is = absurd cc
  say_said-ok (a ∷ b ∷ c ∷ d ∷ []) said is = say_of-ok a b c d said is
  say_said-ok (a ∷ b ∷ c ∷ d ∷ e ∷ more) said is = absurd cc

  inject_of-ok : (to given : List ℕ) (said : Event) → inject_of schedule to given ≡ Ok said → Fits said
  inject_of-ok to given said is =
      let (node, listened, first) = step_ok (honest_in schedule.config schedule.liars to) (λ node. bytes_within MOST_DATAGRAM given >>= (λ bytes. Ok (Inject node bytes))) said is in
      let (bytes, within, same) = change_ok (bytes_within MOST_DATAGRAM given) (λ bytes. Inject node bytes) said first in
      subst Fits {x = Inject node bytes} same (record {
        node = honest_ok schedule.config schedule.liars to node listened;
        short = (bytes_within-ok MOST_DATAGRAM given bytes within).0;
        in_bytes = (bytes_within-ok MOST_DATAGRAM given bytes within).1;
      })

  inject_said-ok : (fields : List (List ℕ)) (said : Event) → inject_said schedule fields ≡ Ok said → Fits said
  inject_said-ok [] said is = absurd cc
  inject_said-ok (a ∷ []) said is = absurd cc
  inject_said-ok (a ∷ b ∷ []) said is = inject_of-ok a b said is
  inject_said-ok (a ∷ b ∷ c ∷ more) said is = absurd cc

  deliver_said-ok : (fields : List (List ℕ)) (said : Event) → deliver_said fields ≡ Ok said → Fits said
  deliver_said-ok fields said is =
      let (number, read, same) = change_ok (number_said fields) Deliver said is in
      subst Fits {x = Deliver number} same (number_said-ok fields number read)

  tick_said-ok : (fields : List (List ℕ)) (said : Event) → tick_said schedule fields ≡ Ok said → Fits said
  tick_said-ok [] said is = absurd cc
  tick_said-ok (field ∷ []) said is =
      let (node, listened, same) = change_ok (honest_in schedule.config schedule.liars field) Tick said is in
      subst Fits {x = Tick node} same (honest_ok schedule.config schedule.liars field node listened)
  tick_said-ok (field ∷ another ∷ more) said is = absurd cc

  drain_said-ok : (fields : List (List ℕ)) (said : Event) → drain_said fields ≡ Ok said → Fits said
  drain_said-ok fields said is =
      let (times, read, same) = change_ok (number_said fields) Drain said is in
      subst Fits {x = Drain times} same (number_said-ok fields times read)

  pub event_said-ok : (word : List ℕ) (fields : List (List ℕ)) (said : Event) → event_said schedule word fields ≡ Ok said → Fits said
  event_said-ok word fields said is =
      let drains = if bytes_eq word (codes "drain") then drain_said fields else Err cause.Word in
      let ticks = if bytes_eq word (codes "tick") then tick_said schedule fields else drains in
      let delivers = if bytes_eq word (codes "deliver") then deliver_said fields else ticks in
      let injects = if bytes_eq word (codes "inject") then inject_said schedule fields else delivers in
      elim (either_ok (bytes_eq word (codes "say")) (say_said schedule fields) injects said is) [
        | inl say ↦ say_said-ok fields said say
        | inr other ↦ elim (either_ok (bytes_eq word (codes "inject")) (inject_said schedule fields) delivers said other) [
          | inl inject ↦ inject_said-ok fields said inject
          | inr other ↦ elim (either_ok (bytes_eq word (codes "deliver")) (deliver_said fields) ticks said other) [
            | inl deliver ↦ deliver_said-ok fields said deliver
            | inr other ↦ elim (either_ok (bytes_eq word (codes "tick")) (tick_said schedule fields) drains said other) [
              | inl tick ↦ tick_said-ok fields said tick
              | inr other ↦ drain_said-ok fields said (when_ok (bytes_eq word (codes "drain")) (drain_said fields) cause.Word said other).1
            ]
          ]
        ]
      ]
