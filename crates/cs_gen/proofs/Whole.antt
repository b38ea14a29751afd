-- The parts of a schedule, put together.
use Rattle.std.proofs.Common.{◌≡◌, ℕ, ◌+◌, List, [], length, map, ap, sym, ◌∙◌}
use Rattle.std.specs.List.{enumerate_from}
use Rattle.cs_base.specs.declared.config.Config.{Config}
use Rattle.cs_base.specs.declared.node_id.NodeId.{NodeId}
use Rattle.cs_tx_value.specs.declared.object.Object.{Object}
use Rattle.cs_sched.specs.declared.schedule.Event.{Event}
use Rattle.cs_sched.specs.declared.schedule.Schedule.{Schedule}
use Rattle.cs_gen.specs.Draws.{state_after}
use Rattle.cs_gen.specs.Coins.{coin, worths_below}
use Rattle.cs_gen.specs.Rounds.{layout, events_below}
use Rattle.cs_gen.specs.Schedules.{drawn_master, drawn_schedule}
use Rattle.cs_gen.proofs.Worths.{length-worths}

abbrev parts : Config → List ℕ → List NodeId → List (List ℕ) → List Object → List (ℕ × Event) → Schedule
parts config master liars contracts genesis events = record { config = config; master = master; liars = liars; contracts = contracts; genesis = genesis; events = events }

-- what was made of each draw, behind the ones before it
pub record Made (number size : ℕ) (config : Config) (master : List ℕ) (liars : List NodeId) (contracts : List (List ℕ)) (genesis : List Object) (events : List (ℕ × Event)) : Type 0 where
  pub start : ℕ
  pub first : ℕ
  pub last : ℕ
  pub line : ℕ
  pub worths : List ℕ
  pub plain : List Event
  pub begins : start ≡ number
  pub of_config : config ≡ layout
  pub of_master : master ≡ drawn_master start
  pub of_first : first ≡ state_after start 4
  pub of_worths : worths ≡ worths_below first size
  pub of_last : last ≡ state_after first size
  pub of_liars : liars ≡ []
  pub of_contracts : contracts ≡ []
  pub of_genesis : genesis ≡ map coin worths
  pub of_plain : plain ≡ events_below last worths (length worths)
  pub of_line : line ≡ 6 + size
  pub of_events : events ≡ enumerate_from line plain

pub whole : (number size : ℕ) (config : Config) (master : List ℕ) (liars : List NodeId) (contracts : List (List ℕ)) (genesis : List Object) (events : List (ℕ × Event))
    → Made number size config master liars contracts genesis events → parts config master liars contracts genesis events ≡ drawn_schedule number size
unfolding drawn_schedule
whole number size config master liars contracts genesis events m =
    let first = state_after number 4 in
    let worths = worths_below first size in
    let last = state_after first size in
    let first_is : m.first ≡ first = m.of_first ∙ ap (λ (s : ℕ). state_after s 4) m.begins in
    let worths_are : m.worths ≡ worths = m.of_worths ∙ ap (λ (s : ℕ). worths_below s size) first_is in
    let last_is : m.last ≡ last = m.of_last ∙ ap (λ (s : ℕ). state_after s size) first_is in
    let master_is : master ≡ drawn_master number = m.of_master ∙ ap drawn_master m.begins in
    let genesis_is : genesis ≡ map coin worths = m.of_genesis ∙ ap (map coin) worths_are in
    let plain_is : m.plain ≡ events_below last worths (length worths) =
    m.of_plain ∙ ap (λ (s : ℕ). events_below s m.worths (length m.worths)) last_is ∙ ap (λ (ws : List ℕ). events_below last ws (length ws)) worths_are in
    let line_is : m.line ≡ 6 + length worths = m.of_line ∙ ap (λ (n : ℕ). 6 + n) (sym (length-worths first size)) in
    let events_are : events ≡ enumerate_from (6 + length worths) (events_below last worths (length worths)) =
    m.of_events ∙ ap (λ (n : ℕ). enumerate_from n m.plain) line_is ∙ ap (enumerate_from (6 + length worths)) plain_is in
    λ i. parts (m.of_config i) (master_is i) (m.of_liars i) (m.of_contracts i) (genesis_is i) (events_are i)
