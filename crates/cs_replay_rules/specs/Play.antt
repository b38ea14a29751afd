-- A schedule played: the world that its events make, what was sent in it, and the text that is printed.
use Rattle.std.specs.Prelude.{ℕ, zero, suc, ◌+◌, nat_le, nat_lt, Bool, true, List, [], ◌∷◌, ◌++◌, length, Option, Some, None, slice_get, slice_set, if◌then◌else◌}
use Rattle.cs_base.specs.declared.limits.TheConstants.{MOST_EVENTS, MOST_SENT}
use Rattle.cs_base.specs.declared.node_id.NodeId.{NodeId}
use Rattle.cs_ledger.specs.Ledger.{Bytes}
use Rattle.cs_sched.specs.declared.schedule.Event.{Event}
use Rattle.cs_sched.specs.declared.schedule.Event.TheVariants.{Say, Inject, Deliver, Tick, Drain}
use Rattle.cs_node_rules.specs.Signs.{Sign}
use Rattle.cs_node_rules.specs.Site as Given
use Rattle.cs_node_rules.specs.Site.{Input, Datagram, Mark, Site, signs_of}
use Rattle.cs_node_rules.specs.World.{Happening, happens, is_genuine, recorded_history}
use Rattle.cs_node_rules.specs.Lines.{Parcel, parcels_of}
use Rattle.cs_replay_rules.specs.Lines.{event_lines, limit_line, forged_line, history_text}

-- what was played so far
pub record Played (M : Type 0) : Type 0 where
  pub world : List (Happening M)
  pub parcels : List Parcel  -- what was sent: the place of a datagram is its number
  pub text : Bytes  -- the lines of the events

abbrev pub unplayed : {M : Type 0} → Played M
unplayed {M} = record { world = []; parcels = []; text = [] }

-- it goes on; or an event by the line of this number would have passed a limit, or what that line injects is forged
pub data Course (M : Type 0) : Type 0 where
  Goes : (played : Played M) → Course M
  Stops : (played : Played M) → (line : ℕ) → Course M
  Forges : (played : Played M) → (line : ℕ) → Course M

abbrev pub then_plays : {M : Type 0} → Course M → (Played M → Course M) → Course M
then_plays {M} (Goes p) next = next p
then_plays {M} (Stops p line) next = Stops p line
then_plays {M} (Forges p line) next = Forges p line

-- what was played, and not the event that was refused
abbrev pub played_by : {M : Type 0} → Course M → Played M
played_by {M} (Goes p) = p
played_by {M} (Stops p line) = p
played_by {M} (Forges p line) = p

-- ---- an event

-- the bytes of all datagrams
abbrev pub size_of : List Parcel → ℕ
size_of [] = 0
size_of (parcel ∷ parcels) = length parcel.bytes + size_of parcels

abbrev pub most_events : ℕ
most_events = MOST_EVENTS

abbrev pub most_sent : ℕ
most_sent = MOST_SENT

abbrev pub signs_of_last : {M : Type 0} → List (Happening M) → List Sign
signs_of_last {M} [] = []
signs_of_last {M} (h ∷ past) = signs_of h.marks

-- a node has done something: what it sent, and the lines
abbrev pub played_at_node : {M : Type 0} → Site M → Bool → ℕ → NodeId → List Sign → List (Happening M) → Played M → Played M
played_at_node {M} site traced line i signs world p =
    let sent = parcels_of site.net i signs in
    record {
      world = world;
      parcels = p.parcels ++ sent;
      text = p.text ++ event_lines site.setup traced (length p.world) line i signs (length p.parcels) sent;
    }

-- an input at a node
abbrev pub plays : {M : Type 0} → Site M → Bool → ℕ → NodeId → Input → Played M → Played M
plays {M} site traced line i input p =
    let world = happens site i input p.world in played_at_node site traced line i (signs_of_last world) world p

abbrev pub within : {M : Type 0} → ℕ → Played M → Played M → Course M
within {M} line p next = if nat_le (size_of next.parcels) most_sent then Goes next else Stops p line

-- so, unless it would be an event too many, or too much would have been sent
abbrev pub occurs : {M : Type 0} → Site M → Bool → ℕ → NodeId → Input → Played M → Course M
occurs {M} site traced line i input p =
    if nat_lt (length p.world) most_events then within line p (plays site traced line i input p) else Stops p line

-- bytes are given to a node, unless they are forged; the limit of events comes first
abbrev pub injects : {M : Type 0} → Site M → Bool → ℕ → NodeId → Bytes → Played M → Course M
injects {M} site traced line to bytes p =
    if nat_lt (length p.world) most_events
    then (if is_genuine site.net to bytes p.parcels
    then within line p (plays site traced line to (Datagram bytes) p)
    else Forges p line)
    else Stops p line

-- ---- deliveries

abbrev pub arrived : Parcel → Parcel
arrived parcel = record { from = parcel.from; to = parcel.to; bytes = parcel.bytes; arrived = true }

abbrev pub with_arrived : {M : Type 0} → ℕ → Parcel → Played M → Played M
with_arrived {M} number parcel p =
    record { world = p.world; parcels = slice_set p.parcels number (arrived parcel); text = p.text }

-- what comes to a liar or a client is no event
abbrev pub comes : {M : Type 0} → Site M → Bool → ℕ → Parcel → Played M → Course M
comes {M} site traced line parcel p =
    if site.net.is_honest parcel.to then occurs site traced line parcel.to (Datagram parcel.bytes) p else Goes p

-- a number that was not sent yet has no effect
abbrev pub delivers : {M : Type 0} → Site M → Bool → ℕ → ℕ → Option Parcel → Played M → Course M
delivers {M} site traced line number None p = Goes p
delivers {M} site traced line number (Some parcel) p = comes site traced line parcel (with_arrived number parcel p)

-- the number of the first datagram, from this one on, that never came to its addressee
abbrev pub first_left : ℕ → List Parcel → Option ℕ
first_left number [] = None
first_left number (parcel ∷ parcels) = if parcel.arrived then first_left (suc number) parcels else Some number

abbrev pub drains : {M : Type 0} → Site M → Bool → ℕ → (Played M → Course M) → Option ℕ → Played M → Course M
drains {M} site traced line later None p = Goes p
drains {M} site traced line later (Some number) p =
    then_plays (delivers site traced line number (slice_get p.parcels number) p) later

-- so many times the first one that is left
unfoldable pub drained : {M : Type 0} → Site M → Bool → ℕ → ℕ → Played M → Course M
drained {M} site traced line zero p = Goes p
drained {M} site traced line (suc times) p =
    drains site traced line (drained site traced line times) (first_left 0 p.parcels) p

-- ---- schedules

-- an event, by the line of this number
abbrev pub play : {M : Type 0} → Site M → Bool → ℕ → Event → Played M → Course M
play {M} site traced line (Say from to kind body) p =
    occurs site traced line to (Datagram (site.net.datagram from to kind body)) p
play {M} site traced line (Inject to bytes) p = injects site traced line to bytes p
play {M} site traced line (Deliver number) p = delivers site traced line number (slice_get p.parcels number) p
play {M} site traced line (Tick node) p = occurs site traced line node Given.Tick p
play {M} site traced line (Drain times) p = drained site traced line times p

-- the events, each with the number of its line
abbrev pub play_all : {M : Type 0} → Site M → Bool → List (ℕ × Event) → Played M → Course M
play_all {M} site traced [] p = Goes p
play_all {M} site traced (e ∷ events) p = then_plays (play site traced e.0 e.1 p) (play_all site traced events)

-- the history, or the line of the event that was refused
abbrev pub closing_text : {M : Type 0} → Site M → Course M → Bytes
closing_text {M} site (Goes p) = p.text ++ history_text (recorded_history site p.world)
closing_text {M} site (Stops p line) = p.text ++ limit_line line
closing_text {M} site (Forges p line) = p.text ++ forged_line line

-- the whole text that a schedule's events give
unfoldable pub lines : {M : Type 0} → Site M → Bool → List (ℕ × Event) → Bytes
lines {M} site traced events = closing_text site (play_all site traced events unplayed)
