-- Where nothing is injected nothing is forged.
use Rattle.std.proofs.Common.{◌≡◌, ℕ, zero, suc, Bool, true, false, cond, nat_lt, nat_le, List, [], ◌∷◌, length, Option, Some, None, subst}
use Rattle.std.specs.List.{AllByRecursion, slice_get}
use Rattle.cs_base.specs.declared.node_id.NodeId.{NodeId}
use Rattle.cs_sched.specs.declared.schedule.Event.{Event}
use Rattle.cs_sched.specs.declared.schedule.Event.TheVariants.{Say, Inject, Deliver, Tick, Drain}
use Rattle.cs_node_rules.specs.Lines.{Parcel}
use Rattle.cs_node_rules.specs.Site as given
use Rattle.cs_node_rules.specs.Site.{Input, Datagram, Site}
use Rattle.cs_replay_rules.specs.Play.{Played, Course, Goes, Stops, Forges, then_plays, within, occurs, comes, delivers, with_arrived, first_left, drains, drained, play, play_all, plays, most_events, most_sent, size_of}
use Rattle.cs_cli.specs.Unforged.{IsNoInjection}

-- it goes on, or stops at a limit
abbrev pub IsUnforged : {M : Type 0} → Course M → Type 0
IsUnforged {M} (Goes p) = Unit {0}
IsUnforged {M} (Stops p line) = Unit {0}
IsUnforged {M} (Forges p line) = ⊥

then-unforged : {M : Type 0} (course : Course M) (next : Played M → Course M) → IsUnforged course → ((p : Played M) → IsUnforged (next p)) → IsUnforged (then_plays course next)
then-unforged {M} (Goes p) next first later = later p
then-unforged {M} (Stops p line) next first later = tt
then-unforged {M} (Forges p line) next first later = absurd first

either : {M : Type 0} (test : Bool) (a b : Course M) → IsUnforged a → IsUnforged b → IsUnforged (cond test a b)
either {M} true a b of_a of_b = of_a
either {M} false a b of_a of_b = of_b

module _ {M : Type 0} (site : Site M) (traced : Bool) (line : ℕ) where
  occurs-unforged : (i : NodeId) (input : Input) (p : Played M) → IsUnforged (occurs site traced line i input p)
  occurs-unforged i input p =
      let next = plays site traced line i input p in
      either (nat_lt (length p.world) most_events) (within line p next) (Stops p line)
      (either (nat_le (size_of next.parcels) most_sent) (Goes next) (Stops p line) tt tt) tt

  comes-unforged : (parcel : Parcel) (p : Played M) → IsUnforged (comes site traced line parcel p)
  comes-unforged parcel p =
      either (site.net.is_honest parcel.to) (occurs site traced line parcel.to (Datagram parcel.bytes) p) (Goes p)
      (occurs-unforged parcel.to (Datagram parcel.bytes) p) tt

  delivers-unforged : (number : ℕ) (parcel : Option Parcel) (p : Played M) → IsUnforged (delivers site traced line number parcel p)
  delivers-unforged number None p = tt
  delivers-unforged number (Some parcel) p = comes-unforged parcel (with_arrived number parcel p)

  drains-unforged : (later : Played M → Course M) (number : Option ℕ) (p : Played M) → ((q : Played M) → IsUnforged (later q)) → IsUnforged (drains site traced line later number p)
  drains-unforged later None p more = tt
  drains-unforged later (Some number) p more =
      then-unforged (delivers site traced line number (slice_get p.parcels number) p) later (delivers-unforged number (slice_get p.parcels number) p) more

  drained-unforged : (times : ℕ) (p : Played M) → IsUnforged (drained site traced line times p)
  unfolding drained
  drained-unforged zero p = tt
  drained-unforged (suc times) p = drains-unforged (drained site traced line times) (first_left 0 p.parcels) p (drained-unforged times)

  play-unforged : (event : Event) (p : Played M) → IsNoInjection event → IsUnforged (play site traced line event p)
  play-unforged (Say from to kind body) p plain = occurs-unforged to (Datagram (site.net.datagram from to kind body)) p
  play-unforged (Inject to bytes) p plain = absurd plain
  play-unforged (Deliver number) p plain = delivers-unforged number (slice_get p.parcels number) p
  play-unforged (Tick node) p plain = occurs-unforged node given.Tick p
  play-unforged (Drain times) p plain = drained-unforged times p

pub all-unforged : {M : Type 0} (site : Site M) (traced : Bool) (events : List (ℕ × Event)) (p : Played M) → AllByRecursion (λ numbered. IsNoInjection numbered.1) events → IsUnforged (play_all site traced events p)
all-unforged {M} site traced [] p plain = tt
all-unforged {M} site traced (e ∷ events) p plain =
    then-unforged (play site traced e.0 e.1 p) (play_all site traced events) (play-unforged site traced e.0 e.1 p plain.0) (λ q. all-unforged site traced events q plain.1)

pub not-forged : {M : Type 0} (course : Course M) (p : Played M) (line : ℕ) → IsUnforged course → course ≡ Forges p line → ⊥
not-forged {M} course p line unforged is = subst IsUnforged is unforged
