-- What is delivered, and what is drained.
use Rattle.std.proofs.Common.{◌≡◌, ℕ, ◌<◌, ◌-◌, Bool, true, false, ◌&&◌, ◌||◌, List, slice_get, slice_set, Option, Some, None, Err, refl, ap, sym, subst, ◌∙◌}
use Rattle.cs_base.specs.declared.node_id.NodeId.{NodeId}
use Rattle.cs_tx_types.specs.declared.transaction.Tx.{Tx}
use Rattle.cs_order.specs.Deeds.{Member, Machine}
use Rattle.cs_node_rules.specs.Site.{Carriers, Site, Datagram}
use Rattle.cs_node_rules.specs.Lines.{Parcel}
use Rattle.cs_replay_rules.specs.Play.{Played, Course, Goes, then_plays, arrived, with_arrived, occurs, delivers, first_left, drains, drained}
use Rattle.cs_replay_play.specs.Post as Kept
use Rattle.cs_replay_play.specs.declared.play.Replay.{Replay}
use Rattle.cs_replay_play.specs.declared.halt.Halt.{Halt}
use Rattle.cs_base.specs.NodeId.{is_node, is_client, same_name}
use Rattle.cs_node_rules.specs.Net.{Net, net_of}
use Rattle.cs_replay_play.specs.Voicing.{Voicing, SaysTo}
use Rattle.cs_replay_play.specs.Standing.{HasNode, Rests, Setting, site_in, StandsPrinted}
use Rattle.cs_replay_play.specs.Ends.{ReplayEnds}
use Rattle.cs_replay_play.proofs.Courses.{drained-left, drained-grows, ends-then}
use Rattle.cs_replay_play.proofs.Taken.{arrived-stands, size-arrived, unread, read}

and-left : (a b : Bool) → (a && b) ≡ true → a ≡ true
and-left true b is = refl
and-left false b is = is

-- what is said is the datagram of the net
pub said-bytes : (s : Setting) (count : ℕ) (v : Voicing) (from to : NodeId) (kind : ℕ) (body bytes : List ℕ) → Rests s count v → HasNode s.names s.count to → same_name to from ≡ false → SaysTo v from to kind body bytes → bytes ≡ s.net.datagram from to kind body
said-bytes s count v from to kind body bytes rests has other says =
    let honest : (net_of v.config v.master rests.liars).is_honest to ≡ true = subst (λ (net : Net). net.is_honest to ≡ true) rests.speaks ((rests.honest to).1 has) in
    says (ap (λ b. b || is_client to) (and-left (is_node v.config to) _ honest)) other
    ∙ ap (λ (net : Net). net.datagram from to kind body) (sym rests.speaks)

module _ {O J M : Type 0} (stands : O → Member M → Type 0) (approves : J → Tx → Bool) (rules : Machine M) (carrier : Carriers M) (s : Setting) where
  abbrev site : Site M
  site = site_in rules carrier s

  -- the same datagrams
  pub same-post : (r : Replay O J M) (post' : List Parcel) (written : Option (List ℕ)) (p : Played M) → StandsPrinted stands approves rules carrier s r written p → post' ≡ r.post
      → StandsPrinted stands approves rules carrier s (record { cores = r.cores; logs = r.logs; history = r.history; post = post'; voices = r.voices; events = r.events; traced = r.traced }) written p
  same-post r post' written p st is =
      subst (λ (post : List Parcel). StandsPrinted stands approves rules carrier s (record { cores = r.cores; logs = r.logs; history = r.history; post = post; voices = r.voices; events = r.events; traced = r.traced }) written p) (sym is) st

  -- the same voices
  pub same-voices : (r : Replay O J M) (voices' : Voicing) (written : Option (List ℕ)) (p : Played M) → StandsPrinted stands approves rules carrier s r written p → voices' ≡ r.voices
      → StandsPrinted stands approves rules carrier s (record { cores = r.cores; logs = r.logs; history = r.history; post = r.post; voices = voices'; events = r.events; traced = r.traced }) written p
  same-voices r voices' written p st is =
      subst (λ (voices : Voicing). StandsPrinted stands approves rules carrier s (record { cores = r.cores; logs = r.logs; history = r.history; post = r.post; voices = voices; events = r.events; traced = r.traced }) written p) (sym is) st

  -- ---- drained

  -- none is left
  pub none-left : (line left : ℕ) (post : List Parcel) (q : Played M) → 0 < left → post ≡ q.parcels → None ≡ first_left 0 post → drained site s.traced line left q ≡ Goes q
  none-left line left post q some are none =
      drained-left site s.traced line left q some
      ∙ ap (λ found. drains site s.traced line (drained site s.traced line (left - 1)) found q) (ap (first_left 0) (sym are) ∙ sym none)

  -- one is left
  pub one-left : (line left number : ℕ) (post : List Parcel) (q : Played M) → 0 < left → post ≡ q.parcels → Some number ≡ first_left 0 post
      → drained site s.traced line left q ≡ then_plays (delivers site s.traced line number (slice_get q.parcels number) q) (drained site s.traced line (left - 1))
  one-left line left number post q some are one =
      drained-left site s.traced line left q some
      ∙ ap (λ found. drains site s.traced line (drained site s.traced line (left - 1)) found q) (ap (first_left 0) (sym are) ∙ sym one)

  pub ends-drained : (line left number : ℕ) (post : List Parcel) (whole : Course M) (q : Played M) (r : Replay O J M) (written : Option (List ℕ)) (h : Halt) → whole ≡ drained site s.traced line left q → 0 < left → post ≡ q.parcels → Some number ≡ first_left 0 post
      → ReplayEnds stands approves rules carrier s (delivers site s.traced line number (slice_get q.parcels number) q) r written (Err h) → ReplayEnds stands approves rules carrier s whole r written (Err h)
  ends-drained line left number post whole q r written h is some are one ends =
      subst (λ (course : Course M). ReplayEnds stands approves rules carrier s course r written (Err h)) (sym (is ∙ one-left line left number post q some are one))
      (ends-then stands approves rules carrier s (delivers site s.traced line number (slice_get q.parcels number) q) (drained site s.traced line (left - 1)) r written h (drained-grows site s.traced line (left - 1)) ends)

  -- ---- delivered

  module _ (r : Replay O J M) (written : Option (List ℕ)) (p : Played M) (line number : ℕ) (parcel : Parcel) (post' : List Parcel) (st : StandsPrinted stands approves rules carrier s r written p)
      (there : Some parcel ≡ slice_get r.post number) (arrives : post' ≡ Kept.parcels_with_arrived number (slice_get r.post number) r.post) where
    abbrev next : Played M
    next = with_arrived number parcel p

    abbrev left : Replay O J M
    left = record { cores = r.cores; logs = r.logs; history = r.history; post = post'; voices = r.voices; events = r.events; traced = r.traced }

    found : slice_get p.parcels number ≡ Some parcel
    found = ap (λ ps. slice_get ps number) (sym st.holds.parcels) ∙ sym there

    moved : post' ≡ next.parcels
    moved = arrives ∙ ap (λ f. Kept.parcels_with_arrived number f r.post) (sym there) ∙ ap (λ ps. slice_set ps number (arrived parcel)) st.holds.parcels

    pub arrived-standing : StandsPrinted stands approves rules carrier s left written next
    arrived-standing = record {
      holds = arrived-stands stands approves rules carrier s r left p number parcel st.holds (size-arrived p.parcels number parcel found) refl refl refl refl refl refl moved;
      printed = st.printed;
    }

    pub not-given : s.net.is_honest parcel.to ≡ false → delivers site s.traced line number (slice_get p.parcels number) p ≡ Goes next
    not-given other = ap (λ f. delivers site s.traced line number f p) found ∙ unread site s.traced line number parcel next other

    pub given : (to : NodeId) (bytes : List ℕ) → to ≡ parcel.to → bytes ≡ parcel.bytes → s.net.is_honest to ≡ true → delivers site s.traced line number (slice_get p.parcels number) p ≡ occurs site s.traced line to (Datagram bytes) next
    given to bytes named are honest =
        ap (λ f. delivers site s.traced line number f p) found
        ∙ read site s.traced line number parcel next (subst (λ (n : NodeId). s.net.is_honest n ≡ true) named honest)
        ∙ ap (λ n. occurs site s.traced line n (Datagram parcel.bytes) next) (sym named)
        ∙ ap (λ bs. occurs site s.traced line to (Datagram bs) next) (sym are)
