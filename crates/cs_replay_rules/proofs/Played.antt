-- What a schedule plays is a world of nodes that keep the rules, in which nothing is forged.
use Rattle.std.proofs.Common.{◌≡◌, inl, inr, ℕ, zero, suc, ◌*◌, ◌≤◌, ◌<◌, ◌^◌, nat_le, nat_lt, Bool, true, false, not, ◌&&◌, ◌||◌, List, [], ◌∷◌, ◌++◌, map, length, Option, Some, None, All, refl, sym, ap, ◌∙◌, subst, arith}
use Rattle.std.specs.Prelude.{if◌then◌else◌, ◌==◌, Ok, Err, slice_get, slice_set, bytes_eq}
use Rattle.std.proofs.lemmas.Bool.{cond_both, cases_Bool, and_parts, and_from, or_left, or_right, or_cases, eqb-true, eq-eqb}
use Rattle.std.proofs.lemmas.List.Elements.{All-tail}
use Rattle.cs_base.specs.Lists.{IsIn}
use Rattle.cs_base.specs.Fields.{IsBytes}
use Rattle.cs_base.specs.declared.config.Config.{Config}
use Rattle.cs_base.specs.declared.node_id.NodeId.{NodeId}
use Rattle.cs_base.specs.declared.node_id.TheConstants.{CLIENT_SHARD, CLIENTS}
use Rattle.cs_base.specs.NodeId.{is_client, is_node, is_named, same_name}
use Rattle.cs_tx_value.specs.declared.object.Object.{Object}
use Rattle.cs_tx_types.specs.declared.session.Session.{Session}
use Rattle.cs_wire_message.specs.declared.message.Message.{Message}
use Rattle.cs_wire_message.specs.laws.Kinds.{kind_small}
use Rattle.cs_base.specs.Version.{version_of}
use Rattle.cs_wire_message.specs.Message.{kind_of, body_of}
use Rattle.cs_order.specs.Deeds.{Machine}
use Rattle.cs_order.specs.Law.{Holds}
use Rattle.cs_sched.specs.declared.schedule.Event.{Event}
use Rattle.cs_sched.specs.declared.schedule.Event.TheVariants as event
use Rattle.cs_wire.specs.Keys.{key_between}
use Rattle.cs_wire.specs.Opens.{IsName}
use Rattle.cs_wire.specs.Opened.{Opened, keys_of_master}
use Rattle.cs_ledger.specs.Ledger.{Bytes}
use Rattle.cs_ledger.specs.Session as Seen
use Rattle.cs_ledger.proofs.Basics.{in_either, bytes_refl}
use Rattle.cs_node_rules.specs.Signs.{Dropped, Took, Entered, Viewed, Did, Headed, Kept, Sent}
use Rattle.cs_node_rules.specs.Site.{Input, Datagram, Tick, Mark, In, Ordered, Plain, Carriers, Site, signs_of}
use Rattle.cs_node_rules.specs.Trail.{event_marks}
use Rattle.cs_node_rules.specs.World.{Happening, trail_of, view_of, happens, IsLife, sent_in, was_sent, is_backed, is_genuine, is_genuine_input}
use Rattle.cs_node_rules.specs.Lines.{Parcel, parcels_of}
use Rattle.cs_node_rules.specs.Net.{Net, net_of, sealed_by_net}
use Rattle.cs_replay_rules.specs.Play.{Played, unplayed, Course, Goes, Stops, Forges, then_plays, played_by, size_of, most_events, most_sent, plays, within, occurs, injects, arrived, with_arrived, delivers, first_left, drains, drained, play, play_all}
use Rattle.cs_node_rules.specs.Carrying.{AllCarry}
use Rattle.cs_node_law.specs.Made.{view_at, AllMade, IsLevel}
use Rattle.cs_node_law.specs.Given.{InputIsBytes, AreBytes}
use Rattle.cs_replay_rules.specs.PlayedWorlds.{IsSayable, IsGivable, IsPlayed, PlaysWorlds}
use Rattle.cs_node_law.proofs.Inputs.{event-level}
use Rattle.cs_node_law.proofs.NoIns.{inputs_in, event-inputs}
use Rattle.cs_node_law.proofs.Sealing.{bytes-datagram}
use Rattle.cs_node_law.proofs.Speaking.{opens-from}
use Rattle.cs_node_law.proofs.Fitting.{AllBytes, deployment, input-fits, reads-proper, sent-fits, spoken-bytes}
use Rattle.cs_node_law.proofs.Names.{name-same}

-- ---- parcels, but for whether they arrived

abbrev letter : Parcel → Parcel
letter p = record { from = p.from; to = p.to; bytes = p.bytes; arrived = false }

abbrev letters : List Parcel → List Parcel
letters parcels = map letter parcels

letters-append : (a b : List Parcel) → letters (a ++ b) ≡ letters a ++ letters b
letters-append [] b = refl
letters-append (p ∷ a) b = ap (λ (l : List Parcel). letter p ∷ l) (letters-append a b)

letters-set : (parcels : List Parcel) (number : ℕ) (parcel : Parcel) → slice_get parcels number ≡ Some parcel → letters (slice_set parcels number (arrived parcel)) ≡ letters parcels
letters-set [] number parcel e = refl
letters-set (first ∷ parcels) zero parcel e = let is : first ≡ parcel = cc in ap (λ (p : Parcel). letter p ∷ letters parcels) (sym is)
letters-set (first ∷ parcels) (suc number) parcel e = ap (λ (l : List Parcel). letter first ∷ l) (letters-set parcels number parcel e)

was-sent : (from to : NodeId) (bytes : Bytes) (parcels : List Parcel) → was_sent from to bytes (letters parcels) ≡ was_sent from to bytes parcels
was-sent from to bytes [] = refl
was-sent from to bytes (p ∷ parcels) = ap (λ b. (same_name p.from from && (same_name p.to to && bytes_eq p.bytes bytes)) || b) (was-sent from to bytes parcels)

-- what was sent, by the letters alone
same-sent : (from to : NodeId) (bytes : Bytes) (a b : List Parcel) → letters a ≡ letters b → was_sent from to bytes a ≡ was_sent from to bytes b
same-sent from to bytes a b same = sym (was-sent from to bytes a) ∙ ap (was_sent from to bytes) same ∙ was-sent from to bytes b

backed-same : (net : Net) (to : NodeId) (bytes : Bytes) (a b : List Parcel) (o : Opened) → letters a ≡ letters b → is_backed net to bytes a o ≡ is_backed net to bytes b o
backed-same net to bytes a b (Ok said) same = ap (λ t. not (net.is_honest said.0) || t) (same-sent said.0 to bytes a b same)
backed-same net to bytes a b (Err error) same = refl

name-refl : (a : NodeId) → same_name a a ≡ true
name-refl a = and_from _ _ (eq-eqb a.shard a.shard refl) (eq-eqb a.index a.index refl)

sent-there : (parcels : List Parcel) (number : ℕ) (p : Parcel) → slice_get parcels number ≡ Some p → was_sent p.from p.to p.bytes parcels ≡ true
sent-there [] number p e = cc
sent-there (first ∷ parcels) zero p e =
    let is : first ≡ p = cc in
    or_left _ _ (subst (λ (f : Parcel). (same_name f.from p.from && (same_name f.to p.to && bytes_eq f.bytes p.bytes)) ≡ true) (sym is) (and_from _ _ (name-refl p.from) (and_from _ _ (name-refl p.to) (bytes_refl p.bytes))))
sent-there (first ∷ parcels) (suc number) p e = or_right _ _ (sent-there parcels number p e)

parcel-in : (parcels : List Parcel) (number : ℕ) (parcel : Parcel) → slice_get parcels number ≡ Some parcel → IsIn parcel parcels
parcel-in [] number parcel e = cc
parcel-in (first ∷ parcels) zero parcel e = let is : first ≡ parcel = cc in inl (sym is)
parcel-in (first ∷ parcels) (suc number) parcel e = inr (parcel-in parcels number parcel e)

-- ---- parcels of honest nodes

-- to an honest node it is made of bytes, and opens, if at all, as from its sender
pub record IsFair (net : Net) (p : Parcel) : Type 0 where
  pub bytes : net.is_honest p.to ≡ true → IsBytes p.bytes
  pub from : net.is_honest p.to ≡ true → (me : NodeId) (said : NodeId × Message) → net.opened me p.bytes ≡ Ok said → said.0 ≡ p.from

abbrev pub AreFair : Net → List Parcel → Type 0
AreFair net parcels = (p : Parcel) → IsIn p parcels → IsFair net p

fair-append : (net : Net) (a b : List Parcel) → AreFair net a → AreFair net b → AreFair net (a ++ b)
fair-append net a b of_a of_b p i = elim (in_either p a b i) [ inl here ↦ of_a p here | inr there ↦ of_b p there ]

fair-set : (net : Net) (parcels : List Parcel) (number : ℕ) (new : Parcel) → AreFair net parcels → IsFair net new → AreFair net (slice_set parcels number new)
fair-set net [] number new old fair p i = absurd i
fair-set net (first ∷ parcels) zero new old fair p (inl is) = subst (IsFair net) (sym is) fair
fair-set net (first ∷ parcels) zero new old fair p (inr i) = old p (inr i)
fair-set net (first ∷ parcels) (suc number) new old fair p (inl is) = old p (inl is)
fair-set net (first ∷ parcels) (suc number) new old fair p (inr i) = fair-set net parcels number new (λ q j. old q (inr j)) fair p i

-- ---- names of a deployment

node-named : (shard index shards f : ℕ) → shards ≤ 16 → f ≤ 5 → (nat_lt shard shards && nat_le index (3 * f)) ≡ true → (shard < 2 ^ 16) × (index < 2 ^ 16)
node-named shard index shards f a b h = let parts = and_parts (nat_lt shard shards) (nat_le index (3 * f)) h in (low shard shards parts.0 a, high index f parts.1 b)
  where
    low : (x n : ℕ) → nat_lt x n ≡ true → n ≤ 16 → x < 2 ^ 16
    low x n h a = grind (arith, h, a)

    high : (x n : ℕ) → nat_le x (3 * n) ≡ true → n ≤ 5 → x < 2 ^ 16
    high x n h b = grind (arith, h, b)

client-named : (shard index : ℕ) → (shard == CLIENT_SHARD && nat_lt index CLIENTS) ≡ true → (shard < 2 ^ 16) × (index < 2 ^ 16)
client-named shard index h = let parts = and_parts (shard == CLIENT_SHARD) (nat_lt index CLIENTS) h in (far shard (eqb-true _ _ parts.0), low index parts.1)
  where
    far : (x : ℕ) → x ≡ CLIENT_SHARD → x < 2 ^ 16
    far x e = omega (arith, e)

    low : (x : ℕ) → nat_lt x CLIENTS ≡ true → x < 2 ^ 16
    low x h = grind (arith, h)

-- no client is a node
apart : (shard index shards f : ℕ) → shards ≤ 16 → (nat_lt shard shards && nat_le index (3 * f)) ≡ true → (shard == CLIENT_SHARD && nat_lt index CLIENTS) ≡ true → ⊥
apart shard index shards f a node client =
    let n = and_parts (nat_lt shard shards) (nat_le index (3 * f)) node in
    let c = and_parts (shard == CLIENT_SHARD) (nat_lt index CLIENTS) client in
    none shard shards n.0 a (eqb-true _ _ c.0)
  where
    none : (x n : ℕ) → nat_lt x n ≡ true → n ≤ 16 → x ≡ CLIENT_SHARD → ⊥
    none x n h a e = grind (arith, h, a, e)

module _ {M : Type 0} (machine : Machine M) (holds : Holds machine) (carrier : Carriers M) (carries : AllCarry machine carrier) (config : Config) (master : Bytes) (liars : List NodeId) (genesis : List Object) (session_of : Session → Seen.Session) (few : config.shards ≤ 16) (small : config.f ≤ 5) where
  abbrev At : Site M
  At = deployment machine carrier config master liars genesis session_of

  abbrev net : Net
  net = net_of config master liars

  is-node : (name : NodeId) → net.is_honest name ≡ true → is_node config name ≡ true
  is-node name h = (and_parts (is_node config name) _ h).0

  honest-named : (name : NodeId) → net.is_honest name ≡ true → IsName name
  honest-named name h = node-named name.shard name.index config.shards config.f few small (is-node name h)

  speaker-named : (name : NodeId) → is_named config name ≡ true → IsName name
  speaker-named name h =
      elim (or_cases (is_node config name) (is_client name) h) [
        | inl node ↦ node-named name.shard name.index config.shards config.f few small node
        | inr client ↦ client-named name.shard name.index client
      ]

  no-client : (name : NodeId) → net.is_honest name ≡ true → is_client name ≡ false
  no-client name h =
      elim (cases_Bool (is_client name)) [
        | inl client ↦ absurd (apart name.shard name.index config.shards config.f few (is-node name h) client)
        | inr not ↦ not
      ]

  opens-as : (from to : NodeId) (kind : ℕ) (body : Bytes) → IsName from → IsName to → kind < 256 → length body < 2 ^ 32 → (me : NodeId) (said : NodeId × Message) → net.opened me (net.datagram from to kind body) ≡ Ok said → said.0 ≡ from
  opens-as from to kind body named addressed low short me said e = opens-from (version_of config.version) (key_between master from to) from to kind body named addressed low short (keys_of_master config master me) said e

  -- ---- what the marks of a node send

  sealed-fair : (me to : NodeId) (said : Message) (t : List (Mark M)) → net.is_honest me ≡ true → AllBytes t → AllMade At me (Plain (Sent to said) ∷ t) → IsFair net (record { from = me; to = to; bytes = sealed_by_net net me to said; arrived = false })
  sealed-fair me to said t honest bytes made =
      let spoken = λ (h : net.is_honest to ≡ true). spoken-bytes (version_of config.version) said (sent-fits machine carrier config master liars genesis session_of carries holds me t bytes to (no-client to h) said made) in
      record {
        bytes = λ h. bytes-datagram (version_of config.version) (key_between master me to) me to (kind_of said) (body_of (version_of config.version) said) (kind_small said) (spoken h).0;
        from = λ h name other e. opens-as me to (kind_of said) (body_of (version_of config.version) said) (honest-named me honest) (honest-named to h) (kind_small said) (spoken h).1 name other e;
      }

  sent-fair : (me : NodeId) (a t : List (Mark M)) → net.is_honest me ≡ true → AllBytes (a ++ t) → AllMade At me (a ++ t) → AreFair net (parcels_of net me (signs_of a))
  sent-fair me [] t honest bytes made p i = absurd i
  sent-fair me (In input ∷ a) t honest bytes made p i = sent-fair me a t honest (λ other j. bytes other (inr j)) made.1 p i
  sent-fair me (Ordered deed ∷ a) t honest bytes made p i = sent-fair me a t honest bytes made.1 p i
  sent-fair me (Plain (Dropped cause) ∷ a) t honest bytes made p i = sent-fair me a t honest bytes made.1 p i
  sent-fair me (Plain (Took sender vote x) ∷ a) t honest bytes made p i = sent-fair me a t honest bytes made.1 p i
  sent-fair me (Plain (Entered x) ∷ a) t honest bytes made p i = sent-fair me a t honest bytes made.1 p i
  sent-fair me (Plain (Viewed slot view) ∷ a) t honest bytes made p i = sent-fair me a t honest bytes made.1 p i
  sent-fair me (Plain (Headed number head) ∷ a) t honest bytes made p i = sent-fair me a t honest bytes made.1 p i
  sent-fair me (Plain (Kept index checkpoint) ∷ a) t honest bytes made p i = sent-fair me a t honest bytes made.1 p i
  sent-fair me (Plain (Did slot place entry effect) ∷ a) t honest bytes made p i = sent-fair me a t honest bytes made.1 p i
  sent-fair me (Plain (Sent to said) ∷ a) t honest bytes made p i =
      fair-append net (parcels_of net me (signs_of a)) _ (sent-fair me a t honest bytes made.1) last p i
    where
      last : AreFair net (record { from = me; to = to; bytes = sealed_by_net net me to said; arrived = false } ∷ [])
      last p (inl is) = subst (IsFair net) (sym is) (sealed-fair me to said (a ++ t) honest bytes made)
      last p (inr none) = absurd none

  -- ---- the marks of a node in a world

  pub record IsClean (me : NodeId) (t : List (Mark M)) : Type 0 where
    pub level : IsLevel At me t
    pub bytes : AllBytes t

  clean-event : (me : NodeId) (t : List (Mark M)) (input : Input) → InputIsBytes input → IsClean me t → IsClean me (event_marks At (view_at At me t) input ++ t)
  clean-event me t input fits c =
      let is = event-inputs At (view_at At me t) input t in
      record {
        level = event-level At (reads-proper machine carrier config master liars genesis session_of carries) me t input (input-fits machine carrier config master liars genesis session_of me input fits) c.level;
        bytes = λ other i. all other (subst (λ (l : List Input). IsIn other l) is i);
      }
    where
      all : (other : Input) → IsIn other (input ∷ inputs_in t) → InputIsBytes other
      all other (inl e) = subst InputIsBytes (sym e) fits
      all other (inr i) = c.bytes other i

  pub world-clean : (world : List (Happening M)) → IsLife At world → AreBytes world → (me : NodeId) → IsClean me (trail_of me world)
  world-clean [] life bytes me = record { level = record { made = tt; executed = refl }; bytes = λ input i. absurd i }
  world-clean (h ∷ past) life bytes me =
      cond_both (same_name h.node me) (h.marks ++ trail_of me past) (trail_of me past) (λ t. IsClean me t)
      (λ same.
      let is = name-same h.node me same in
      let marks : h.marks ≡ event_marks At (view_of At past me) h.input = life.0 ∙ ap (λ n. event_marks At (view_of At past n) h.input) is in
      subst (λ (m : List (Mark M)). IsClean me (m ++ trail_of me past)) (sym marks) (clean-event me (trail_of me past) h.input bytes.0 (world-clean past life.1 bytes.1 me)))
      (λ other. world-clean past life.1 bytes.1 me)

  -- ---- events

  record Plays (p : Played M) : Type 0 where
    pub world : IsPlayed At p.world
    pub same : letters p.parcels ≡ letters (sent_in net p.world)
    pub fair : AreFair net p.parcels

  abbrev CourseIs : Course M → Type 0
  CourseIs c = Plays (played_by c)

  module _ (traced : Bool) (line : ℕ) where
    plays-here : (i : NodeId) (input : Input) (p : Played M) → net.is_honest i ≡ true → InputIsBytes input → is_genuine_input net i input (sent_in net p.world) ≡ true → Plays p → Plays (plays At traced line i input p)
    plays-here i input p honest fits genuine h =
        let marks = event_marks At (view_of At p.world i) input in
        let world = happens At i input p.world in
        let played : IsPlayed At world = record { honest = (honest, h.world.honest); life = (refl, h.world.life); bytes = (fits, h.world.bytes); genuine = (genuine, h.world.genuine) } in
        let before = world-clean p.world h.world.life h.world.bytes i in
        let after = clean-event i (trail_of i p.world) input fits before in
        let sent = parcels_of net i (signs_of marks) in
        record {
          world = played;
          same = letters-append p.parcels sent ∙ ap (λ (l : List Parcel). l ++ letters sent) h.same ∙ sym (letters-append (sent_in net p.world) sent);
          fair = fair-append net p.parcels sent h.fair (sent-fair i marks (trail_of i p.world) honest after.bytes after.level.made);
        }

    within-played : (p next : Played M) → Plays p → Plays next → CourseIs (within line p next)
    within-played p next h k = cond_both (nat_le (size_of next.parcels) most_sent) (Goes next) (Stops p line) CourseIs (λ e. k) (λ e. h)

    occurs-played : (i : NodeId) (input : Input) (p : Played M) → net.is_honest i ≡ true → InputIsBytes input → is_genuine_input net i input (sent_in net p.world) ≡ true → Plays p → CourseIs (occurs At traced line i input p)
    occurs-played i input p honest fits genuine h =
        let next = plays At traced line i input p in
        cond_both (nat_lt (length p.world) most_events) (within line p next) (Stops p line) CourseIs
        (λ e. within-played p next h (plays-here i input p honest fits genuine h))
        (λ e. h)

    injects-played : (to : NodeId) (bytes : Bytes) (p : Played M) → net.is_honest to ≡ true → IsBytes bytes → Plays p → CourseIs (injects At traced line to bytes p)
    injects-played to bytes p honest fits h =
        let next = plays At traced line to (Datagram bytes) p in
        cond_both (nat_lt (length p.world) most_events) (if is_genuine net to bytes p.parcels then within line p next else Forges p line) (Stops p line) CourseIs
        (λ e. cond_both (is_genuine net to bytes p.parcels) (within line p next) (Forges p line) CourseIs
        (λ g. within-played p next h (plays-here to (Datagram bytes) p honest fits (sym (backed-same net to bytes p.parcels (sent_in net p.world) (net.opened to bytes) h.same) ∙ g) h))
        (λ g. h))
        (λ e. h)

    -- what a parcel says was sent
    parcel-genuine : (number : ℕ) (parcel : Parcel) (p : Played M) → slice_get p.parcels number ≡ Some parcel → net.is_honest parcel.to ≡ true → Plays p → is_genuine net parcel.to parcel.bytes (sent_in net p.world) ≡ true
    parcel-genuine number parcel p is honest h = go (net.opened parcel.to parcel.bytes) refl
      where
        go : (o : Opened) → net.opened parcel.to parcel.bytes ≡ o → is_backed net parcel.to parcel.bytes (sent_in net p.world) o ≡ true
        go (Ok said) e =
            let from = (h.fair parcel (parcel-in p.parcels number parcel is)).from honest parcel.to said e in
            let sent = sym (same-sent parcel.from parcel.to parcel.bytes p.parcels (sent_in net p.world) h.same) ∙ sent-there p.parcels number parcel is in
            or_right _ _ (subst (λ (n : NodeId). was_sent n parcel.to parcel.bytes (sent_in net p.world) ≡ true) (sym from) sent)
        go (Err error) e = refl

    delivers-played : (number : ℕ) (o : Option Parcel) (p : Played M) → slice_get p.parcels number ≡ o → Plays p → CourseIs (delivers At traced line number o p)
    delivers-played number None p is h = h
    delivers-played number (Some parcel) p is h =
        let q = with_arrived number parcel p in
        let fair = h.fair parcel (parcel-in p.parcels number parcel is) in
        let came : Plays q = record { world = h.world; same = letters-set p.parcels number parcel is ∙ h.same; fair = fair-set net p.parcels number (arrived parcel) h.fair (record { bytes = fair.bytes; from = fair.from }) } in
        cond_both (net.is_honest parcel.to) (occurs At traced line parcel.to (Datagram parcel.bytes) q) (Goes q) CourseIs
        (λ honest. occurs-played parcel.to (Datagram parcel.bytes) q honest (fair.bytes honest) (parcel-genuine number parcel p is honest h) came)
        (λ other. came)

    then-played : (c : Course M) (next : Played M → Course M) → CourseIs c → ((p : Played M) → Plays p → CourseIs (next p)) → CourseIs (then_plays c next)
    then-played (Goes p) next h later = later p h
    then-played (Stops p at) next h later = h
    then-played (Forges p at) next h later = h

    drained-played : (times : ℕ) (p : Played M) → Plays p → CourseIs (drained At traced line times p)
    unfolding drained
    drained-played zero p h = h
    drained-played (suc times) p h = go (first_left 0 p.parcels) (λ q k. drained-played times q k)
      where
        go : (o : Option ℕ) → ((q : Played M) → Plays q → CourseIs (drained At traced line times q)) → CourseIs (drains At traced line (drained At traced line times) o p)
        go None later = h
        go (Some number) later =
            then-played (delivers At traced line number (slice_get p.parcels number) p) (drained At traced line times) (delivers-played number (slice_get p.parcels number) p refl h) later

    -- what is said opens, if at all, as from its speaker, who is no honest node
    said-genuine : (from to : NodeId) (kind : ℕ) (body : Bytes) (parcels : List Parcel) → IsSayable config net from to kind body → is_genuine net to (net.datagram from to kind body) parcels ≡ true
    said-genuine from to kind body parcels said = go (net.opened to (net.datagram from to kind body)) refl
      where
        short : (n : ℕ) → n ≤ 32719 → n < 2 ^ 32
        short n a = omega arith

        go : (o : Opened) → net.opened to (net.datagram from to kind body) ≡ o → is_backed net to (net.datagram from to kind body) parcels o ≡ true
        go (Ok other) e =
            let is = opens-as from to kind body (speaker-named from said.speaker) (honest-named to said.listener) said.kind_fits (short (length body) said.short) to other e in
            or_left _ _ (ap (λ (n : NodeId). not (net.is_honest n)) is ∙ ap not said.lies)
        go (Err error) e = refl

    play-played : (e : Event) (p : Played M) → IsGivable config net e → Plays p → CourseIs (play At traced line e p)
    play-played (event.Say from to kind body) p said h =
        occurs-played to (Datagram (net.datagram from to kind body)) p said.listener
        (bytes-datagram (version_of config.version) (key_between master from to) from to kind body said.kind_fits said.is_bytes)
        (said-genuine from to kind body (sent_in net p.world) said) h
    play-played (event.Inject to bytes) p here h = injects-played to bytes p here.0 here.1 h
    play-played (event.Deliver number) p here h = delivers-played number (slice_get p.parcels number) p refl h
    play-played (event.Tick node) p here h = occurs-played node Tick p here tt refl h
    play-played (event.Drain times) p here h = drained-played times p h

  all-played : (traced : Bool) (events : List (ℕ × Event)) (p : Played M) → All (λ (e : ℕ × Event). IsGivable config net e.1) events → Plays p → CourseIs (play_all At traced events p)
  all-played traced [] p here h = h
  all-played traced (e ∷ events) p here h =
      then-played traced e.0 (play At traced e.0 e.1 p) (play_all At traced events) (play-played traced e.0 e.1 p (here 0 e (omega arith)) h)
      (λ q k. all-played traced events q (All-tail (λ (n : ℕ × Event). IsGivable config net n.1) e events here) k)

pub plays-worlds : {M : Type 0} (machine : Machine M) → Holds machine → PlaysWorlds machine
plays-worlds {M} machine holds carrier carries config master liars genesis session_of traced events few small here =
    let first : Plays machine holds carrier carries config master liars genesis session_of few small unplayed = record {
      world = record { honest = tt; life = tt; bytes = tt; genuine = tt };
      same = refl;
      fair = λ p i. absurd i;
    } in
    (all-played machine holds carrier carries config master liars genesis session_of few small traced events unplayed here first).world
