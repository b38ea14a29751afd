-- A world without forgeries is a story.
use Rattle.std.proofs.Common.{◌≡◌, ◌⊎◌, inl, inr, Bool, true, false, not, ◌&&◌, ◌||◌, if◌then◌else◌, List, [], ◌∷◌, ◌++◌, Some, sym, ◌∙◌, ap, subst, refl, append_assoc}
use Rattle.std.specs.Prelude.{Ok, bytes_eq}
use Rattle.std.specs.List.{list_any}
use Rattle.std.proofs.lemmas.Bool.{cond_both, and_parts, or_cases, both_ways}
use Rattle.cs_base.specs.Lists.{IsIn}
use Rattle.cs_base.specs.declared.node_id.NodeId.{NodeId}
use Rattle.cs_base.specs.Fields.{IsBytes}
use Rattle.cs_tx_types.specs.declared.session.Session.{Session}
use Rattle.cs_tx_types.specs.declared.entry.Entry.{Entry}
use Rattle.cs_wire_message.specs.declared.message.Message.{Message}
use Rattle.cs_wire_message.specs.Message.{MessageFits}
use Rattle.cs_wire.specs.Opened.{Opened}
use Rattle.cs_ledger.specs.Ledger.{Bytes}
use Rattle.cs_ledger.proofs.Basics.{same_bytes, in_left, in_right}
use Rattle.cs_base.specs.NodeId.{same_name}
use Rattle.cs_node_rules.specs.Net.{sealed_by_net}
use Rattle.cs_node_rules.specs.Signs.{Sign, Dropped, Took, Entered, Viewed, Did, Headed, Kept, Sent}
use Rattle.cs_node_rules.specs.Site.{Input, Datagram, Tick, Mark, In, Ordered, Plain, Site, signs_of}
use Rattle.cs_node_rules.specs.Trail.{event_marks}
use Rattle.cs_node_rules.specs.Lines.{Parcel, parcels_of}
use Rattle.cs_node_rules.specs.World.{Happening, trail_of, view_of, IsLife, AreHonest, NoForgery, sent_in, was_sent, is_backed, is_genuine_input, firsts_of, firsts_after, with_first_execution, Execution}
use Rattle.cs_node_rules.specs.Collisions.{sessions_in, entries_in, in_opened, given, entries_of, entries_proposed, known_sessions, known_entries}
use Rattle.cs_node_law.specs.Made.{current, IsMade, AllMade, IsLevel, ReadsProper, InputFits, EventIsMade}
use Rattle.cs_node_law.specs.Given.{InputIsBytes, AreBytes}
use Rattle.cs_world_law.specs.Worlds.{is_honest}
use Rattle.cs_world_law.specs.Chain.{Moment, at_node, moments, trail_at, Known, IsWithinKnown, HasSealed, IsBacked, Story, story_firsts}
use Rattle.cs_node_law.proofs.Views.{signs_of-append}
use Rattle.cs_node_law.proofs.NoIns.{NoIn, event-shape}
use Rattle.cs_world_law.proofs.Trails.{same-name, own-name}

-- ---- moments

trail-node : {M : Type 0} (i n : NodeId) (xs : List (Mark M)) (ms : List (Moment M)) (b : Bool) → same_name n i ≡ b → trail_at i (at_node n xs ++ ms) ≡ (if b then xs ++ trail_at i ms else trail_at i ms)
trail-node {M} i n [] ms true e = refl
trail-node {M} i n [] ms false e = refl
trail-node {M} i n (x ∷ xs) ms true e = ap (λ c. if c then x ∷ trail_at i (at_node n xs ++ ms) else trail_at i (at_node n xs ++ ms)) e ∙ ap (λ z. x ∷ z) (trail-node i n xs ms true e)
trail-node {M} i n (x ∷ xs) ms false e = ap (λ c. if c then x ∷ trail_at i (at_node n xs ++ ms) else trail_at i (at_node n xs ++ ms)) e ∙ trail-node i n xs ms false e

-- the marks of a node
pub trail-same : {M : Type 0} (i : NodeId) (past : List (Happening M)) → trail_at i (moments past) ≡ trail_of i past
trail-same {M} i [] = refl
trail-same {M} i (h ∷ past) = trail-node i h.node h.marks (moments past) (same_name h.node i) refl ∙ ap (λ t. if same_name h.node i then h.marks ++ t else t) (trail-same i past)

at-append : {M : Type 0} (n : NodeId) (xs ys : List (Mark M)) (ms : List (Moment M)) → at_node n (xs ++ ys) ++ ms ≡ at_node n xs ++ (at_node n ys ++ ms)
at-append {M} n [] ys ms = refl
at-append {M} n (x ∷ xs) ys ms = ap (λ z. record { node = n; mark = x } ∷ z) (at-append n xs ys ms)

-- the first executions
firsts-node : {M : Type 0} (n : NodeId) (xs : List (Mark M)) (ms : List (Moment M)) → firsts_after n.shard (story_firsts ms) (signs_of xs) ≡ story_firsts (at_node n xs ++ ms)
firsts-node {M} n [] ms = refl
firsts-node {M} n (In input ∷ xs) ms = firsts-node n xs ms
firsts-node {M} n (Ordered deed ∷ xs) ms = firsts-node n xs ms
firsts-node {M} n (Plain sign ∷ xs) ms = ap (λ (l : List Execution). with_first_execution n.shard sign l) (firsts-node n xs ms)

pub firsts-same : {M : Type 0} (world : List (Happening M)) → firsts_of world ≡ story_firsts (moments world)
firsts-same {M} [] = refl
firsts-same {M} (h ∷ past) = ap (λ (l : List Execution). firsts_after h.node.shard l (signs_of h.marks)) (firsts-same past) ∙ firsts-node h.node h.marks (moments past)

-- ---- what was sent

-- what a sign sent is among the datagrams
parcel-sent : {M : Type 0} (site : Site M) (from to : NodeId) (bytes : Bytes) (node : NodeId) (signs : List Sign) → was_sent from to bytes (parcels_of site.net node signs) ≡ true → (node ≡ from) × HasSealed site from to bytes signs
parcel-sent {M} site from to bytes node signs h = go signs h
  where
    test : Parcel → Bool
    test parcel = same_name parcel.from from && (same_name parcel.to to && bytes_eq parcel.bytes bytes)

    more : (sign : Sign) (past : List Sign) → (node ≡ from) × HasSealed site from to bytes past → (node ≡ from) × HasSealed site from to bytes (sign ∷ past)
    more sign past r = (r.0, record { said = r.1.said; sent = inr r.1.sent; is = r.1.is })

    last : (a : List Parcel) (p : Parcel) → list_any test (a ++ p ∷ []) ≡ true → (list_any test a ≡ true) ⊎ (test p ≡ true)
    last [] p e = elim (or_cases (test p) false e) [ inl now ↦ inr now | inr none ↦ absurd (both_ways false refl none) ]
    last (q ∷ a) p e = elim (or_cases (test q) (list_any test (a ++ p ∷ [])) e) [
      | inl now ↦ inl (let x : (test q || list_any test a) ≡ true = ap (λ b. b || list_any test a) now in x)
      | inr later ↦ elim (last a p later) [ inl l ↦ inl (either (test q) (list_any test a) l) | inr r ↦ inr r ]
    ]
      where
        either : (x y : Bool) → y ≡ true → (x || y) ≡ true
        either true y e = refl
        either false y e = e

    go : (l : List Sign) → was_sent from to bytes (parcels_of site.net node l) ≡ true → (node ≡ from) × HasSealed site from to bytes l
    go [] e = absurd (both_ways false refl e)
    go (Sent receiver said ∷ past) e =
        let p : Parcel = record { from = node; to = receiver; bytes = sealed_by_net site.net node receiver said; arrived = false } in
        elim (last (parcels_of site.net node past) p e) [
          | inl before ↦ more (Sent receiver said) past (go past before)
          | inr now ↦
              let a = and_parts (same_name node from) (same_name receiver to && bytes_eq p.bytes bytes) now in
              let b = and_parts (same_name receiver to) (bytes_eq p.bytes bytes) a.1 in
              let n : node ≡ from = same-name node from a.0 in
              let r : receiver ≡ to = same-name receiver to b.0 in (
                n,
                record {
                  said = said;
                  sent = inl (ap (λ (z : NodeId). Sent z said) (sym r));
                  is = sym (same_bytes p.bytes bytes b.1) ∙ ap (λ (z : NodeId). sealed_by_net site.net z receiver said) n ∙ ap (λ (z : NodeId). sealed_by_net site.net from z said) r;
                },
              )
        ]
    go (Dropped cause ∷ past) e = more (Dropped cause) past (go past e)
    go (Took sender vote x ∷ past) e = more (Took sender vote x) past (go past e)
    go (Entered x ∷ past) e = more (Entered x) past (go past e)
    go (Viewed slot view ∷ past) e = more (Viewed slot view) past (go past e)
    go (Headed number head ∷ past) e = more (Headed number head) past (go past e)
    go (Kept index checkpoint ∷ past) e = more (Kept index checkpoint) past (go past e)
    go (Did slot place entry effect ∷ past) e = more (Did slot place entry effect) past (go past e)

any-either : (test : Parcel → Bool) (a b : List Parcel) → list_any test (a ++ b) ≡ true → (list_any test a ≡ true) ⊎ (list_any test b ≡ true)
any-either test [] b e = inr e
any-either test (p ∷ a) b e = elim (or_cases (test p) (list_any test (a ++ b)) e) [
  | inl now ↦ inl (ap (λ c. c || list_any test a) now)
  | inr later ↦ elim (any-either test a b later) [ inl l ↦ inl (either (test p) (list_any test a) l) | inr r ↦ inr r ]
]
  where
    either : (x y : Bool) → y ≡ true → (x || y) ≡ true
    either true y e = refl
    either false y e = e

seal-in : {M : Type 0} (site : Site M) (from to : NodeId) (bytes : Bytes) (a b : List Sign) → HasSealed site from to bytes a ⊎ HasSealed site from to bytes b → HasSealed site from to bytes (a ++ b)
seal-in {M} site from to bytes a b (inl h) = record { said = h.said; sent = in_left (Sent to h.said) a b h.sent; is = h.is }
seal-in {M} site from to bytes a b (inr h) = record { said = h.said; sent = in_right (Sent to h.said) a b h.sent; is = h.is }

-- what was sent in a world, its sender has sent
world-sent : {M : Type 0} (site : Site M) (from to : NodeId) (bytes : Bytes) (past : List (Happening M)) → was_sent from to bytes (sent_in site.net past) ≡ true → HasSealed site from to bytes (signs_of (trail_of from past))
world-sent {M} site from to bytes [] h = absurd (both_ways false refl h)
world-sent {M} site from to bytes (e ∷ past) h =
    elim (any-either _ (sent_in site.net past) (parcels_of site.net e.node (signs_of e.marks)) h) [
      | inl before ↦ cond_both (same_name e.node from) (e.marks ++ trail_of from past) (trail_of from past) (λ t. HasSealed site from to bytes (signs_of t))
          (λ own. over e.marks (inr (world-sent site from to bytes past before))) (λ other. world-sent site from to bytes past before)
      | inr now ↦
          let s = parcel-sent site from to bytes e.node (signs_of e.marks) now in
          subst (λ c. HasSealed site from to bytes (signs_of (if c then e.marks ++ trail_of from past else trail_of from past)))
          (sym (ap (λ (n : NodeId). same_name n from) s.0 ∙ own-name from)) (over e.marks (inl s.1))
    ]
  where
    over : (xs : List (Mark M)) → HasSealed site from to bytes (signs_of xs) ⊎ HasSealed site from to bytes (signs_of (trail_of from past)) → HasSealed site from to bytes (signs_of (xs ++ trail_of from past))
    over xs s = subst (λ l. HasSealed site from to bytes l) (sym (signs_of-append xs (trail_of from past))) (seal-in site from to bytes (signs_of xs) (signs_of (trail_of from past)) s)

-- it stays sent
sealed-over : {M : Type 0} (site : Site M) (from to : NodeId) (bytes : Bytes) (n : NodeId) (xs : List (Mark M)) (ms : List (Moment M)) → HasSealed site from to bytes (signs_of (trail_at from ms)) → HasSealed site from to bytes (signs_of (trail_at from (at_node n xs ++ ms)))
sealed-over {M} site from to bytes n [] ms h = h
sealed-over {M} site from to bytes n (x ∷ xs) ms h =
    cond_both (same_name n from) (x ∷ trail_at from (at_node n xs ++ ms)) (trail_at from (at_node n xs ++ ms)) (λ t. HasSealed site from to bytes (signs_of t))
    (λ own. more x (sealed-over site from to bytes n xs ms h)) (λ other. sealed-over site from to bytes n xs ms h)
  where
    more : (mark : Mark M) → HasSealed site from to bytes (signs_of (trail_at from (at_node n xs ++ ms))) → HasSealed site from to bytes (signs_of (mark ∷ trail_at from (at_node n xs ++ ms)))
    more (In input) s = s
    more (Ordered deed) s = s
    more (Plain sign) s = record { said = s.said; sent = inr s.sent; is = s.is }

-- the input at work
current-is : {M : Type 0} (fresh : List (Mark M)) (input : Input) (t : List (Mark M)) → NoIn fresh → current (fresh ++ In input ∷ t) ≡ Some input
current-is {M} [] input t h = refl
current-is {M} (In other ∷ fresh) input t h = absurd h
current-is {M} (Ordered deed ∷ fresh) input t h = current-is fresh input t h
current-is {M} (Plain sign ∷ fresh) input t h = current-is fresh input t h

or-honest : (p q : Bool) → (not p || q) ≡ true → p ≡ true → q ≡ true
or-honest true q e h = e
or-honest false q e h = absurd (both_ways false refl h)

-- after a genuine input, what the node works on as from an honest node was sent
input-backed : {M : Type 0} (site : Site M) (i : NodeId) (input : Input) (fresh t : List (Mark M)) (past : List (Happening M)) → is_genuine_input site.net i input (sent_in site.net past) ≡ true → NoIn fresh
    → IsBacked site i (fresh ++ In input ∷ t) (moments past)
input-backed {M} site i input fresh t past genuine none bytes sender said is_current reads honest =
    let q : Some input ≡ Some (Datagram bytes) = sym (current-is fresh input t none) ∙ is_current in
    let same : input ≡ Datagram bytes = cc in
    let g = subst (λ (z : Input). is_genuine_input site.net i z (sent_in site.net past) ≡ true) same genuine in
    let b = subst (λ (o : Opened). is_backed site.net i bytes (sent_in site.net past) o ≡ true) reads g in
    subst (λ t. HasSealed site sender i bytes (signs_of t)) (sym (trail-same sender past))
    (world-sent site sender i bytes past (or-honest (is_honest site sender) (was_sent sender i bytes (sent_in site.net past)) b honest))

-- ---- what was given is known

-- each input says what is within the limits
abbrev pub InsFit : {M : Type 0} → Site M → NodeId → List (Mark M) → Type 0
InsFit {M} site me [] = Unit {0}
InsFit {M} site me (In input ∷ marks) = InputFits site me input × InsFit site me marks
InsFit {M} site me (Ordered deed ∷ marks) = InsFit site me marks
InsFit {M} site me (Plain sign ∷ marks) = InsFit site me marks

pub ins-fit : {M : Type 0} (site : Site M) (me : NodeId) (fresh : List (Mark M)) (input : Input) → NoIn fresh → InputFits site me input → InsFit site me (fresh ++ In input ∷ [])
ins-fit {M} site me [] input none fits = (fits, tt)
ins-fit {M} site me (In other ∷ fresh) input none fits = absurd none
ins-fit {M} site me (Ordered deed ∷ fresh) input none fits = ins-fit site me fresh input none fits
ins-fit {M} site me (Plain sign ∷ fresh) input none fits = ins-fit site me fresh input none fits

-- the sessions and entries of these marks are known
record AreKnown {M : Type 0} (site : Site M) (known : Known) (me : NodeId) (marks : List (Mark M)) : Type 0 where
  pub fit : InsFit site me marks
  pub sessions : (x : Session) → IsIn x (given site sessions_in me marks) → IsIn x known.sessions
  pub entries : (e : Entry) → IsIn e (given site entries_in me marks) → IsIn e known.entries
  pub proposed : (e : Entry) → IsIn e (entries_proposed site marks) → IsIn e known.entries

-- the first of them is within, and the others are known
first-known : {M : Type 0} (site : Site M) (known : Known) (me : NodeId) (mark : Mark M) (marks : List (Mark M)) → AreKnown site known me (mark ∷ marks) → IsWithinKnown site known me mark × AreKnown site known me marks
first-known {M} site known me (Plain sign) marks k = (tt, record { fit = k.fit; sessions = k.sessions; entries = k.entries; proposed = k.proposed })
first-known {M} site known me (In Tick) marks k = (tt, record { fit = k.fit.1; sessions = k.sessions; entries = k.entries; proposed = k.proposed })
first-known {M} site known me (Ordered deed) marks k = (
  λ e i. k.proposed e (in_left e (entries_of site deed) (entries_proposed site marks) i),
  record { fit = k.fit; sessions = k.sessions; entries = k.entries; proposed = λ e i. k.proposed e (in_right e (entries_of site deed) (entries_proposed site marks) i) },
)
first-known {M} site known me (In (Datagram bytes)) marks k = (
  λ sender said reads. record {
    fits = k.fit.0 sender said reads;
    sessions = λ x i. k.sessions x (in_left x (in_opened sessions_in (site.net.opened me bytes)) (given site sessions_in me marks) (subst (λ (o : Opened). IsIn x (in_opened sessions_in o)) (sym reads) i));
    entries = λ e i. k.entries e (in_left e (in_opened entries_in (site.net.opened me bytes)) (given site entries_in me marks) (subst (λ (o : Opened). IsIn e (in_opened entries_in o)) (sym reads) i));
  },
  record {
    fit = k.fit.1;
    sessions = λ x i. k.sessions x (in_right x (in_opened sessions_in (site.net.opened me bytes)) (given site sessions_in me marks) i);
    entries = λ e i. k.entries e (in_right e (in_opened entries_in (site.net.opened me bytes)) (given site entries_in me marks) i);
    proposed = k.proposed;
  },
)

-- ---- events

module _ {M : Type 0} (site : Site M) (known : Known) where
  -- an event at an honest node, mark by mark
  event-story : (i : NodeId) (input : Input) (fresh : List (Mark M)) (past : List (Happening M)) → is_honest site i ≡ true → is_genuine_input site.net i input (sent_in site.net past) ≡ true → NoIn fresh
      → AllMade site i (fresh ++ In input ∷ trail_of i past) → AreKnown site known i (fresh ++ In input ∷ []) → IsBacked site i (trail_at i (moments past)) (moments past) → Story site known (moments past)
      → Story site known (at_node i fresh ++ record { node = i; mark = In input } ∷ moments past)
  event-story i input [] past honest genuine none made are backed story =
      let k = first-known site known i (In input) [] are in
      (record { honest = honest; made = tt; within = k.0; backed = backed }, story)
  event-story i input (x ∷ fresh) past honest genuine none made are backed story =
      let base : List (Moment M) = record { node = i; mark = In input } ∷ moments past in
      let rest = at_node i fresh ++ base in
      let k = first-known site known i x (fresh ++ In input ∷ []) are in
      let less = tail x fresh none in
      let e : trail_at i rest ≡ fresh ++ In input ∷ trail_of i past =
      trail-node i i fresh base true (own-name i)
      ∙ ap (λ c. fresh ++ (if c then In input ∷ trail_at i (moments past) else trail_at i (moments past))) (own-name i)
      ∙ ap (λ z. fresh ++ In input ∷ z) (trail-same i past) in
      let b : IsBacked site i (fresh ++ In input ∷ trail_of i past) rest =
      (λ bytes sender said c reads h. sealed-over site sender i bytes i fresh base (sealed-over site sender i bytes i (In input ∷ []) (moments past) (input-backed site i input fresh (trail_of i past) past genuine less bytes sender said c reads h))) in (
        record { honest = honest; made = subst (λ t. IsMade site i t x) (sym e) made.0; within = k.0; backed = subst (λ t. IsBacked site i t rest) (sym e) b },
        event-story i input fresh past honest genuine less made.1 k.1 backed story,
      )
    where
      tail : (mark : Mark M) (marks : List (Mark M)) → NoIn (mark ∷ marks) → NoIn marks
      tail (In other) marks h = absurd h
      tail (Ordered deed) marks h = h
      tail (Plain sign) marks h = h

  -- what every node works on is backed
  abbrev AllBacked : List (Happening M) → Type 0
  AllBacked past = (i : NodeId) → IsBacked site i (trail_at i (moments past)) (moments past)

  all-backed : (h : Happening M) (past : List (Happening M)) → h.marks ≡ event_marks site (view_of site past h.node) h.input → is_genuine_input site.net h.node h.input (sent_in site.net past) ≡ true → AllBacked past → AllBacked (h ∷ past)
  all-backed h past made genuine backed j = at_j (same_name h.node j) refl
    where
      at_j : (b : Bool) → same_name h.node j ≡ b → IsBacked site j (trail_at j (moments (h ∷ past))) (moments (h ∷ past))
      at_j true e = λ bytes sender said c reads honest.
          let shape = event-shape site (view_of site past h.node) h.input in
          let regroup : trail_at j (moments (h ∷ past)) ≡ shape.fresh ++ In h.input ∷ trail_at j (moments past) =
          trail-node j h.node h.marks (moments past) true e
          ∙ ap (λ z. z ++ trail_at j (moments past)) (made ∙ shape.is)
          ∙ append_assoc shape.fresh (In h.input ∷ []) (trail_at j (moments past)) in
          let here = subst (λ n. is_genuine_input site.net n h.input (sent_in site.net past) ≡ true) (same-name h.node j e) genuine in
          sealed-over site sender j bytes h.node h.marks (moments past)
          (input-backed site j h.input shape.fresh (trail_at j (moments past)) past here shape.none bytes sender said (sym (ap current regroup) ∙ c) reads honest)
      at_j false e = λ bytes sender said c reads honest.
          let same = trail-node j h.node h.marks (moments past) false e in
          sealed-over site sender j bytes h.node h.marks (moments past) (backed j bytes sender said (sym (ap current same) ∙ c) reads honest)

  -- each node's marks are level
  abbrev AllLevel : List (Happening M) → Type 0
  AllLevel past = (i : NodeId) → IsLevel site i (trail_of i past)

  all-level : (h : Happening M) (past : List (Happening M)) → EventIsMade site → ReadsProper site → InputFits site h.node h.input → h.marks ≡ event_marks site (view_of site past h.node) h.input → AllLevel past → AllLevel (h ∷ past)
  all-level h past event proper fits made level j =
      cond_both (same_name h.node j) (h.marks ++ trail_of j past) (trail_of j past) (λ t. IsLevel site j t)
      (λ e. subst (λ n. IsLevel site n (h.marks ++ trail_of n past)) (same-name h.node j e)
      (subst (λ z. IsLevel site h.node (z ++ trail_of h.node past)) (sym made) (event proper h.node (trail_of h.node past) h.input fits (level h.node))))
      (λ e. level j)

  pub record IsSane (past : List (Happening M)) : Type 0 where
    pub story : Story site known (moments past)
    pub level : AllLevel past
    pub backed : AllBacked past

  -- what opens is within the limits
  abbrev pub OpensFit : Type 0
  OpensFit = (me sender : NodeId) (bytes : Bytes) (said : Message) → IsBytes bytes → site.net.opened me bytes ≡ Ok (sender, said) → MessageFits site.setup.version said

  input-fits : (me : NodeId) (input : Input) → OpensFit → InputIsBytes input → InputFits site me input
  input-fits me (Datagram bytes) opens fits = λ sender said reads. opens me sender bytes said fits reads
  input-fits me Tick opens fits = tt

  pub sane : (world : List (Happening M)) → EventIsMade site → ReadsProper site → OpensFit → AreHonest site.net world → IsLife site world → AreBytes world → NoForgery site.net world
      → ((x : Session) → IsIn x (known_sessions site world) → IsIn x known.sessions) → ((e : Entry) → IsIn e (known_entries site world) → IsIn e known.entries) → IsSane world
  sane [] event proper opens honest life bytes genuine sessions entries = record {
    story = tt;
    level = λ i. record { made = tt; executed = refl };
    backed = λ i bytes sender said c reads h. cc;
  }
  sane (h ∷ past) event proper opens honest life bytes genuine sessions entries =
      let old_sessions = λ (x : Session) (i : IsIn x (known_sessions site past)). sessions x (in_right x (given site sessions_in h.node h.marks) (known_sessions site past) i) in
      let old_entries = λ (e : Entry) (i : IsIn e (known_entries site past)). entries e (in_right e (given site entries_in h.node h.marks) (entries_proposed site h.marks ++ known_entries site past) (in_right e (entries_proposed site h.marks) (known_entries site past) i)) in
      let s = sane past event proper opens honest.1 life.1 bytes.1 genuine.1 old_sessions old_entries in
      let fits = input-fits h.node h.input opens bytes.0 in
      let level = all-level h past event proper fits life.0 s.level in
      let shape = event-shape site (view_of site past h.node) h.input in
      let marks : h.marks ≡ shape.fresh ++ In h.input ∷ [] = life.0 ∙ shape.is in
      let own : trail_of h.node (h ∷ past) ≡ shape.fresh ++ In h.input ∷ trail_of h.node past =
      ap (λ b. if b then h.marks ++ trail_of h.node past else trail_of h.node past) (own-name h.node)
      ∙ ap (λ z. z ++ trail_of h.node past) marks ∙ append_assoc shape.fresh (In h.input ∷ []) (trail_of h.node past) in
      let made : AllMade site h.node (shape.fresh ++ In h.input ∷ trail_of h.node past) = subst (λ t. AllMade site h.node t) own (level h.node).made in
      let are : AreKnown site known h.node h.marks = record {
        fit = subst (λ z. InsFit site h.node z) (sym marks) (ins-fit site h.node shape.fresh h.input shape.none fits);
        sessions = λ x i. sessions x (in_left x (given site sessions_in h.node h.marks) (known_sessions site past) i);
        entries = λ e i. entries e (in_left e (given site entries_in h.node h.marks) (entries_proposed site h.marks ++ known_entries site past) i);
        proposed = λ e i. entries e (in_right e (given site entries_in h.node h.marks) (entries_proposed site h.marks ++ known_entries site past) (in_left e (entries_proposed site h.marks) (known_entries site past) i));
      } in
      let story = event-story h.node h.input shape.fresh past honest.0 genuine.0 shape.none made (subst (λ z. AreKnown site known h.node z) marks are) (s.backed h.node) s.story in
      record {
        story = subst (λ z. Story site known z) (sym (ap (λ z. at_node h.node z ++ moments past) marks ∙ at-append h.node shape.fresh (In h.input ∷ []) (moments past))) story;
        level = level;
        backed = all-backed h past life.0 genuine.0 s.backed;
      }
