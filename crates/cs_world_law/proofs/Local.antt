-- What one node holds, votes on, executes and sends is fine, where what it was given is.
use Rattle.std.proofs.Common.{◌≡◌, ◌⊎◌, inl, inr, ℕ, List, [], ◌∷◌, ◌++◌, Some, map, sym, ◌∙◌, ap, subst, refl}
use Rattle.std.specs.Prelude.{Ok, Err, slice_get}
use Rattle.cs_base.specs.declared.node_id.NodeId.{NodeId}
use Rattle.cs_base.specs.declared.version.Version.{Version}
use Rattle.cs_tx_types.specs.declared.session.Session.{Session}
use Rattle.cs_tx_types.specs.declared.action.Action.{Action}
use Rattle.cs_tx_types.specs.declared.entry.Entry.{Entry}
use Rattle.cs_tx_types.specs.Session.{SessionFits, ActionFits, session_in}
use Rattle.cs_tx_types.specs.Entry.{EntryFits}
use Rattle.cs_wire_message.specs.declared.message.Message.{Message}
use Rattle.cs_wire_message.specs.declared.message.Message.TheVariants as message
use Rattle.cs_wire.specs.Opened.{Opened}
use Rattle.cs_order.specs.declared.proposed.Proposed.{Proposed}
use Rattle.cs_base.specs.Lists.{IsIn}
use Rattle.cs_order.specs.Deeds.{Deed, Took_in, Advanced, Echoed, Proposing, Ticked, Resent, Replied, Cut, Member, chosen_in}
use Rattle.cs_order.specs.Runs.{KeepsRules, AllKeepRules, entries_handed_in as entries_by, held_in}
use Rattle.cs_ledger.specs.Ledger.{Bytes}
use Rattle.cs_ledger.specs.Table.{Effect}
use Rattle.cs_ledger.proofs.Basics.{in_either}
use Rattle.cs_node_rules.specs.Signs.{Dropped, Took, Entered, Viewed, Did, Headed, Kept, Sent}
use Rattle.cs_node_rules.specs.Site.{Datagram, Tick, Mark, In, Ordered, Plain, Site, signs_of}
use Rattle.cs_node_rules.specs.Collisions.{sessions_in, entries_in, in_opened}
use Rattle.cs_node_rules.specs.Deployment.{proposed_of}
use Rattle.cs_node_law.specs.Made.{view_at, HasVotedOn, current, IsHeard, IsMade, AllMade}
use Rattle.cs_world_law.specs.Chain.{Known, IsFine, IsWithinKnown, IsSoundSite}
use Rattle.cs_node_law.proofs.Views.{sessions_given, me-same}
use Rattle.cs_world_law.proofs.Deeds.{deeds_in, member-is}
use Rattle.cs_world_law.proofs.Trails.{AllWithin}
use Rattle.cs_node_law.proofs.Pools.{Place, IsSourced, pool-sourced}
use Rattle.cs_node_law.proofs.Due.{IsDueFrom, all-from, due-from}
use Rattle.cs_node_state.specs.Admission.{all_due, due}
use Rattle.cs_node_state.specs.laws.Due.{due_fits}
use Rattle.cs_node_rules.proofs.Entries.{actions-fit}
use Rattle.cs_node_law.proofs.Actions.{got-in}
use Rattle.cs_node_law.proofs.Fitting.{session-fits, action-fits, each-fits, all-by, sessions-fit, entries-fit}

-- ---- messages and entries

pub order-either : {A : Type 0} (x : A) (xs ys : List A) → IsIn x (xs ++ ys) → IsIn x xs ⊎ IsIn x ys
order-either x [] ys h = inr h
order-either x (z ∷ xs) ys (inl e) = inl (inl e)
order-either x (z ∷ xs) ys (inr h) = elim (order-either x xs ys h) [ inl a ↦ inl (inr a) | inr b ↦ inr b ]

in-map : {A B : Type 0} (f : A → B) (y : B) (xs : List A) → IsIn y (map f xs) → (x : A) × (IsIn x xs) × (y ≡ f x)
in-map f y [] i = absurd i
in-map f y (x ∷ xs) (inl e) = (x, inl refl, e)
in-map f y (x ∷ xs) (inr i) = let r = in-map f y xs i in (r.0, inr r.1, r.2)

pub map-in : {A B : Type 0} (f : A → B) (x : A) (xs : List A) → IsIn x xs → IsIn (f x) (map f xs)
map-in f x [] i = absurd i
map-in f x (y ∷ xs) (inl e) = inl (ap f e)
map-in f x (y ∷ xs) (inr i) = inr (map-in f x xs i)

-- the sessions of the actions of an entry in a message stand there too
entry-sessions : (m : Message) (e : Entry) → IsIn e (entries_in m) → (a : Action) → IsIn a e.actions → IsIn (session_in a) (sessions_in m)
entry-sessions (message.Propose slot view entry) e (inl same) a i = map-in session_in a entry.actions (subst (λ (z : Entry). IsIn a z.actions) same i)
entry-sessions (message.Propose slot view entry) e (inr none) a i = absurd none
entry-sessions (message.Done slot entry) e (inl same) a i = map-in session_in a entry.actions (subst (λ (z : Entry). IsIn a z.actions) same i)
entry-sessions (message.Done slot entry) e (inr none) a i = absurd none
entry-sessions said e there a i = absurd there

-- a known entry, as it is proposed
pub record IsListed (version : Version) (known : Known) (p : Proposed) : Type 0 where
  pub entry : Entry
  pub fits : EntryFits version entry
  pub is : p ≡ proposed_of version entry
  pub sessions : (a : Action) → IsIn a entry.actions → IsIn (session_in a) known.sessions
  pub listed : IsIn entry known.entries

-- a known session
abbrev pub IsOurs : Known → Session → Type 0
IsOurs known x = SessionFits x × IsIn x known.sessions

module _ {M : Type 0} (site : Site M) (sound : IsSoundSite site) (known : Known) (me : NodeId) where
  abbrev version : Version
  version = site.setup.version

  -- ---- what was given

  heard-fine : (t : List (Mark M)) (bytes : Bytes) (sender : NodeId) (said : Message) → AllWithin site known me t → current t ≡ Some (Datagram bytes) → site.net.opened me bytes ≡ Ok (sender, said) → IsFine version known said
  heard-fine [] bytes sender said within c reads = cc
  heard-fine (In (Datagram other) ∷ t) bytes sender said within c reads = let same : other ≡ bytes = cc in within.0 sender said (ap (site.net.opened me) same ∙ reads)
  heard-fine (In Tick ∷ t) bytes sender said within c reads = cc
  heard-fine (Ordered deed ∷ t) bytes sender said within c reads = heard-fine t bytes sender said within.1 c reads
  heard-fine (Plain sign ∷ t) bytes sender said within c reads = heard-fine t bytes sender said within.1 c reads

  -- as the node itself hears it
  pub heard-reads : (t : List (Mark M)) (sender : NodeId) (said : Message) → (h : IsHeard site (view_at site me t) t sender said) → site.net.opened me h.bytes ≡ Ok (sender, said)
  heard-reads t sender said h = ap (λ (n : NodeId). site.net.opened n h.bytes) (sym (me-same site me t)) ∙ h.reads

  pub fine : (t : List (Mark M)) (sender : NodeId) (said : Message) → AllWithin site known me t → IsHeard site (view_at site me t) t sender said → IsFine version known said
  fine t sender said within h = heard-fine t h.bytes sender said within h.is_current (heard-reads t sender said h)

  pub given-ours : (t : List (Mark M)) (x : Session) → AllWithin site known me t → IsIn x (sessions_given site me t) → IsOurs known x
  given-ours [] x within i = absurd i
  given-ours (In (Datagram bytes) ∷ t) x within i =
      elim (in_either x (in_opened sessions_in (site.net.opened me bytes)) (sessions_given site me t) i) [
        | inl here ↦ opens (site.net.opened me bytes) refl here
        | inr before ↦ given-ours t x within.1 before
      ]
    where
      opens : (o : Opened) → site.net.opened me bytes ≡ o → IsIn x (in_opened sessions_in o) → IsOurs known x
      opens (Ok said) is j = let f = within.0 said.0 said.1 is in (sessions-fit version said.1 f.fits x j, f.sessions x j)
      opens (Err error) is j = absurd j
  given-ours (In Tick ∷ t) x within i = given-ours t x within.1 i
  given-ours (Ordered deed ∷ t) x within i = given-ours t x within.1 i
  given-ours (Plain sign ∷ t) x within i = given-ours t x within.1 i

  -- ---- the order's deeds

  pub deeds-kept : (t : List (Mark M)) → AllMade site me t → AllKeepRules site.machine site.setup.f me.index (deeds_in t)
  deeds-kept [] made = tt
  deeds-kept (In input ∷ t) made = deeds-kept t made.1
  deeds-kept (Plain sign ∷ t) made = deeds-kept t made.1
  deeds-kept (Ordered deed ∷ t) made = (subst (λ (h : Member M). KeepsRules site.machine h deed) (member-is site me t) made.0.0, deeds-kept t made.1)

  pub record IsLocal (t : List (Mark M)) : Type 0 where
    pub held : (p : Proposed) → IsIn p (held_in site.machine (deeds_in t)) → IsListed version known p
    pub voted : (x : Session) → HasVotedOn x (signs_of t) → IsOurs known x

  pooled-ours : (t : List (Mark M)) (e : Place) → AllMade site me t → AllWithin site known me t → IsLocal t → IsIn e (view_at site me t).bench.pool → IsOurs known e.1.session
  pooled-ours t e made within l i =
      let s : IsSourced site me t e = subst (λ (n : NodeId). IsSourced site n t e) (me-same site me t) (pool-sourced site me t made e i) in
      elim s.source [
        | inl new ↦ given-ours t e.1.session within new.1
        | inr voted ↦ l.voted e.1.session voted
      ]

  due-ours : (t : List (Mark M)) (entry : Action) → AllMade site me t → AllWithin site known me t → IsLocal t → IsDueFrom site.setup (view_at site me t).bench.pool entry → IsOurs known (session_in entry)
  due-ours t entry made within l d =
      let o = pooled-ours t d.0 made within l d.1 in
      elim d.2 [
        | inl prepare ↦ subst (λ z. IsOurs known (session_in z)) (sym prepare) o
        | inr decision ↦ subst (λ z. IsOurs known (session_in z)) (sym decision.1) o
      ]

  -- what is due has an encoding, and is read back
  due-fine : (t : List (Mark M)) (entry : Entry) → AllMade site me t → AllWithin site known me t → IsLocal t → due site.setup (view_at site me t).bench.pool ≡ Some entry → EntryFits version entry
  due-fine t entry made within l is =
      let pool = (view_at site me t).bench.pool in
      due_fits site.setup pool entry is (all-by (all_due site.setup pool) (λ action i. action-fits action (due-ours t action made within l (all-from site.setup pool action i)).0))

  pub due-read : (t : List (Mark M)) (entry : Entry) → AllMade site me t → AllWithin site known me t → IsLocal t → due site.setup (view_at site me t).bench.pool ≡ Some entry → site.entry_in (site.proposed_of entry) ≡ entry
  due-read t entry made within l is = ap site.entry_in (sound.proposes entry) ∙ sound.reads entry (due-fine t entry made within l is)

  -- the entries that a deed hands in
  pub by-deed : (t : List (Mark M)) (deed : Deed M) → AllMade site me t → AllWithin site known me t → IsLocal t → IsMade site me t (Ordered deed) → IsWithinKnown site known me (Ordered deed)
      → (p : Proposed) → IsIn p (entries_by site.machine deed) → IsListed version known p
  by-deed t (Took_in from m) made within l is in_known p i =
      let k = is.1 in
      let f = fine t (record { shard = (view_at site me t).me.shard; index = from }) k.said within k.heard in
      let r = in-map (proposed_of version) p (entries_in k.said) (subst (λ z. IsIn p z) (sound.carries.entries k.said m k.reads) i) in
      record { entry = r.0; fits = entries-fit version k.said f.fits r.0 r.1; is = r.2; sessions = λ a j. f.sessions (session_in a) (entry-sessions k.said r.0 r.1 a j); listed = f.entries r.0 r.1 }
  by-deed t (Advanced step sent) made within l is in_known p i = absurd i
  by-deed t (Echoed sent) made within l is in_known p i = absurd i
  by-deed t (Ticked on sent) made within l is in_known p i = absurd i
  by-deed t (Resent sent) made within l is in_known p i = absurd i
  by-deed t (Replied slot to sent) made within l is in_known p i = absurd i
  by-deed t (Cut slot) made within l is in_known p i = absurd i
  by-deed t (Proposing proposed sent) made within l is in_known p (inr none) = absurd none
  by-deed t (Proposing proposed sent) made within l is in_known p (inl same) =
      elim is.1 [
        | inl due ↦
            let read : site.entry_in proposed ≡ due.entry = ap site.entry_in due.is ∙ due-read t due.entry made within l due.due in
            record {
              entry = due.entry;
              fits = due-fine t due.entry made within l due.due;
              is = same ∙ due.is ∙ sound.proposes due.entry;
              sessions = λ action j. (due-ours t action made within l (due-from site.setup (view_at site me t).bench.pool due.entry due.due action j)).1;
              listed = subst (λ z. IsIn z known.entries) read (in_known (site.entry_in proposed) (inl refl));
            }
        | inr candidate ↦
            let may = ap site.machine.may_propose (sym (member-is site me t)) ∙ candidate.may in
            l.held p (subst (λ z. IsIn z (held_in site.machine (deeds_in t))) (sym same) (sound.holds.offered site.setup.f me.index (deeds_in t) (deeds-kept t made) candidate.candidates proposed may candidate.within))
      ]

  -- what was chosen was handed in, and read back
  pub chosen-listed : (t : List (Mark M)) (slot : ℕ) (p : Proposed) → AllMade site me t → IsLocal t → slice_get (chosen_in (view_at site me t).member.deeds) slot ≡ Some p → IsListed version known p
  chosen-listed t slot p made l chosen =
      let at = subst (λ (h : Member M). slice_get (chosen_in h.deeds) slot ≡ Some p) (member-is site me t) chosen in
      l.held p (sound.holds.logged site.setup.f me.index (deeds_in t) (deeds-kept t made) slot p at)

  -- what was executed is of a known entry
  pub record IsDone (action : Action) : Type 0 where
    pub fits : ActionFits action
    pub session : IsIn (session_in action) known.sessions
    pub entry : Entry
    pub listed : IsIn entry known.entries
    pub among : IsIn action entry.actions

  pub did-done : (t : List (Mark M)) (slot place : ℕ) (action : Action) (effect : Effect) → AllMade site me (Plain (Did slot place action effect) ∷ t) → IsLocal t → IsDone action
  did-done t slot place action effect made l =
      let p = chosen-listed t slot made.0.proposed made.1 l made.0.chosen in
      let same : site.entry_in made.0.proposed ≡ p.entry = ap site.entry_in p.is ∙ sound.reads p.entry p.fits in
      let within : IsIn action p.entry.actions =
      subst (λ (e : Entry). IsIn action e.actions) same (got-in (site.entry_in made.0.proposed).actions place action made.0.within) in
      record {
        fits = each-fits p.entry.actions (actions-fit version p.entry p.fits) action within;
        session = p.sessions action within;
        entry = p.entry;
        listed = p.listed;
        among = within;
      }

  pub local : (t : List (Mark M)) → AllMade site me t → AllWithin site known me t → IsLocal t
  local [] made within = record { held = λ p i. absurd i; voted = λ x h. absurd h }
  local (In input ∷ t) made within = let l = local t made.1 within.1 in record { held = l.held; voted = l.voted }
  local (Plain (Dropped cause) ∷ t) made within = let l = local t made.1 within.1 in record { held = l.held; voted = l.voted }
  local (Plain (Took sender vote x) ∷ t) made within = let l = local t made.1 within.1 in record { held = l.held; voted = l.voted }
  local (Plain (Entered x) ∷ t) made within = let l = local t made.1 within.1 in record { held = l.held; voted = l.voted }
  local (Plain (Viewed slot view) ∷ t) made within = let l = local t made.1 within.1 in record { held = l.held; voted = l.voted }
  local (Plain (Headed number head) ∷ t) made within = let l = local t made.1 within.1 in record { held = l.held; voted = l.voted }
  local (Plain (Kept index checkpoint) ∷ t) made within = let l = local t made.1 within.1 in record { held = l.held; voted = l.voted }
  local (Plain (Sent to said) ∷ t) made within = let l = local t made.1 within.1 in record { held = l.held; voted = l.voted }
  local (Plain (Did slot place entry effect) ∷ t) made within =
      let l = local t made.1 within.1 in
      let d = did-done t slot place entry effect made l in
      record {
        held = l.held;
        voted = λ x h. elim h [
          | inl now ↦ subst (λ z. IsOurs known (session_in z)) now.0 (session-fits entry d.fits, d.session)
          | inr before ↦ l.voted x before
        ];
      }
  local (Ordered deed ∷ t) made within =
      let l = local t made.1 within.1 in
      record {
        held = λ p i. elim (order-either p (entries_by site.machine deed) (held_in site.machine (deeds_in t)) i) [
          | inl now ↦ by-deed t deed made.1 within.1 l made.0 within.0 p now
          | inr before ↦ l.held p before
        ];
        voted = l.voted;
      }

  -- a session of the pool is known
  pub pooled-known : (t : List (Mark M)) (e : Place) → AllMade site me t → AllWithin site known me t → IsIn e (view_at site me t).bench.pool → IsOurs known e.1.session
  pooled-known t e made within i = pooled-ours t e made within (local t made within) i
