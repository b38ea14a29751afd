-- What a node was given, proposes, executes and says to nodes has an encoding.
use Rattle.std.proofs.Common.{◌≡◌, ◌⊎◌, inl, inr, ℕ, ◌≤◌, ◌<◌, ◌^◌, true, false, List, [], ◌∷◌, ◌++◌, map, length, refl, sym, ap, ◌∙◌, subst, arith}
use Rattle.std.specs.Prelude.{Ok, Err}
use Rattle.std.specs.List.{AllByRecursion}
use Rattle.cs_base.specs.Fields.{IsBytes}
use Rattle.cs_base.specs.declared.config.Config.{Config}
use Rattle.cs_base.specs.declared.node_id.NodeId.{NodeId}
use Rattle.cs_base.specs.NodeId.{is_client}
use Rattle.cs_base.specs.Version.{version_of}
use Rattle.cs_tx_value.specs.declared.object.Object.{Object}
use Rattle.cs_tx_types.specs.declared.session.Session.{Session}
use Rattle.cs_tx_types.specs.declared.action.Action.{Action}
use Rattle.cs_tx_types.specs.declared.entry.Entry.{Entry}
use Rattle.cs_tx_types.specs.declared.action.Action.TheVariants.{Prepare, Decide}
use Rattle.cs_tx_types.specs.Session.{SessionFits, ActionFits, session_in}
use Rattle.cs_tx_types.specs.Entry.{EntryFits}
use Rattle.cs_wire_message.specs.declared.message.Message.{Message}
use Rattle.cs_wire_message.specs.declared.message.Message.TheVariants as message
use Rattle.cs_base.specs.declared.version.Version.{Version}
use Rattle.cs_wire_message.specs.Message.{body_of, MessageFits}
use Rattle.cs_wire_message.proofs.Short.{body_short}
use Rattle.cs_wire.specs.Opened.{Opened, keys_of_master}
use Rattle.cs_order.specs.declared.proposed.Proposed.{Proposed}
use Rattle.cs_order.specs.declared.answers.May.TheVariants.{Only}
use Rattle.cs_base.specs.Lists.{IsIn}
use Rattle.cs_order.specs.Deeds.{Deed, Took_in, Advanced, Echoed, Proposing, Ticked, Resent, Replied, Cut, Member, Machine}
use Rattle.cs_order.specs.Runs.{KeepsRules, AllKeepRules, held_in}
use Rattle.cs_order.specs.Law.{Holds}
use Rattle.cs_ledger.specs.Ledger.{Bytes}
use Rattle.cs_ledger.specs.Session as Seen
use Rattle.cs_ledger.proofs.Basics.{in_either}
use Rattle.cs_node_rules.specs.Net.{net_of}
use Rattle.cs_node_rules.specs.Signs.{Dropped, Took, Entered, Viewed, Did, Headed, Kept, Sent}
use Rattle.cs_node_rules.specs.Site.{Input, Datagram, Tick, Mark, In, Ordered, Plain, Carriers, Site, signs_of}
use Rattle.cs_node_rules.specs.Collisions.{sessions_in, entries_in, in_opened, given}
use Rattle.cs_node_rules.specs.Carrying.{IsEntry, Carries, AllCarry}
use Rattle.cs_node_rules.specs.Deployment.{proposed_of, site_of}
use Rattle.cs_node_state.specs.Deployed.{setup_of}
use Rattle.cs_node_state.specs.Admission.{all_due}
use Rattle.cs_node_state.specs.laws.Due.{due_fits}
use Rattle.cs_node_rules.proofs.Entries.{actions-fit, in-fits}
use Rattle.cs_node_law.specs.Made.{view_at, HasVotedOn, IsTaken, IsDue, IsCandidate, NodeExecutes, HasDigests, IsHanded, SaidMade, AllMade, ReadsProper, InputFits}
use Rattle.cs_node_law.specs.Given.{InputIsBytes}
use Rattle.cs_node_law.proofs.Views.{member-is}
use Rattle.cs_node_law.proofs.NoIns.{inputs_in}
use Rattle.cs_node_law.proofs.Pools.{heard-given, pool-sourced}
use Rattle.cs_node_law.proofs.Actions.{got-in}
use Rattle.cs_node_law.proofs.Due.{all-from}
use Rattle.cs_node_law.proofs.Speaking.{opened-fits}
use Rattle.cs_wire_message.proofs.Spelled.{bytes-want, bytes-body}
use Rattle.cs_tx_types.specs.declared.checkpoint.Checkpoint.{Checkpoint}
use Rattle.cs_node_law.proofs.Heads.{bytes-head, length-head}

-- ---- what stands in messages

pub session-fits : (entry : Action) → ActionFits entry → SessionFits (session_in entry)
session-fits (Prepare x) fits = fits
session-fits (Decide vote x) fits = fits

pub action-fits : (action : Action) → SessionFits (session_in action) → ActionFits action
action-fits (Prepare x) fits = fits
action-fits (Decide vote x) fits = fits

-- the sessions of actions, and the actions
in-actions : (actions : List Action) → AllByRecursion ActionFits actions → (x : Session) → IsIn x (map session_in actions) → SessionFits x
in-actions [] fits x i = absurd i
in-actions (action ∷ more) fits x (inl e) = subst SessionFits (sym e) (session-fits action fits.0)
in-actions (action ∷ more) fits x (inr i) = in-actions more fits.1 x i

pub each-fits : (actions : List Action) → AllByRecursion ActionFits actions → (action : Action) → IsIn action actions → ActionFits action
each-fits [] fits action i = absurd i
each-fits (one ∷ more) fits action (inl e) = subst ActionFits (sym e) fits.0
each-fits (one ∷ more) fits action (inr i) = each-fits more fits.1 action i

pub all-by : (actions : List Action) → ((action : Action) → IsIn action actions → ActionFits action) → AllByRecursion ActionFits actions
all-by [] each = tt
all-by (one ∷ more) each = (each one (inl refl), all-by more (λ action i. each action (inr i)))

pub sessions-fit : (version : Version) (said : Message) → MessageFits version said → (x : Session) → IsIn x (sessions_in said) → SessionFits x
sessions-fit version (message.Submit y) fits x (inl e) = subst SessionFits (sym e) fits
sessions-fit version (message.Submit y) fits x (inr none) = absurd none
sessions-fit version (message.Propose slot view entry) fits x i = in-actions entry.actions (actions-fit version entry fits.1.1) x i
sessions-fit version (message.Voted vote asks y) fits x (inl e) = subst SessionFits (sym e) fits
sessions-fit version (message.Voted vote asks y) fits x (inr none) = absurd none
sessions-fit version (message.Done slot entry) fits x i = in-actions entry.actions (actions-fit version entry fits.1) x i
sessions-fit version said fits x i = absurd i

pub entries-fit : (version : Version) (said : Message) → MessageFits version said → (entry : Entry) → IsIn entry (entries_in said) → EntryFits version entry
entries-fit version (message.Propose slot view other) fits entry (inl e) = subst (λ (w : Entry). EntryFits version w) (sym e) fits.1.1
entries-fit version (message.Propose slot view other) fits entry (inr none) = absurd none
entries-fit version (message.Done slot other) fits entry (inl e) = subst (λ (w : Entry). EntryFits version w) (sym e) fits.1
entries-fit version (message.Done slot other) fits entry (inr none) = absurd none
entries-fit version said fits entry i = absurd i

-- an entry of a message, as it is proposed
written-entry : (version : Version) (entries : List Entry) (p : Proposed) → IsIn p (map (proposed_of version) entries) → (entry : Entry) × (IsIn entry entries) × (p ≡ proposed_of version entry)
written-entry version [] p i = absurd i
written-entry version (entry ∷ entries) p (inl e) = (entry, inl refl, e)
written-entry version (entry ∷ entries) p (inr i) = let r = written-entry version entries p i in (r.0, inr r.1, r.2)

held-either : {M : Type 0} (machine : Machine M) (p : Proposed) (a b : List Proposed) → IsIn p (a ++ b) → IsIn p a ⊎ IsIn p b
held-either machine p [] b i = inr i
held-either machine p (x ∷ a) b (inl e) = inl (inl e)
held-either machine p (x ∷ a) b (inr i) = elim (held-either machine p a b i) [ inl here ↦ inl (inr here) | inr there ↦ inr there ]

-- ---- what a node was given

-- all that the node was given is made of bytes
abbrev pub AllBytes : {M : Type 0} → List (Mark M) → Type 0
AllBytes {M} t = (input : Input) → IsIn input (inputs_in t) → InputIsBytes input

abbrev pub deployment : {M : Type 0} → Machine M → Carriers M → Config → Bytes → List NodeId → List Object → (Session → Seen.Session) → Site M
deployment {M} machine carrier config master liars genesis session_of = site_of (setup_of config genesis session_of) (net_of config master liars) machine carrier

module _ {M : Type 0} (machine : Machine M) (carrier : Carriers M) (config : Config) (master : Bytes) (liars : List NodeId) (genesis : List Object) (session_of : Session → Seen.Session) where
  abbrev At : Site M
  At = deployment machine carrier config master liars genesis session_of

  abbrev edition : Version
  edition = version_of config.version

  pub input-fits : (me : NodeId) (input : Input) → InputIsBytes input → InputFits At me input
  input-fits me (Datagram bytes) fits = λ sender said e. opened-fits (keys_of_master config master me) bytes (sender, said) fits e
  input-fits me Tick fits = tt

  -- what stood in the inputs fits
  module _ {A : Type 0} (those : Message → List A) (Fits : A → Type 0) (each : (said : Message) → MessageFits edition said → (a : A) → IsIn a (those said) → Fits a) (me : NodeId) where
    opened-in : (o : Opened) (a : A) → ((sender : NodeId) (said : Message) → o ≡ Ok (sender, said) → MessageFits edition said) → IsIn a (in_opened those o) → Fits a
    opened-in (Ok said) a fits i = each said.1 (fits said.0 said.1 refl) a i
    opened-in (Err error) a fits i = absurd i

    pub given-fits : (t : List (Mark M)) → AllBytes t → (a : A) → IsIn a (given At those me t) → Fits a
    given-fits [] bytes a i = absurd i
    given-fits (In (Datagram text) ∷ t) bytes a i =
        elim (in_either a (in_opened those (At.net.opened me text)) (given At those me t) i) [
          | inl here ↦ opened-in (At.net.opened me text) a (input-fits me (Datagram text) (bytes (Datagram text) (inl refl))) here
          | inr there ↦ given-fits t (λ input j. bytes input (inr j)) a there
        ]
    given-fits (In Tick ∷ t) bytes a i = given-fits t (λ input j. bytes input (inr j)) a i
    given-fits (Ordered deed ∷ t) bytes a i = given-fits t bytes a i
    given-fits (Plain sign ∷ t) bytes a i = given-fits t bytes a i

  module _ (carries : AllCarry machine carrier) where
    abbrev carried : Carries edition machine (carrier edition)
    carried = carries edition

    pub reads-proper : ReadsProper At
    reads-proper = record { messages = λ said m fits reads. carried.proper said m fits reads; entries = λ p. in-fits edition p }

    module _ (holds : Holds machine) (me : NodeId) where
      abbrev Deeds : List (Mark M) → List (Deed M)
      Deeds t = (view_at At me t).member.deeds

      -- the deeds of a node keep the order's rules
      pub kept : (t : List (Mark M)) → AllMade At me t → AllKeepRules machine config.f me.index (Deeds t)
      kept [] made = tt
      kept (In input ∷ t) made = kept t made.1
      kept (Plain sign ∷ t) made = kept t made.1
      kept (Ordered deed ∷ t) made = (subst (λ (h : Member M). KeepsRules machine h deed) (member-is At me t) made.0.0, kept t made.1)

      -- each entry that was handed in has an encoding; so has each session that was voted on
      pub record AllFit (t : List (Mark M)) : Type 0 where
        pub held : (p : Proposed) → IsIn p (held_in machine (Deeds t)) → IsEntry edition p
        pub voted : (x : Session) → HasVotedOn x (signs_of t) → SessionFits x

      module _ (t : List (Mark M)) (made : AllMade At me t) (bytes : AllBytes t) (fit : AllFit t) where
        pub known-fits : (x : Session) → IsIn x (given At sessions_in (view_at At me t).me t) ⊎ HasVotedOn x (signs_of t) → SessionFits x
        known-fits x (inl i) = given-fits sessions_in SessionFits (sessions-fit edition) (view_at At me t).me t bytes x i
        known-fits x (inr h) = fit.voted x h

        pub pool-fits : (e : _) → IsIn e (view_at At me t).bench.pool → SessionFits e.1.session
        pool-fits e i =
            elim (pool-sourced At me t made e i).source [
              | inl new ↦ known-fits e.1.session (inl new.1)
              | inr voted ↦ known-fits e.1.session (inr voted)
            ]

        taken-fits : (from : ℕ) (m : M) → IsTaken At (view_at At me t) t from m → (p : Proposed) → IsIn p (machine.carried m) → IsEntry edition p
        taken-fits from m taken p i =
            let w = written-entry edition (entries_in taken.said) p (subst (λ (ps : List Proposed). IsIn p ps) (carried.entries taken.said m taken.reads) i) in
            record {
              entry = w.0;
              fits = given-fits entries_in (EntryFits edition) (entries-fit edition) (view_at At me t).me t bytes w.0 (heard-given At entries_in me t _ taken.said w.0 taken.heard w.1);
              is = w.2;
            }

        -- each action that may be due
        could-fit : (action : Action) → IsIn action (all_due At.setup (view_at At me t).bench.pool) → ActionFits action
        could-fit action i =
            let from = all-from At.setup (view_at At me t).bench.pool action i in
            action-fits action
            (elim from.2 [
              | inl prepare ↦ subst (λ (e : Action). SessionFits (session_in e)) (sym prepare) (pool-fits from.0 from.1)
              | inr decide ↦ subst (λ (e : Action). SessionFits (session_in e)) (sym decide.1) (pool-fits from.0 from.1)
            ])

        due-fits : (p : Proposed) → IsDue At (view_at At me t) p → IsEntry edition p
        due-fits p due =
            let pool = (view_at At me t).bench.pool in
            record { entry = due.entry; fits = due_fits At.setup pool due.entry due.due (all-by (all_due At.setup pool) could-fit); is = due.is }

        candidate-fits : (p : Proposed) → IsCandidate At (view_at At me t) p → IsEntry edition p
        candidate-fits p c =
            let may = subst (λ (h : Member M). machine.may_propose h ≡ Only c.candidates) (member-is At me t) c.may in
            fit.held p (holds.offered config.f me.index (Deeds t) (kept t made) c.candidates p may c.within)

        proposed-fits : (p : Proposed) → IsDue At (view_at At me t) p ⊎ IsCandidate At (view_at At me t) p → IsEntry edition p
        proposed-fits p (inl due) = due-fits p due
        proposed-fits p (inr candidate) = candidate-fits p candidate

        pub done-fits : (slot place : ℕ) (action : Action) (effect : _) → NodeExecutes At (view_at At me t) (signs_of t) slot place action effect → ActionFits action
        done-fits slot place action effect e =
            each-fits (At.entry_in e.proposed).actions (actions-fit edition (At.entry_in e.proposed) (in-fits edition e.proposed)) action
            (got-in (At.entry_in e.proposed).actions place action e.within)

      -- the deeds that hand nothing in
      pub all-fit : (t : List (Mark M)) → AllMade At me t → AllBytes t → AllFit t
      all-fit [] made bytes = record { held = λ p i. absurd i; voted = λ x h. absurd h }
      all-fit (In input ∷ t) made bytes = let f = all-fit t made.1 (λ i j. bytes i (inr j)) in record { held = f.held; voted = f.voted }
      all-fit (Ordered (Took_in from m) ∷ t) made bytes =
          let f = all-fit t made.1 bytes in
          record {
            held = λ p i. elim (held-either machine p (machine.carried m) (held_in machine (Deeds t)) i) [ inl new ↦ taken-fits t made.1 bytes f from m made.0.1 p new | inr old ↦ f.held p old ];
            voted = f.voted;
          }
      all-fit (Ordered (Proposing proposed sent) ∷ t) made bytes =
          let f = all-fit t made.1 bytes in
          record {
            held = λ p i. elim i [ inl is ↦ subst (IsEntry edition) (sym is) (proposed-fits t made.1 bytes f proposed made.0.1) | inr old ↦ f.held p old ];
            voted = f.voted;
          }
      all-fit (Ordered (Advanced step sent) ∷ t) made bytes = let f = all-fit t made.1 bytes in record { held = f.held; voted = f.voted }
      all-fit (Ordered (Echoed sent) ∷ t) made bytes = let f = all-fit t made.1 bytes in record { held = f.held; voted = f.voted }
      all-fit (Ordered (Ticked on sent) ∷ t) made bytes = let f = all-fit t made.1 bytes in record { held = f.held; voted = f.voted }
      all-fit (Ordered (Resent sent) ∷ t) made bytes = let f = all-fit t made.1 bytes in record { held = f.held; voted = f.voted }
      all-fit (Ordered (Replied slot to sent) ∷ t) made bytes = let f = all-fit t made.1 bytes in record { held = f.held; voted = f.voted }
      all-fit (Ordered (Cut slot) ∷ t) made bytes = let f = all-fit t made.1 bytes in record { held = f.held; voted = f.voted }
      all-fit (Plain (Dropped cause) ∷ t) made bytes = let f = all-fit t made.1 bytes in record { held = f.held; voted = f.voted }
      all-fit (Plain (Took sender vote x) ∷ t) made bytes = let f = all-fit t made.1 bytes in record { held = f.held; voted = f.voted }
      all-fit (Plain (Entered x) ∷ t) made bytes = let f = all-fit t made.1 bytes in record { held = f.held; voted = f.voted }
      all-fit (Plain (Viewed slot view) ∷ t) made bytes = let f = all-fit t made.1 bytes in record { held = f.held; voted = f.voted }
      all-fit (Plain (Headed number head) ∷ t) made bytes = let f = all-fit t made.1 bytes in record { held = f.held; voted = f.voted }
      all-fit (Plain (Kept index checkpoint) ∷ t) made bytes = let f = all-fit t made.1 bytes in record { held = f.held; voted = f.voted }
      all-fit (Plain (Sent to said) ∷ t) made bytes = let f = all-fit t made.1 bytes in record { held = f.held; voted = f.voted }
      all-fit (Plain (Did slot place entry effect) ∷ t) made bytes =
          let f = all-fit t made.1 bytes in
          record {
            held = f.held;
            voted = λ x h. elim h [
              | inl now ↦ subst (λ (e : Action). SessionFits (session_in e)) now.0 (session-fits entry (done-fits t made.1 bytes f slot place entry effect made.0))
              | inr old ↦ f.voted x old
            ];
          }

      -- ---- what it sends

      handed-fits : (said : Message) (to : ℕ) (deeds : List (Deed M)) → IsHanded At to said deeds → MessageFits edition said
      handed-fits said to [] h = absurd h
      handed-fits said to (deed ∷ deeds) (inl h) = subst (MessageFits edition) h.1.1 (carried.fits h.0)
      handed-fits said to (deed ∷ deeds) (inr h) = handed-fits said to deeds h

      -- it is within the limits, or asks for a slot, or tells a checkpoint
      abbrev pub IsSpoken : Message → Type 0
      IsSpoken said =
          MessageFits edition said
          ⊎ (((slot : ℕ) × (said ≡ message.Want slot)) ⊎ ((c : Checkpoint) × (said ≡ message.Head c) × HasDigests c))

      no-client : (to : NodeId) → is_client to ≡ false → is_client to ≡ true → ⊥
      no-client to node client = let q : false ≡ true = sym node ∙ client in cc

      module _ (t : List (Mark M)) (bytes : AllBytes t) (to : NodeId) (node : is_client to ≡ false) where
        said-fits : AllMade At me t → (said : Message) → SaidMade At (view_at At me t) t to said → IsSpoken said
        said-fits made (message.Voted vote asks x) h = inl (known-fits t made bytes (all-fit t made bytes) x h.1)
        said-fits made (message.Want slot) h = inr (inl (slot, refl))
        said-fits made (message.Head checkpoint) h = inr (inr (checkpoint, refl, h))
        said-fits made said h = absurd (no-client to node h.0)

        pub sent-fits : (said : Message) → AllMade At me (Plain (Sent to said) ∷ t) → IsSpoken said
        sent-fits said made =
            elim made.0 [
              | inl handed ↦ inl (handed-fits said to.index (Deeds t) handed.1)
              | inr own ↦ said-fits made.1 said own
            ]

-- what is spoken so is made of bytes, and short
pub spoken-bytes : (version : Version) (said : Message)
    → MessageFits version said ⊎ (((slot : ℕ) × (said ≡ message.Want slot)) ⊎ ((c : Checkpoint) × (said ≡ message.Head c) × HasDigests c))
    → IsBytes (body_of version said) × (length (body_of version said) < 2 ^ 32)
spoken-bytes version said (inl fits) = (bytes-body version said fits, short (length (body_of version said)) (body_short version said fits))
  where
    short : (n : ℕ) → n ≤ 32719 → n < 2 ^ 32
    short n a = omega arith
spoken-bytes version said (inr (inl want)) =
    subst (λ (m : Message). IsBytes (body_of version m) × (length (body_of version m) < 2 ^ 32)) (sym want.1) (bytes-want version want.0, omega arith)
spoken-bytes version said (inr (inr head)) =
    subst (λ (m : Message). IsBytes (body_of version m) × (length (body_of version m) < 2 ^ 32)) (sym head.1)
    (bytes-head version head.0 head.2, omega (arith, length-head version head.0 head.2))
