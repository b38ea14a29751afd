-- What an honest node tells a client of a session is how the session stood in its table, so it is what the shards decided.
use Rattle.std.proofs.Common.{◌≡◌, inl, inr, ℕ, Bool, true, false, if◌then◌else◌, List, [], ◌∷◌, ◌++◌, Option, Some, None, length, sym, ◌∙◌, ap, subst, refl, append_assoc}
use Rattle.std.proofs.lemmas.Bool.{and_parts, or_right}
use Rattle.cs_base.specs.declared.node_id.NodeId.{NodeId}
use Rattle.cs_tx_types.specs.declared.session.Session.{Session}
use Rattle.cs_tx_types.specs.declared.action.Action.{Action}
use Rattle.cs_wire_message.specs.declared.message.Message.TheVariants as message
use Rattle.cs_order.specs.declared.proposed.Proposed.{Proposed}
use Rattle.cs_order.specs.Deeds.{Member}
use Rattle.cs_base.specs.Lists.{IsIn}
use Rattle.cs_order.specs.Runs.{held_in}
use Rattle.cs_ledger.specs.Ledger.{Bytes}
use Rattle.cs_ledger.specs.Session as Seen
use Rattle.cs_ledger.specs.Session.{Key, anchor}
use Rattle.cs_ledger.specs.Table as Shard
use Rattle.cs_ledger.specs.Table.{Effect, Accepted, Aborted, Table, exec, table_of}
use Rattle.cs_ledger.specs.Standing.{stands_accepted, stands_aborted}
use Rattle.cs_ledger.specs.ShardWorld.{Step, log, sessions, sessions_of, decided_in}
use Rattle.cs_ledger.proofs.Alone.{lost_alone}
use Rattle.cs_ledger.proofs.Votes.{log_at}
use Rattle.cs_node_state.specs.Setup.{Setup, digest_of, is_concerned_shard, entry_of}
use Rattle.cs_node_state.specs.Bench.{decision_on, decided_by, decided_at}
use Rattle.cs_node_rules.specs.Carrying.{IsEntry}
use Rattle.cs_node_rules.specs.Signs.{Dropped, Took, Entered, Viewed, Did, Headed, Kept, Sent}
use Rattle.cs_node_rules.specs.Site.{Mark, In, Ordered, Plain, Site, signs_of}
use Rattle.cs_node_rules.specs.World.{steps_of}
use Rattle.cs_node_law.specs.Made.{view_at, IsHanded, StoodDecided, SignMade, AllMade}
use Rattle.cs_node_law.proofs.Views.{me-same}
use Rattle.cs_node_law.proofs.Logs.{seen, seen_log, table-is}
use Rattle.cs_node_law.proofs.Silent.{stood-by}
use Rattle.cs_world_law.specs.Worlds.{is_honest}
use Rattle.cs_world_law.specs.Chain.{Moment, trail_at, Known, Story, IsSoundSite, story_firsts, shard_entries}
use Rattle.cs_world_law.proofs.Deeds.{deeds_in, member-is}
use Rattle.cs_world_law.proofs.Trails.{AllWithin, made-all, within-all}
use Rattle.cs_world_law.proofs.Local.{local, deeds-kept, given-ours}
use Rattle.cs_world_law.proofs.Runs.{handed-is}
use Rattle.cs_world_law.proofs.Lawful.{AreLawful}
use Rattle.cs_world_law.proofs.Older.{older}
use Rattle.cs_world_law.proofs.Firsts.{own_log, log-seen, are-first}
use Rattle.cs_world_law.proofs.Standing.{accepted-log}

-- ---- what a node told clients

module _ {M : Type 0} (site : Site M) (sound : IsSoundSite site) (known : Known) (me to : NodeId) (d : Bytes) (accepted : Bool) where
  -- the order hands out no word to clients
  not-handed : {A : Type 0} (t : List (Mark M)) → AllMade site me t → AllWithin site known me t → IsHanded site to.index (message.Decided d accepted) (deeds_in t) → A
  not-handed t made within h =
      let l = local site sound known me t made within in
      let entries = λ (p : Proposed) (j : IsIn p (held_in site.machine (deeds_in t))). let k = l.held p j in let e : IsEntry site.setup.version p = record { entry = k.entry; fits = k.fits; is = k.is } in e in
      let o = handed-is site sound me.index to.index (message.Decided d accepted) (deeds_in t) (deeds-kept site sound known me t made) entries h in
      absurd (let q : false ≡ true = o.ordering in cc)

  stood-of : (t : List (Mark M)) → AllMade site me t → AllWithin site known me t → IsIn (Sent to (message.Decided d accepted)) (signs_of t) → StoodDecided site me t d accepted
  stood-of [] made within i = absurd i
  stood-of (In input ∷ t) made within i = stood-by site me d accepted (In input) t (stood-of t made.1 within.1 i)
  stood-of (Ordered deed ∷ t) made within i = stood-by site me d accepted (Ordered deed) t (stood-of t made.1 within.1 i)
  stood-of (Plain sign ∷ t) made within (inr before) = stood-by site me d accepted (Plain sign) t (stood-of t made.1 within.1 before)
  stood-of (Plain sign ∷ t) made within (inl now) =
      let v = view_at site me t in
      let s : SignMade site v t (Sent to (message.Decided d accepted)) = subst (λ z. SignMade site v t z) (sym now) made.0 in
      elim s [
        | inl h ↦ not-handed t made.1 within.1 (subst (λ (g : Member M). IsHanded site to.index (message.Decided d accepted) g.deeds) (member-is site me t) h.1)
        | inr w ↦ stood-by site me d accepted (Plain sign) t (subst (λ (n : NodeId). StoodDecided site n t d accepted) (me-same site me t) w.1)
      ]

-- ---- how a session stands in the table of a log

said-accepted : (a b : Bool) → (if a then Some true else if b then Some false else None) ≡ Some true → a ≡ true
said-accepted true b h = refl
said-accepted false true h = cc
said-accepted false false h = cc

said-aborted : (a b : Bool) → (if a then Some true else if b then Some false else None) ≡ Some false → b ≡ true
said-aborted true b h = cc
said-aborted false true h = refl
said-aborted false false h = cc

-- the anchor of a decided session, and what its record says
pub record IsAnchored (setup : Setup) (shard : ℕ) (t : Table) (x : Session) (accepted : Bool) : Type 0 where
  pub key : Key
  pub is : anchor setup.rules (setup.session_of x) shard ≡ Some key
  pub says : decided_by (t.at key) (digest_of setup x) ≡ Some accepted

anchored : (setup : Setup) (shard : ℕ) (t : Table) (x : Session) (accepted : Bool) → decision_on setup shard t x ≡ Some accepted → IsAnchored setup shard t x accepted
anchored setup shard t x accepted h = by (anchor setup.rules (setup.session_of x) shard) refl h
  where
    by : (o : Option Key) → anchor setup.rules (setup.session_of x) shard ≡ o → decided_at t (digest_of setup x) o ≡ Some accepted → IsAnchored setup shard t x accepted
    by None is h = cc
    by (Some key) is h = record { key = key; is = is; says = h }

-- ---- logs

abbrev Front : {M : Type 0} → Site M → List (Mark M) → List (Mark M) → Type 0
Front {M} site t earlier = (front : List Shard.Entry) × (seen_log site t ≡ front ++ seen_log site earlier)

log-front : {M : Type 0} (site : Site M) (later earlier : List (Mark M)) → Front site (later ++ earlier) earlier
log-front {M} site [] earlier = ([], refl)
log-front {M} site (In input ∷ later) earlier = log-front site later earlier
log-front {M} site (Ordered deed ∷ later) earlier = log-front site later earlier
log-front {M} site (Plain (Dropped cause) ∷ later) earlier = log-front site later earlier
log-front {M} site (Plain (Took sender vote x) ∷ later) earlier = log-front site later earlier
log-front {M} site (Plain (Entered x) ∷ later) earlier = log-front site later earlier
log-front {M} site (Plain (Viewed slot view) ∷ later) earlier = log-front site later earlier
log-front {M} site (Plain (Headed number head) ∷ later) earlier = log-front site later earlier
log-front {M} site (Plain (Kept index checkpoint) ∷ later) earlier = log-front site later earlier
log-front {M} site (Plain (Sent other said) ∷ later) earlier = log-front site later earlier
log-front {M} site (Plain (Did slot place entry effect) ∷ later) earlier =
    let f = log-front site later earlier in
    (entry_of site.setup entry ∷ f.0, ap (λ l. entry_of site.setup entry ∷ l) f.1)

older-front : (setup : Setup) (n : ℕ) (entries : List Action) → (front : List Shard.Entry) × (seen setup entries ≡ front ++ seen setup (older n entries))
older-front setup n [] = ([], refl)
older-front setup n (e ∷ entries) = by _ (older-front setup n entries)
  where
    by : (b : Bool) → (front : List Shard.Entry) × (seen setup entries ≡ front ++ seen setup (older n entries))
        → (front : List Shard.Entry) × (seen setup (e ∷ entries) ≡ front ++ seen setup (if b then older n entries else e ∷ entries))
    by true f = (entry_of setup e ∷ f.0, ap (λ l. entry_of setup e ∷ l) f.1)
    by false f = ([], refl)

decided-front : (rules : Seen.Rules) (shard : ℕ) (d : Bytes) (effect : Effect) (front earlier : List Shard.Entry) → decided_in rules shard d effect earlier ≡ true → decided_in rules shard d effect (front ++ earlier) ≡ true
decided-front rules shard d effect [] earlier h = h
decided-front rules shard d effect (entry ∷ front) earlier h = or_right _ _ (decided-front rules shard d effect front earlier h)

-- the sessions of a log are among those of the steps
pub log-sessions : (shard : ℕ) (past : List Step) (x : Seen.Session) → IsIn x (sessions_of (log shard past)) → IsIn x (sessions past)
log-sessions shard [] x i = absurd i
log-sessions shard (step ∷ past) x i =
    log_at (λ l. IsIn x (sessions_of l) → IsIn x (sessions (step ∷ past))) shard step past
    (λ at j. elim j [ inl here ↦ inl here | inr before ↦ inr (log-sessions shard past x before) ])
    (λ j. inr (log-sessions shard past x j))
    i

-- ---- in a story

module _ {M : Type 0} (site : Site M) (sound : IsSoundSite site) (known : Known) (lawful : AreLawful site known) (story : List (Moment M)) (story_is : Story site known story) (i : NodeId) (honest : is_honest site i ≡ true) where
  abbrev Log : List Shard.Entry
  Log = log i.shard (steps_of site.setup (story_firsts story))

  abbrev Marks : List (Mark M)
  Marks = trail_at i story

  -- the log of the shard is that of the node before, with what came later
  log-over : (earlier later : List (Mark M)) → Marks ≡ later ++ earlier → (front : List Shard.Entry) × (Log ≡ front ++ seen_log site earlier)
  log-over earlier later split =
      let f = (are-first site sound known lawful i.shard story story_is).older i honest refl in
      let a = older-front site.setup (length (own_log i story)) (shard_entries i.shard (story_firsts story)) in
      let b = log-front site later earlier in
      let own : seen site.setup (older (length (own_log i story)) (shard_entries i.shard (story_firsts story))) ≡ b.0 ++ seen_log site earlier =
      ap (λ l. seen site.setup l) (sym f.is) ∙ ap (λ t. seen_log site t) split ∙ b.1 in
      (a.0 ++ b.0, log-seen site.setup i.shard (story_firsts story) ∙ a.1 ∙ ap (λ l. a.0 ++ l) own ∙ sym (append_assoc a.0 b.0 (seen_log site earlier)))

  -- a session of which a client was told, with its anchor in the log of the shard
  pub record IsTold (d : Bytes) (accepted : Bool) : Type 0 where
    pub session : Session
    pub digest_is : d ≡ digest_of site.setup session
    pub known_is : IsIn session known.sessions
    pub concerned : is_concerned_shard site.setup session i.shard ≡ true
    pub front : List Shard.Entry
    pub before : List Shard.Entry
    pub log_is : Log ≡ front ++ before
    pub anchored : IsAnchored site.setup i.shard (table_of site.setup.rules i.shard before) session accepted

  pub told : (to : NodeId) (d : Bytes) (accepted : Bool) → IsIn (Sent to (message.Decided d accepted)) (signs_of Marks) → IsTold d accepted
  told to d accepted sent =
      let made = made-all site known i story story_is in
      let within = within-all site known i story story_is in
      let s = stood-of site sound known i to d accepted Marks made within sent in
      let over = log-over s.earlier s.later s.split in
      let table = table-is site i s.earlier ∙ ap (λ (n : NodeId). table_of site.setup.rules n.shard (seen_log site s.earlier)) (me-same site i s.earlier) in
      record {
        session = s.session;
        digest_is = s.digest_is;
        known_is = (given-ours site sound known i Marks s.session within s.known).1;
        concerned = (and_parts _ (is_concerned_shard site.setup s.session i.shard) s.fit).1;
        front = over.0;
        before = seen_log site s.earlier;
        log_is = over.1;
        anchored = anchored site.setup i.shard _ s.session accepted (subst (λ (t : Table). decision_on site.setup i.shard t s.session ≡ Some accepted) table s.stood);
      }

  -- it was accepted in the log of the shard
  pub told-accepted : (d : Bytes) (t : IsTold d true) → decided_in site.setup.rules i.shard (digest_of site.setup t.session) Accepted Log ≡ true
  told-accepted d t =
      let digest = digest_of site.setup t.session in
      let r = (table_of site.setup.rules i.shard t.before).at t.anchored.key in
      let stands = said-accepted (stands_accepted r digest) (stands_aborted r digest) t.anchored.says in
      let before = accepted-log site.setup.rules i.shard digest t.anchored.key t.before stands in
      ap (λ l. decided_in site.setup.rules i.shard digest Accepted l) t.log_is ∙ decided-front site.setup.rules i.shard digest Accepted t.front t.before before

  -- it stands aborted in the table of the log of the shard
  pub told-aborted : (d : Bytes) (t : IsTold d false) (all : List Seen.Session) → Seen.AreToldApart all → IsIn (site.setup.session_of t.session) all → ((z : Seen.Session) → IsIn z (sessions_of Log) → IsIn z all)
      → stands_aborted ((table_of site.setup.rules i.shard Log).at t.anchored.key) (digest_of site.setup t.session) ≡ true
  told-aborted d t all unique knows within =
      let digest = digest_of site.setup t.session in
      let r = (table_of site.setup.rules i.shard t.before).at t.anchored.key in
      let stands = said-aborted (stands_accepted r digest) (stands_aborted r digest) t.anchored.says in
      let whole = lost_alone site.setup.rules i.shard all unique (site.setup.session_of t.session) knows t.anchored.key t.anchored.is t.front t.before (subst (λ l. (z : Seen.Session) → IsIn z (sessions_of l) → IsIn z all) t.log_is within) stands in
      subst (λ l. stands_aborted ((table_of site.setup.rules i.shard l).at t.anchored.key) digest ≡ true) (sym t.log_is) whole
