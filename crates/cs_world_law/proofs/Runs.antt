-- The deeds of a shard's honest nodes are a run of its order.
use Rattle.std.proofs.Common.{◌≡◌, ◌⊎◌, inl, inr, ℕ, ◌==◌, ◌<◌, Bool, true, false, if◌then◌else◌, List, [], ◌∷◌, Some, sym, ◌∙◌, ap, subst, refl}
use Rattle.std.specs.Prelude.{Ok}
use Rattle.std.proofs.lemmas.Bool.{cond_both, both_ways, or_right, eqb-true}
use Rattle.sha2.proofs.Facts256.{length-sha256}
use Rattle.cs_tx.specs.Votes.{vote_of}
use Rattle.cs_base.specs.declared.node_id.NodeId.{NodeId}
use Rattle.cs_base.specs.NodeId.{is_client}
use Rattle.cs_tx_types.specs.declared.checkpoint.Checkpoint.{Checkpoint}
use Rattle.cs_tx_types.specs.declared.session.Session.{Session}
use Rattle.cs_tx_types.specs.declared.vote.Vote as Tx
use Rattle.cs_tx_types.specs.Session.{SessionFits}
use Rattle.cs_wire_message.specs.declared.message.Message.{Message}
use Rattle.cs_wire_message.specs.declared.message.Message.TheVariants as message
use Rattle.cs_base.specs.declared.version.Version.{Version}
use Rattle.cs_wire_message.specs.Message.{MessageFits}
use Rattle.cs_order.specs.declared.proposed.Proposed.{Proposed}
use Rattle.cs_base.specs.Lists.{IsIn}
use Rattle.cs_order.specs.laws.Lists.{IsIn-right}
use Rattle.cs_order.specs.laws.Digests.{digest-passes}
use Rattle.cs_order.specs.Digests.{digest_fits}
use Rattle.cs_order.specs.Deeds.{Deed, Took_in, Advanced, Echoed, Proposing, Ticked, Resent, Replied, Cut, Member, sent_by}
use Rattle.cs_order.specs.Runs.{Act, KeepsRules, AllKeepRules, IsFor, HandedOut, Genuine, IsRun, deeds_of, entries_handed_in, held_in, handed_in, EntriesToldApart, Follows as Next}
use Rattle.cs_order.specs.Law.{IsLawful}
use Rattle.cs_tx_types.specs.Entry.{entry_alone}
use Rattle.cs_tx.specs.Digest.{digest_of_entry}
use Rattle.cs_ledger.specs.Ledger.{Bytes}
use Rattle.cs_ledger.specs.Table.{Vote}
use Rattle.cs_node_state.specs.Setup.{Setup, digest_of}
use Rattle.cs_node_rules.specs.Net.{sealed_by_net}
use Rattle.cs_node_rules.specs.Signs.{Sign, Dropped, Took, Entered, Viewed, Did, Headed, Kept, Sent}
use Rattle.cs_node_rules.specs.Site.{Mark, In, Ordered, Plain, Site, signs_of}
use Rattle.cs_node_rules.specs.Carrying.{is_ordering, IsEntry}
use Rattle.cs_node_rules.specs.Deployment.{proposed_of}
use Rattle.cs_node_law.specs.Made.{view_at, has_given, HasDigests, IsHanded, IsHeard, SaidMade, SignMade, AllMade}
use Rattle.cs_world_law.specs.Worlds.{is_honest}
use Rattle.cs_world_law.specs.Chain.{Moment, trail_at, Known, HasSealed, MomentFollows, Story, IsSoundSite, IsUnique, acts_at, shard_acts, is_honest_in}
use Rattle.cs_node_law.proofs.Sealing.{bytes-sha256}
use Rattle.cs_node_law.proofs.Views.{sessions_given, me-same}
use Rattle.cs_world_law.proofs.Deeds.{deeds_in, member-is}
use Rattle.cs_world_law.proofs.Trails.{at, AllWithin, made-all, within-all, deeds-same}
use Rattle.cs_world_law.proofs.Local.{order-either, IsListed, heard-reads, given-ours, deeds-kept, by-deed, local}

-- ---- what was handed out

abbrev HandedBy : {M : Type 0} → M → ℕ → List (Deed M) → Type 0
HandedBy {M} m to [] = ⊥
HandedBy {M} m to (deed ∷ past) = IsFor m to (sent_by deed) ⊎ HandedBy m to past

handed-of : {M : Type 0} (from to : ℕ) (m : M) (acts : List (Act M)) → HandedBy m to (deeds_of from acts) → HandedOut from m to acts
handed-of {M} from to m [] h = absurd h
handed-of {M} from to m (act ∷ acts) h = go (act.member == from) refl (handed-of from to m acts) h
  where
    go : (b : Bool) → (act.member == from) ≡ b → (HandedBy m to (deeds_of from acts) → HandedOut from m to acts) → HandedBy m to (if b then act.deed ∷ deeds_of from acts else deeds_of from acts) → HandedOut from m to (act ∷ acts)
    go true e later (inl now) = inl (eqb-true act.member from e, now)
    go true e later (inr before) = inr (later before)
    go false e later before = inr (later before)

-- an entry has a digest
pub entry-digest : (version : Version) (p : Proposed) → IsEntry version p → digest_fits p.digest ≡ true
entry-digest version p is = rw is.is (digest-passes (digest_of_entry version is.entry) (length-sha256 _, bytes-sha256 _))

-- a message of the order that one of these deeds handed out
pub record IsOrdered {M : Type 0} (site : Site M) (to : ℕ) (said : Message) (deeds : List (Deed M)) : Type 0 where
  pub fits : MessageFits site.setup.version said
  pub ordering : is_ordering said ≡ true
  pub back : (m : M) → site.carrier.read said ≡ Some m → HandedBy m to deeds

pub handed-is : {M : Type 0} (site : Site M) (sound : IsSoundSite site) (me to : ℕ) (said : Message) (deeds : List (Deed M)) → AllKeepRules site.machine site.setup.f me deeds → ((p : Proposed) → IsIn p (held_in site.machine deeds) → IsEntry site.setup.version p)
    → IsHanded site to said deeds → IsOrdered site to said deeds
handed-is {M} site sound me to said [] kept all h = absurd h
handed-is {M} site sound me to said (deed ∷ past) kept all (inl now) =
    let m = now.0 in
    let proper = sound.holds.proper site.setup.f me deed past kept (λ p i. entry-digest site.setup.version p (all p i)) m to now.1.0 in
    let entries = λ (p : Proposed) (i : IsIn p (site.machine.carried m)). all p (sound.holds.sent site.setup.f me deed past kept m to now.1.0 p i) in
    record {
      fits = subst (MessageFits site.setup.version) now.1.1 (sound.carries.fits m);
      ordering = subst (λ z. is_ordering z ≡ true) now.1.1 (sound.carries.ours m proper entries);
      back = λ other reads.
          let q : Some m ≡ Some other = sym (sound.carries.back m proper entries) ∙ ap site.carrier.read now.1.1 ∙ reads in
          let same : m ≡ other = cc in
          inl (subst (λ z. IsFor z to (sent_by deed)) same now.1.0);
    }
handed-is {M} site sound me to said (deed ∷ past) kept all (inr before) =
    let o = handed-is site sound me to said past kept.1 (λ p i. all p (IsIn-right p (entries_handed_in site.machine deed) (held_in site.machine past) i)) before in
    record { fits = o.fits; ordering = o.ordering; back = λ m reads. inr (o.back m reads) }

-- ---- what was given stays given

pub given-sign : (setup : Setup) (d : Bytes) (vote : Vote) (sign : Sign) (past : List Sign) → has_given setup d vote past ≡ true → has_given setup d vote (sign ∷ past) ≡ true
given-sign setup d vote (Did slot place entry effect) past h = or_right _ _ h
given-sign setup d vote (Dropped cause) past h = h
given-sign setup d vote (Took sender other x) past h = h
given-sign setup d vote (Entered x) past h = h
given-sign setup d vote (Viewed slot view) past h = h
given-sign setup d vote (Headed number head) past h = h
given-sign setup d vote (Kept index checkpoint) past h = h
given-sign setup d vote (Sent to said) past h = h

-- ---- what a node says

-- a vote that the node gave, on a session that has an encoding
pub record IsCast {M : Type 0} (site : Site M) (signs : List Sign) (said : Message) : Type 0 where
  pub vote : Tx.Vote
  pub asks : Bool
  pub x : Session
  pub is : said ≡ message.Voted vote asks x
  pub given : has_given site.setup (digest_of site.setup x) (vote_of vote) signs ≡ true
  pub fits : SessionFits x

-- it asks for a slot
abbrev pub IsWant : Message → Type 0
IsWant said = (slot : ℕ) × (said ≡ message.Want slot)

-- it tells a checkpoint
abbrev pub IsHead : Message → Type 0
IsHead said = (c : Checkpoint) × (said ≡ message.Head c)

abbrev IsWord : {M : Type 0} → Site M → List Sign → NodeId → Message → Type 0
IsWord {M} site signs to said =
    IsCast site signs said ⊎ (IsWant said ⊎ (((head : IsHead said) × HasDigests head.0) ⊎ (is_client to ≡ true)))

word-more : {M : Type 0} (site : Site M) (sign : Sign) (signs : List Sign) (to : NodeId) (said : Message) → IsWord site signs to said → IsWord site (sign ∷ signs) to said
word-more {M} site sign signs to said (inl c) =
    inl (record { vote = c.vote; asks = c.asks; x = c.x; is = c.is; given = given-sign site.setup (digest_of site.setup c.x) (vote_of c.vote) sign signs c.given; fits = c.fits })
word-more {M} site sign signs to said (inr other) = inr other

module _ {M : Type 0} (site : Site M) (sound : IsSoundSite site) (known : Known) where
  word-of : (me : NodeId) (t : List (Mark M)) (to : NodeId) (said : Message) → AllMade site me t → AllWithin site known me t → SaidMade site (view_at site me t) t to said → IsWord site (signs_of t) to said
  word-of me t to (message.Voted vote asks x) made within h =
      inl (record {
        vote = vote;
        asks = asks;
        x = x;
        is = refl;
        given = h.0;
        fits = elim h.1 [
          | inl given ↦ (given-ours site sound known me t x within (subst (λ (n : NodeId). IsIn x (sessions_given site n t)) (me-same site me t) given)).0
          | inr voted ↦ ((local site sound known me t made within).voted x voted).0
        ];
      })
  word-of me t to (message.Want slot) made within h = inr (inl (slot, refl))
  word-of me t to (message.Head checkpoint) made within h = inr (inr (inl ((checkpoint, refl), h)))
  word-of me t to said made within h = inr (inr (inr h.0))

  -- what was sent was handed out for a member of the shard, or is the node's own word
  abbrev IsSaid : NodeId → List (Mark M) → NodeId → Message → Type 0
  IsSaid me t to said = ((to.shard ≡ me.shard) × IsHanded site to.index said (deeds_in t)) ⊎ IsWord site (signs_of t) to said

  said-of : (me : NodeId) (t : List (Mark M)) (to : NodeId) (said : Message) → AllMade site me t → AllWithin site known me t → IsIn (Sent to said) (signs_of t) → IsSaid me t to said
  said-of me [] to said made within i = absurd i
  said-of me (In input ∷ t) to said made within i = said-of me t to said made.1 within.1 i
  said-of me (Ordered deed ∷ t) to said made within i = elim (said-of me t to said made.1 within.1 i) [ inl h ↦ inl (h.0, inr h.1) | inr w ↦ inr w ]
  said-of me (Plain sign ∷ t) to said made within (inr before) = elim (said-of me t to said made.1 within.1 before) [ inl h ↦ inl h | inr w ↦ inr (word-more site sign (signs_of t) to said w) ]
  said-of me (Plain sign ∷ t) to said made within (inl now) =
      let v = view_at site me t in
      let s : SignMade site v t (Sent to said) = subst (λ z. SignMade site v t z) (sym now) made.0 in
      elim s [
        | inl h ↦ inl (h.0 ∙ ap (λ (n : NodeId). n.shard) (me-same site me t), subst (λ (g : Member M). IsHanded site to.index said g.deeds) (member-is site me t) h.1)
        | inr w ↦ inr (word-more site sign (signs_of t) to said (word-of me t to said made.1 within.1 w))
      ]

  -- what an honest node works on as from another one: that one's order handed it out, or it cast that vote, or asks for a
  -- slot, or tells a checkpoint
  abbrev pub IsTold : NodeId → NodeId → List (Moment M) → Message → Type 0
  IsTold i sender past said =
      ((i.shard ≡ sender.shard) × IsOrdered site i.index said (deeds_in (trail_at sender past)))
      ⊎ (IsCast site (signs_of (trail_at sender past)) said ⊎ (IsWant said ⊎ IsHead said))

  pub told-by : (i sender : NodeId) (bytes : Bytes) (said : Message) (past : List (Moment M)) → Story site known past → is_honest site i ≡ true → is_honest site sender ≡ true
      → HasSealed site sender i bytes (signs_of (trail_at sender past)) → site.net.opened i bytes ≡ Ok (sender, said) → IsTold i sender past said
  told-by i sender bytes said past story here there s reads =
      let t = trail_at sender past in
      let made = made-all site known sender past story in
      let within = within-all site known sender past story in
      let Opens : Message → Type 0 = λ z. site.net.opened i (sealed_by_net site.net sender i z) ≡ Ok (sender, said) in
      let opens : Opens s.said = ap (site.net.opened i) (sym s.is) ∙ reads in
      elim (said-of sender t i s.said made within s.sent) as (λ z. IsTold i sender past said) [
        | inl h ↦
            let l = local site sound known sender t made within in
            let entries = λ (p : Proposed) (j : IsIn p (held_in site.machine (deeds_in t))). let k = l.held p j in let e : IsEntry site.setup.version p = record { entry = k.entry; fits = k.fits; is = k.is } in e in
            let o = handed-is site sound sender.index i.index s.said (deeds_in t) (deeds-kept site sound known sender t made) entries h.1 in
            let same = sound.exact sender i sender s.said said there here o.fits opens in
            inl (h.0, subst (λ z. IsOrdered site i.index z (deeds_in t)) (sym same) o)
        | inr w ↦ elim w as (λ z. IsTold i sender past said) [
          | inl c ↦
              let same = sound.exact sender i sender s.said said there here (subst (MessageFits site.setup.version) (sym c.is) c.fits) opens in
              inr (inl (record { vote = c.vote; asks = c.asks; x = c.x; is = same ∙ c.is; given = c.given; fits = c.fits }))
          | inr other ↦ elim other as (λ z. IsTold i sender past said) [
            | inl want ↦ inr (inr (inl (sound.wanted sender i sender want.0 said there here (subst Opens want.1 opens))))
            | inr rest ↦ elim rest as (λ z. IsTold i sender past said) [
              | inl head ↦ inr (inr (inr (sound.headed sender i sender head.0.0 said there here head.1 (subst Opens head.0.1 opens))))
              | inr client ↦ absurd (both_ways (is_client i) (sound.apart i here) client)
            ]
          ]
        ]
      ]

  -- ---- the run

  -- what a member takes as from an honest one was handed out by it
  took-genuine : (node : NodeId) (from : ℕ) (m : M) (past : List (Moment M)) → Story site known past → MomentFollows site known past (record { node = node; mark = Ordered (Took_in from m) })
      → Genuine (is_honest_in site node.shard) node.index (Took_in from m) (shard_acts node.shard past)
  took-genuine node from m past story follows honest =
      let t = trail_at node past in
      let v = view_at site node t in
      let k = follows.made.1 in
      let sender = at node.shard from in
      let h : IsHeard site v t sender k.said = subst (λ (n : NodeId). IsHeard site v t (at n.shard from) k.said) (me-same site node t) k.heard in
      let reads = heard-reads site sound known node t sender k.said h in
      let seal = follows.backed h.bytes sender k.said h.is_current reads honest in
      let ordering = sound.carries.theirs k.said m k.reads in
      elim (told-by node sender h.bytes k.said past story follows.honest honest seal reads) as (λ z. HandedOut from m node.index (shard_acts node.shard past)) [
        | inl o ↦ handed-of from node.index m (shard_acts node.shard past) (subst (λ ds. HandedBy m node.index ds) (sym (deeds-same node.shard from past)) (o.1.back m k.reads))
        | inr w ↦ elim w as (λ z. HandedOut from m node.index (shard_acts node.shard past)) [
          | inl c ↦ absurd (both_ways false refl (subst (λ z. is_ordering z ≡ true) c.is ordering))
          | inr other ↦ elim other as (λ z. HandedOut from m node.index (shard_acts node.shard past)) [
            | inl want ↦ absurd (both_ways false refl (subst (λ z. is_ordering z ≡ true) want.1 ordering))
            | inr head ↦ absurd (both_ways false refl (subst (λ z. is_ordering z ≡ true) head.1 ordering))
          ]
        ]
      ]

  deed-genuine : (node : NodeId) (deed : Deed M) (past : List (Moment M)) → Story site known past → MomentFollows site known past (record { node = node; mark = Ordered deed })
      → Genuine (is_honest_in site node.shard) node.index deed (shard_acts node.shard past)
  deed-genuine node (Took_in from m) past story follows = took-genuine node from m past story follows
  deed-genuine node (Advanced step sent) past story follows = tt
  deed-genuine node (Echoed sent) past story follows = tt
  deed-genuine node (Proposing entry sent) past story follows = tt
  deed-genuine node (Ticked due sent) past story follows = tt
  deed-genuine node (Resent sent) past story follows = tt
  deed-genuine node (Replied slot to sent) past story follows = tt
  deed-genuine node (Cut slot) past story follows = tt

  next-deed : (node : NodeId) (deed : Deed M) (past : List (Moment M)) → Story site known past → MomentFollows site known past (record { node = node; mark = Ordered deed })
      → Next site.machine site.setup.f (is_honest_in site node.shard) (shard_acts node.shard past) (record { member = node.index; deed = deed })
  next-deed node deed past story follows =
      let keeps = subst (λ (h : Member M). KeepsRules site.machine h deed) (member-is site node (trail_at node past)) follows.made.0 in
      record {
        is_member = sound.index node follows.honest;
        is_honest = follows.honest;
        keeps = subst (λ ds. KeepsRules site.machine (record { f = site.setup.f; me = node.index; deeds = ds }) deed) (sym (deeds-same node.shard node.index past)) keeps;
        genuine = deed-genuine node deed past story follows;
      }

  run-step : (shard : ℕ) (node : NodeId) (mark : Mark M) (past : List (Moment M)) → Story site known past → MomentFollows site known past (record { node = node; mark = mark })
      → IsRun site.machine site.setup.f (is_honest_in site shard) (shard_acts shard past) → IsRun site.machine site.setup.f (is_honest_in site shard) (acts_at shard node mark (shard_acts shard past))
  run-step shard node (In input) past story follows run = run
  run-step shard node (Plain sign) past story follows run = run
  run-step shard node (Ordered deed) past story follows run =
      cond_both (node.shard == shard) (record { member = node.index; deed = deed } ∷ shard_acts shard past) (shard_acts shard past) (λ l. IsRun site.machine site.setup.f (is_honest_in site shard) l)
      (λ e. (subst (λ n. Next site.machine site.setup.f (is_honest_in site n) (shard_acts n past) (record { member = node.index; deed = deed })) (eqb-true node.shard shard e) (next-deed node deed past story follows), run))
      (λ e. run)

  pub story-run : (story : List (Moment M)) (shard : ℕ) → Story site known story → IsRun site.machine site.setup.f (is_honest_in site shard) (shard_acts shard story)
  story-run [] shard story = tt
  story-run (m ∷ past) shard story = run-step shard m.node m.mark past story.1 story.0 (story-run past shard story.1)

  -- ---- its law

  handed-step : (shard : ℕ) (node : NodeId) (mark : Mark M) (past : List (Moment M)) (p : Proposed) → Story site known past → MomentFollows site known past (record { node = node; mark = mark })
      → (IsIn p (handed_in site.machine (shard_acts shard past)) → IsListed site.setup.version known p) → IsIn p (handed_in site.machine (acts_at shard node mark (shard_acts shard past))) → IsListed site.setup.version known p
  handed-step shard node (In input) past p story follows before = before
  handed-step shard node (Plain sign) past p story follows before = before
  handed-step shard node (Ordered deed) past p story follows before =
      let t = trail_at node past in
      let made = made-all site known node past story in
      let within = within-all site known node past story in
      cond_both (node.shard == shard) (record { member = node.index; deed = deed } ∷ shard_acts shard past) (shard_acts shard past) (λ l. IsIn p (handed_in site.machine l) → IsListed site.setup.version known p)
      (λ e i. elim (order-either p (entries_handed_in site.machine deed) (handed_in site.machine (shard_acts shard past)) i) [
        | inl now ↦ by-deed site sound known node t deed made within (local site sound known node t made within) follows.made follows.within p now
        | inr old ↦ before old
      ])
      (λ e. before)

  handed-listed : (story : List (Moment M)) (shard : ℕ) (p : Proposed) → Story site known story → IsIn p (handed_in site.machine (shard_acts shard story)) → IsListed site.setup.version known p
  handed-listed [] shard p story i = absurd i
  handed-listed (m ∷ past) shard p story i = handed-step shard m.node m.mark past p story.1 story.0 (handed-listed past shard p story.1) i

  no-collision : (story : List (Moment M)) (shard : ℕ) → Story site known story → IsUnique site.setup.version known.entries → EntriesToldApart (handed_in site.machine (shard_acts shard story))
  no-collision story shard story_is unique a b i j e =
      let x = handed-listed story shard a story_is i in
      let y = handed-listed story shard b story_is j in
      let digests : (proposed_of site.setup.version x.entry).digest ≡ (proposed_of site.setup.version y.entry).digest = ap (λ (p : Proposed). p.digest) (sym x.is) ∙ e ∙ ap (λ (p : Proposed). p.digest) y.is in
      ap (λ (p : Proposed). p.bytes) x.is ∙ unique x.entry y.entry x.listed y.listed digests ∙ ap (λ (p : Proposed). p.bytes) (sym y.is)

  pub lawful : (story : List (Moment M)) (shard : ℕ) → shard < site.setup.shards → Story site known story → IsUnique site.setup.version known.entries → IsLawful site.machine site.setup.f (is_honest_in site shard) (shard_acts shard story)
  lawful story shard fits story_is unique =
      sound.law site.setup.f (is_honest_in site shard) (shard_acts shard story) sound.serves (sound.few shard fits) (story-run story shard story_is) (no-collision story shard story_is unique)
