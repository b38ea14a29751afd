-- The first executions are allowed steps of the shards together, of known sessions.
use Rattle.std.proofs.Common.{◌≡◌, inl, inr, ℕ, ◌<◌, ◌==◌, true, List, [], ◌∷◌, ◌++◌, Option, Some, None, map, sym, ◌∙◌, ap, subst, refl}
use Rattle.std.specs.Prelude.{slice_get}
use Rattle.std.proofs.lemmas.Bool.{cond_both, and_parts, eqb-true}
use Rattle.cs_base.specs.declared.node_id.NodeId.{NodeId}
use Rattle.cs_tx_types.specs.declared.session.Session.{Session}
use Rattle.cs_tx_types.specs.declared.vote.Vote as Tx
use Rattle.cs_tx_types.specs.declared.vote.Vote.TheVariants as tx
use Rattle.cs_tx_types.specs.declared.action.Action.{Action}
use Rattle.cs_tx_types.specs.declared.entry.Entry.{Entry}
use Rattle.cs_tx_types.specs.declared.action.Action.TheVariants.{Prepare, Decide}
use Rattle.cs_order.specs.declared.proposed.Proposed.{Proposed}
use Rattle.cs_order.specs.Deeds.{Deed, Took_in, Advanced, Echoed, Proposing, Ticked, Resent, Replied, Cut, Member, chosen_in}
use Rattle.cs_order.specs.Runs.{member_of}
use Rattle.cs_order.specs.Law.{Admits, Admitted}
use Rattle.cs_base.specs.Lists.{IsIn}
use Rattle.cs_ledger.specs.Session as Seen
use Rattle.cs_ledger.specs.Session.{all_items}
use Rattle.cs_ledger.specs.Table as Shard
use Rattle.cs_ledger.specs.Table.{Effect}
use Rattle.cs_ledger.specs.ShardWorld.{Step, shard_votes, IsAllowed, AllAllowed, sessions}
use Rattle.cs_node_state.specs.declared.pooled.Pooled.{Pooled}
use Rattle.cs_node_state.specs.Setup.{Setup, digest_of, is_concerned_shard, concerned, is_fit, is_session_approved, entry_of}
use Rattle.cs_tx_types.specs.Session.{session_in}
use Rattle.cs_node_state.specs.Evidence.{has_support, is_decided}
use Rattle.cs_node_state.specs.Pool.{found}
use Rattle.cs_node_state.specs.Admission.{admits_action, admits, is_decided_in}
use Rattle.cs_node_rules.specs.Signs.{Dropped, Took, Entered, Viewed, Did, Headed, Kept, Sent}
use Rattle.cs_node_rules.specs.Site.{Mark, In, Ordered, Plain, Site, signs_of}
use Rattle.cs_node_rules.specs.World.{Execution, steps_of, newest_of, is_after}
use Rattle.cs_node_law.specs.Made.{view_at, HasVotedOn, DeedMade}
use Rattle.cs_node_law.proofs.Views.{me-same}
use Rattle.cs_node_law.proofs.Silent.{voted-more}
use Rattle.cs_node_law.proofs.Pools.{Place, IsSourced, found-in, pool-sourced}
use Rattle.cs_node_law.proofs.Due.{IsDueFrom, due-from}
use Rattle.cs_node_law.proofs.Actions.{got-in}
use Rattle.cs_world_law.specs.Worlds.{is_honest}
use Rattle.cs_world_law.specs.Chain.{Moment, trail_at, Known, Story, IsSoundSite, acts_at, shard_acts, firsts_at, story_firsts}
use Rattle.cs_world_law.proofs.Deeds.{member-is}
use Rattle.cs_world_law.proofs.Trails.{at, trail-both, made-all, within-all, deeds-same}
use Rattle.cs_world_law.proofs.Local.{map-in, did-done, due-read, local}
use Rattle.cs_world_law.proofs.Lawful.{AreLawful}
use Rattle.cs_world_law.proofs.Firsts.{given-voted}
use Rattle.cs_world_law.proofs.Ballots.{IsGiver, giver-later, giver}
use Rattle.cs_world_law.proofs.Counting.{any-in, all-in, in-concerned, concerned-in, among-item, item-among, votes-all, votes-one}

pub seen-session : (setup : Setup) (entry : Action) → Shard.session_of (entry_of setup entry) ≡ setup.session_of (session_in entry)
seen-session setup (Prepare x) = refl
seen-session setup (Decide vote x) = refl

-- allowed steps, of known sessions
pub record AreFine {M : Type 0} (site : Site M) (known : Known) (firsts : List Execution) : Type 0 where
  pub allowed : AllAllowed site.setup.rules (steps_of site.setup firsts)
  pub within : (x : Seen.Session) → IsIn x (sessions (steps_of site.setup firsts)) → IsIn x (map site.setup.session_of known.sessions)

pub fine-earlier : {M : Type 0} (site : Site M) (known : Known) (later earlier : List Execution) → AreFine site known (later ++ earlier) → AreFine site known earlier
fine-earlier {M} site known [] earlier f = f
fine-earlier {M} site known (e ∷ later) earlier f = fine-earlier site known later earlier (record { allowed = f.allowed.1; within = λ x i. f.within x (inr i) })

module _ {M : Type 0} (site : Site M) (sound : IsSoundSite site) (known : Known) where
  -- what stands behind an action that an honest node of a shard admitted
  abbrev pub IsBehind : List (Moment M) → ℕ → Action → Type 0
  IsBehind story shard (Prepare x) = (is_fit site.setup shard x ≡ true) × (is_session_approved site.setup x ≡ true)
  IsBehind story shard (Decide tx.Commit x) =
      (is_concerned_shard site.setup x shard ≡ true) × ((t : ℕ) → t < site.setup.shards → is_concerned_shard site.setup x t ≡ true → IsGiver site sound known story (digest_of site.setup x) Shard.Commit t)
  IsBehind story shard (Decide tx.Abort x) =
      (is_concerned_shard site.setup x shard ≡ true) × ((t : ℕ) × (is_concerned_shard site.setup x t ≡ true) × IsGiver site sound known story (digest_of site.setup x) Shard.Abort t)

  -- so it is of each action of an entry
  abbrev AllBehind : List (Moment M) → ℕ → Entry → Type 0
  AllBehind story shard entry = (action : Action) → IsIn action entry.actions → IsBehind story shard action

  behind-later : (m : Moment M) (past : List (Moment M)) (shard : ℕ) (entry : Action) → IsBehind past shard entry → IsBehind (m ∷ past) shard entry
  behind-later m past shard (Prepare x) b = b
  behind-later m past shard (Decide tx.Commit x) b = (b.0, λ t fits c. giver-later site sound known m past (digest_of site.setup x) Shard.Commit t (b.1 t fits c))
  behind-later m past shard (Decide tx.Abort x) b = (b.0, (b.1.0, b.1.1, giver-later site sound known m past (digest_of site.setup x) Shard.Abort b.1.0 b.1.2))

  -- ---- what a node admits, and what is due at it

  -- a decision that the votes at a place of its pool support
  decision-behind : (story : List (Moment M)) (j : NodeId) (e : Place) (vote : Tx.Vote) (x : Session) → Story site known story → IsSourced site j (trail_at j story) e → e.0 ≡ digest_of site.setup x → is_concerned_shard site.setup x j.shard ≡ true
      → is_decided site.setup.f (concerned site.setup x) vote e.1.ballots ≡ true → IsBehind story j.shard (Decide vote x)
  decision-behind story j e tx.Commit x story_is s digest here h = (
    here,
    λ t fits c.
        let support = all-in (λ shard. has_support site.setup.f e.1.ballots tx.Commit shard) (concerned site.setup x) h t (in-concerned site.setup x site.setup.shards t fits c) in
        subst (λ d. IsGiver site sound known story d Shard.Commit t) digest (giver site sound known story j e tx.Commit t story_is s fits support),
  )
  decision-behind story j e tx.Abort x story_is s digest here h =
      let r = any-in (λ shard. has_support site.setup.f e.1.ballots tx.Abort shard) (concerned site.setup x) h in
      let c = concerned-in site.setup x site.setup.shards r.0 r.1 in
      (here, (r.0, c.1, subst (λ d. IsGiver site sound known story d Shard.Abort r.0) digest (giver site sound known story j e tx.Abort r.0 story_is s c.0 r.2)))

  sourced : (story : List (Moment M)) (j : NodeId) (e : Place) → Story site known story → IsIn e (view_at site j (trail_at j story)).bench.pool → IsSourced site j (trail_at j story) e
  sourced story j e story_is i =
      let t = trail_at j story in
      subst (λ (n : NodeId). IsSourced site n t e) (me-same site j t) (pool-sourced site j t (made-all site known j story story_is) e i)

  action-behind : (story : List (Moment M)) (j : NodeId) (action : Action) → Story site known story → admits_action site.setup j.shard (view_at site j (trail_at j story)).bench.pool action ≡ true → IsBehind story j.shard action
  action-behind story j (Prepare x) story_is e = and_parts (is_fit site.setup j.shard x) (is_session_approved site.setup x) e
  action-behind story j (Decide vote x) story_is e =
      let pool = (view_at site j (trail_at j story)).bench.pool in
      let d = digest_of site.setup x in
      let a = and_parts (is_concerned_shard site.setup x j.shard) (is_decided_in site.setup.f (concerned site.setup x) vote (found d pool)) e in
      go a.0 (found d pool) refl a.1
    where
      go : is_concerned_shard site.setup x j.shard ≡ true → (o : Option Pooled) → found (digest_of site.setup x) (view_at site j (trail_at j story)).bench.pool ≡ o → is_decided_in site.setup.f (concerned site.setup x) vote o ≡ true → IsBehind story j.shard (Decide vote x)
      go here None is h = cc
      go here (Some p) is h =
          let r = found-in (digest_of site.setup x) (view_at site j (trail_at j story)).bench.pool p is in
          decision-behind story j r.0 vote x story_is (sourced story j r.0 story_is r.1) (sym r.2) here (subst (λ (q : Pooled). is_decided site.setup.f (concerned site.setup x) vote q.ballots ≡ true) (sym r.3) h)

  admits-behind : (story : List (Moment M)) (j : NodeId) (entry : Entry) → Story site known story → admits site.setup j.shard (view_at site j (trail_at j story)).bench.pool entry ≡ true → AllBehind story j.shard entry
  admits-behind story j entry story_is e action i =
      action-behind story j action story_is (all-in (admits_action site.setup j.shard (view_at site j (trail_at j story)).bench.pool) entry.actions e action i)

  -- what every honest node voted on is approved
  abbrev AllApproved : List (Moment M) → Type 0
  AllApproved story = (i : NodeId) (x : Session) → is_honest site i ≡ true → HasVotedOn x (signs_of (trail_at i story)) → is_session_approved site.setup x ≡ true

  due-behind : (story : List (Moment M)) (j : NodeId) (entry : Action) → Story site known story → AllApproved story → is_honest site j ≡ true → IsDueFrom site.setup (view_at site j (trail_at j story)).bench.pool entry → IsBehind story j.shard entry
  due-behind story j entry story_is approved honest d =
      let e = d.0 in
      let x = e.1.session in
      let s = sourced story j e story_is d.1 in
      let fine : is_session_approved site.setup x ≡ true = elim s.source [ inl new ↦ new.0 | inr voted ↦ approved j x honest voted ] in
      elim d.2 [
        | inl prepare ↦ subst (λ z. IsBehind story j.shard z) (sym prepare) (s.fit, fine)
        | inr decision ↦ subst (λ z. IsBehind story j.shard z) (sym decision.1)
            (decision-behind story j e decision.0 x story_is s s.digest (and_parts _ _ s.fit).1 decision.2)
      ]

  -- ---- admission by the order

  -- the deed with which an honest node admitted a proposal
  deed-behind : (node : NodeId) (deed : Deed M) (past : List (Moment M)) (p : Proposed) → Story site known past → AllApproved past → is_honest site node ≡ true
      → DeedMade site (view_at site node (trail_at node past)) (trail_at node past) deed → Admits site.machine p (view_at site node (trail_at node past)).member deed → AllBehind past node.shard (site.entry_in p)
  deed-behind node (Took_in from m) past p story approved honest made admitted = absurd admitted
  deed-behind node (Advanced step sent) past p story approved honest made admitted = absurd admitted
  deed-behind node (Ticked due sent) past p story approved honest made admitted = absurd admitted
  deed-behind node (Resent sent) past p story approved honest made admitted = absurd admitted
  deed-behind node (Replied slot to sent) past p story approved honest made admitted = absurd admitted
  deed-behind node (Cut slot) past p story approved honest made admitted = absurd admitted
  deed-behind node (Echoed sent) past p story approved honest made admitted =
      let v = view_at site node (trail_at node past) in
      let q : Some p ≡ Some made.proposed = sym admitted ∙ made.pending in
      let same : p ≡ made.proposed = cc in
      let at_me = subst (λ (n : NodeId). admits site.setup n.shard v.bench.pool (site.entry_in made.proposed) ≡ true) (me-same site node (trail_at node past)) made.admitted in
      admits-behind past node (site.entry_in p) story (ap (λ z. admits site.setup node.shard v.bench.pool (site.entry_in z)) same ∙ at_me)
  deed-behind node (Proposing proposed sent) past p story approved honest made admitted =
      let t = trail_at node past in
      let v = view_at site node t in
      elim made as (λ z. AllBehind past node.shard (site.entry_in p)) [
        | inl due ↦
            let all = made-all site known node past story in
            let within = within-all site known node past story in
            let read : due.entry ≡ site.entry_in p = sym (due-read site sound known node t due.entry all within (local site sound known node t all within) due.due) ∙ ap site.entry_in (sym due.is ∙ admitted) in
            subst (λ z. AllBehind past node.shard z) read (λ action i. due-behind past node action story approved honest (due-from site.setup v.bench.pool due.entry due.due action i))
        | inr candidate ↦
            let at_me = subst (λ (n : NodeId). admits site.setup n.shard v.bench.pool (site.entry_in proposed) ≡ true) (me-same site node t) candidate.admitted in
            admits-behind past node (site.entry_in p) story (ap (λ z. admits site.setup node.shard v.bench.pool (site.entry_in z)) (sym admitted) ∙ at_me)
      ]

  approved-before : (m : Moment M) (past : List (Moment M)) → AllApproved (m ∷ past) → AllApproved past
  approved-before m past all i x honest h = all i x honest (trail-both (λ t. HasVotedOn x (signs_of t)) i m past (λ own. voted-more x m.mark (trail_at i past) h) h)

  admitted-step : (shard : ℕ) (node : NodeId) (mark : Mark M) (past : List (Moment M)) (p : Proposed) → Story site known (record { node = node; mark = mark } ∷ past) → AllApproved past
      → (Admitted site.machine site.setup.f p (shard_acts shard past) → AllBehind past shard (site.entry_in p)) → Admitted site.machine site.setup.f p (acts_at shard node mark (shard_acts shard past)) → AllBehind past shard (site.entry_in p)
  admitted-step shard node (In input) past p story approved later = later
  admitted-step shard node (Plain sign) past p story approved later = later
  admitted-step shard node (Ordered deed) past p story approved later =
      cond_both (node.shard == shard) (record { member = node.index; deed = deed } ∷ shard_acts shard past) (shard_acts shard past) (λ l. Admitted site.machine site.setup.f p l → AllBehind past shard (site.entry_in p))
      (λ e admitted. elim admitted as (λ z. AllBehind past shard (site.entry_in p)) [
        | inl now ↦
            let same = eqb-true node.shard shard e in
            let here = subst (λ s. Admits site.machine p (member_of site.setup.f node.index (shard_acts s past)) deed) (sym same) now in
            let own = subst (λ ds. Admits site.machine p (record { f = site.setup.f; me = node.index; deeds = ds }) deed) (deeds-same node.shard node.index past) here in
            let at_view = subst (λ (h : Member M). Admits site.machine p h deed) (sym (member-is site node (trail_at node past))) own in
            subst (λ s. AllBehind past s (site.entry_in p)) same (deed-behind node deed past p story.1 approved story.0.honest story.0.made.1 at_view)
        | inr before ↦ later before
      ])
      (λ e. later)

  admitted-behind : (shard : ℕ) (story : List (Moment M)) (p : Proposed) → Story site known story → AllApproved story → Admitted site.machine site.setup.f p (shard_acts shard story) → AllBehind story shard (site.entry_in p)
  admitted-behind shard [] p story approved admitted = absurd admitted
  admitted-behind shard (m ∷ past) p story approved admitted =
      let before = approved-before m past approved in
      let all = admitted-step shard m.node m.mark past p story before (admitted-behind shard past p story.1 before) admitted in
      λ action i. behind-later m past shard action (all action i)

  module _ (lawful : AreLawful site known) where
    -- ---- executions

    executed-behind : (node : NodeId) (slot place : ℕ) (entry : Action) (effect : Effect) (past : List (Moment M)) → Story site known (record { node = node; mark = Plain (Did slot place entry effect) } ∷ past) → AllApproved past → IsBehind past node.shard entry
    executed-behind node slot place entry effect past story approved =
        let made = story.0.made in
        let law = lawful past node.shard (sound.shard node story.0.honest) story.1 in
        let own = subst (λ (h : Member M). slice_get (chosen_in h.deeds) slot ≡ Some made.proposed) (member-is site node (trail_at node past)) made.chosen in
        let chosen = subst (λ ds. slice_get (chosen_in ds) slot ≡ Some made.proposed) (sym (deeds-same node.shard node.index past)) own in
        let admitted = law.admitted node.index slot made.proposed chosen in
        admitted-behind node.shard past made.proposed story.1 approved admitted entry (got-in (site.entry_in made.proposed).actions place entry made.within)

    approved-step : (node : NodeId) (mark : Mark M) (past : List (Moment M)) (i : NodeId) (x : Session) → Story site known (record { node = node; mark = mark } ∷ past) → AllApproved past → is_honest site i ≡ true
        → HasVotedOn x (signs_of (mark ∷ trail_at i past)) → is_session_approved site.setup x ≡ true
    approved-step node (In input) past i x story all honest h = all i x honest h
    approved-step node (Ordered deed) past i x story all honest h = all i x honest h
    approved-step node (Plain (Dropped cause)) past i x story all honest h = all i x honest h
    approved-step node (Plain (Took sender vote y)) past i x story all honest h = all i x honest h
    approved-step node (Plain (Entered y)) past i x story all honest h = all i x honest h
    approved-step node (Plain (Viewed slot view)) past i x story all honest h = all i x honest h
    approved-step node (Plain (Headed number head)) past i x story all honest h = all i x honest h
    approved-step node (Plain (Kept index checkpoint)) past i x story all honest h = all i x honest h
    approved-step node (Plain (Sent to said)) past i x story all honest h = all i x honest h
    approved-step node (Plain (Did slot place entry effect)) past i x story all honest (inr before) = all i x honest before
    approved-step node (Plain (Did slot place entry effect)) past i x story all honest (inl now) =
        let b : IsBehind past node.shard (Prepare x) = subst (λ z. IsBehind past node.shard z) now.0 (executed-behind node slot place entry effect past story all) in b.1

    pub all-approved : (story : List (Moment M)) → Story site known story → AllApproved story
    all-approved [] story i x honest h = absurd h
    all-approved (m ∷ past) story i x honest h =
        trail-both (λ t. HasVotedOn x (signs_of t) → is_session_approved site.setup x ≡ true) i m past
        (λ own voted. approved-step m.node m.mark past i x story (λ j y k v. all-approved past story.1 j y k v) honest voted)
        (λ voted. all-approved past story.1 i x honest voted) h

    -- ---- steps of the shards together

    abbrev pub Steps : List (Moment M) → List Step
    Steps story = steps_of site.setup (story_firsts story)

    behind-allowed : (story : List (Moment M)) (shard : ℕ) (entry : Action) → Story site known story → IsBehind story shard entry → IsAllowed site.setup.rules (Steps story) shard (entry_of site.setup entry)
    behind-allowed story shard (Prepare x) story_is b = let f = and_parts _ _ b.0 in (f.0, f.1, b.1)
    behind-allowed story shard (Decide tx.Commit x) story_is b =
        let items = all_items (site.setup.session_of x).transaction in (
          b.0,
          votes-all site.setup.rules (Steps story) (site.setup.session_of x) Shard.Commit items
              (λ item i.
              let t = site.setup.rules.shard_of item.name in
              let g = b.1 t (sound.bound item.name) (among-item site.setup.rules item items i) in
              given-voted site sound known lawful story (at t g.index) (digest_of site.setup x) Shard.Commit story_is g.honest g.given),
        )
    behind-allowed story shard (Decide tx.Abort x) story_is b =
        let items = all_items (site.setup.session_of x).transaction in
        let t = b.1.0 in
        let g = b.1.2 in
        let item = item-among site.setup.rules t items b.1.1 in
        let voted = given-voted site sound known lawful story (at t g.index) (digest_of site.setup x) Shard.Abort story_is g.honest g.given in (
          b.0,
          votes-one site.setup.rules (Steps story) (site.setup.session_of x) Shard.Abort items item.0 item.1
              (subst (λ k. shard_votes site.setup.rules (Steps story) k (site.setup.session_of x) Shard.Abort ≡ true) (sym item.2) voted),
        )

    -- what an honest node executes is allowed
    pub executed-allowed : (node : NodeId) (slot place : ℕ) (entry : Action) (effect : Effect) (past : List (Moment M)) → Story site known (record { node = node; mark = Plain (Did slot place entry effect) } ∷ past)
        → IsAllowed site.setup.rules (Steps past) node.shard (entry_of site.setup entry)
    executed-allowed node slot place entry effect past story = behind-allowed past node.shard entry story.1 (executed-behind node slot place entry effect past story (all-approved past story.1))

    fine-step : (node : NodeId) (mark : Mark M) (past : List (Moment M)) → Story site known (record { node = node; mark = mark } ∷ past) → AreFine site known (story_firsts past) → AreFine site known (firsts_at node mark (story_firsts past))
    fine-step node (In input) past story f = f
    fine-step node (Ordered deed) past story f = f
    fine-step node (Plain (Dropped cause)) past story f = f
    fine-step node (Plain (Took sender vote x)) past story f = f
    fine-step node (Plain (Entered x)) past story f = f
    fine-step node (Plain (Viewed slot view)) past story f = f
    fine-step node (Plain (Headed number head)) past story f = f
    fine-step node (Plain (Kept index checkpoint)) past story f = f
    fine-step node (Plain (Sent to said)) past story f = f
    fine-step node (Plain (Did slot place entry effect)) past story f =
        let new : Execution = record { shard = node.shard; slot = slot; place = place; entry = entry; effect = effect } in
        let t = trail_at node past in
        let made = made-all site known node past story.1 in
        let d = did-done site sound known node t slot place entry effect (story.0.made, made) (local site sound known node t made (within-all site known node past story.1)) in
        cond_both (is_after slot place (newest_of node.shard (story_firsts past))) (new ∷ story_firsts past) (story_firsts past) (λ firsts. AreFine site known firsts)
        (λ e. record {
          allowed = (executed-allowed node slot place entry effect past story, f.allowed);
          within = λ x i. elim i as (λ z. IsIn x (map site.setup.session_of known.sessions)) [
            | inl is ↦ subst (λ z. IsIn z (map site.setup.session_of known.sessions)) (sym (is ∙ seen-session site.setup entry)) (map-in site.setup.session_of (session_in entry) known.sessions d.session)
            | inr before ↦ f.within x before
          ];
        })
        (λ e. f)

    pub are-fine : (story : List (Moment M)) → Story site known story → AreFine site known (story_firsts story)
    are-fine [] story = record { allowed = tt; within = λ x i. absurd i }
    are-fine (m ∷ past) story = fine-step m.node m.mark past story (are-fine past story.1)
