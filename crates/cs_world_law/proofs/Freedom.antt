-- A free session is voted commit, and the vote is sent.
use Rattle.std.proofs.Common.{◌≡◌, inl, inr, ℕ, ◌+◌, ◌*◌, ◌≤◌, ◌<◌, true, List, [], ◌∷◌, Some, sym, ap, ◌∙◌, subst, arith}
use Rattle.std.specs.Prelude.{slice_get}
use Rattle.std.proofs.lemmas.Bool.{and_parts}
use Rattle.cs_base.specs.declared.node_id.NodeId.{NodeId}
use Rattle.cs_tx_types.specs.declared.session.Session.{Session}
use Rattle.cs_tx_types.specs.declared.vote.Vote.TheVariants as tx
use Rattle.cs_tx_types.specs.declared.action.Action.{Action}
use Rattle.cs_tx_types.specs.declared.entry.Entry.{Entry}
use Rattle.cs_tx_types.specs.declared.action.Action.TheVariants.{Prepare}
use Rattle.cs_wire_message.specs.declared.message.Message.{Message}
use Rattle.cs_wire_message.specs.declared.message.Message.TheVariants as message
use Rattle.cs_order.specs.declared.proposed.Proposed.{Proposed}
use Rattle.cs_base.specs.Lists.{IsIn}
use Rattle.cs_order.specs.Deeds.{Deed, Took_in, Advanced, Echoed, Proposing, Ticked, Resent, Replied, Cut, Member, chosen_in}
use Rattle.cs_order.specs.Runs.{entries_handed_in, held_in}
use Rattle.cs_ledger.specs.Session as Seen
use Rattle.cs_ledger.specs.Session.{Key, anchor, used_up, read_only, has_key}
use Rattle.cs_ledger.specs.Table as Shard
use Rattle.cs_ledger.specs.Table.{Table, Outcome}
use Rattle.cs_ledger.proofs.Basics.{bytes_refl, first_is, anchor_used, in_left, in_right}
use Rattle.cs_ledger.proofs.States.{ready_at}
use Rattle.cs_node_state.specs.Setup.{concerned, is_fit}
use Rattle.cs_tx_types.specs.Session.{session_in}
use Rattle.cs_node_rules.specs.Members.{others}
use Rattle.cs_node_state.specs.Bench.{is_locked_at, is_locked, executed, told_by, vote_told}
use Rattle.cs_node_rules.specs.Signs.{Did, Sent, sends, vote_signs}
use Rattle.cs_node_rules.specs.Site.{Mark, In, Ordered, Plain, Site, signs_of}
use Rattle.cs_node_rules.specs.Ready.{bench_at, Executed, VotesFree}
use Rattle.cs_node_law.specs.Made.{view_at, AllMade}
use Rattle.cs_node_law.proofs.Views.{me-same}
use Rattle.cs_node_law.proofs.Actions.{got-in}
use Rattle.cs_node_law.proofs.Pools.{IsSourced, pool-sourced}
use Rattle.cs_node_law.proofs.Due.{due-from}
use Rattle.cs_world_law.specs.Worlds.{is_honest}
use Rattle.cs_world_law.specs.Chain.{Known, IsSoundSite}
use Rattle.cs_world_law.proofs.Deeds.{deeds_in, member-is}
use Rattle.cs_world_law.proofs.Trails.{AllWithin}
use Rattle.cs_world_law.proofs.Local.{order-either, due-read, deeds-kept, local}
use Rattle.cs_world_law.proofs.Readiness.{part, came, free-commits}
use Rattle.cs_world_law.proofs.Sending.{IsTelling}

pub in-sends : (names : List NodeId) (to : NodeId) (said : Message) → IsIn to names → IsIn (Sent to said) (sends names said)
in-sends [] to said i = absurd i
in-sends (name ∷ names) to said (inl e) = in_right (Sent to said) (sends names said) (Sent name said ∷ []) (inl (ap (λ (n : NodeId). Sent n said) e))
in-sends (name ∷ names) to said (inr i) = in_left (Sent to said) (sends names said) (Sent name said ∷ []) (in-sends names to said i)

-- a key that was active with an object is locked after its session has locked it
locked-after : (rules : Seen.Rules) (shard : ℕ) (t : Table) (x : Seen.Session) (key : Key) → anchor rules x shard ≡ Some key → Shard.is_ready t (used_up rules x shard) (read_only rules x shard) ≡ true
    → Shard.is_locked_by x.digest ((Shard.with_locks t x.digest (used_up rules x shard) (read_only rules x shard)).at key).state ≡ true
locked-after rules shard t x key is ready =
    let used = used_up rules x shard in
    let read = read_only rules x shard in
    let piece = first_is used key is in
    let active : (t.at key).state ≡ Shard.Active piece.0.object = ap (λ k. (t.at k).state) piece.2 ∙ ready_at t used (and_parts _ _ ready).0 piece.0 piece.1 in
    ap (λ b. Shard.is_locked_by x.digest (Shard.lock_state b (has_key key read) x.digest (t.at key).state)) (anchor_used rules x shard key is)
    ∙ ap (λ s. Shard.is_locked_by x.digest (Shard.locked x.digest s)) active
    ∙ bytes_refl x.digest

module _ {M : Type 0} (site : Site M) (known : Known) (me : NodeId) (t : List (Mark M)) (made : AllMade site me t) (within : AllWithin site known me t) (tells : IsTelling site.setup me (signs_of t))
    (fits : (x : Session) → Executed (signs_of t) (Prepare x) → is_fit site.setup me.shard x ≡ true) where
  pub votes-free : VotesFree site.setup me (signs_of t)
  votes-free x e free =
      let rules = site.setup.rules in
      let shard = me.shard in
      let b = bench_at site.setup shard e.earlier in
      let seen = site.setup.session_of x in
      let f = and_parts _ _ (fits x e) in
      let used = used_up rules seen shard in
      let read = read_only rules seen shard in
      let out = free-commits rules shard b.table seen free.key f.0 f.1 free.is_anchor free.ready free.unvoted free.room in
      let effect = came site known me t made within (Prepare x) e ∙ ap (λ (o : Outcome). o.effect) out in
      let locked : is_locked site.setup shard (executed site.setup shard b (Prepare x)).bench.table x ≡ true =
      ap (λ (o : Outcome). is_locked_at o.table seen.digest (anchor rules seen shard)) out
      ∙ ap (λ k. is_locked_at (Shard.with_locks b.table seen.digest used read) seen.digest k) free.is_anchor
      ∙ locked-after rules shard b.table seen free.key free.is_anchor free.ready in
      let told : vote_told site.setup shard x (executed site.setup shard b (Prepare x)) ≡ Some (tx.Commit, true) =
      ap (λ l. told_by (executed site.setup shard b (Prepare x)).effect l) locked ∙ ap (λ (o : Outcome). told_by o.effect true) out in (
        effect,
        λ to i.
            let sent = in-sends (others site.setup.f me (concerned site.setup x)) to (message.Voted tx.Commit true x) i in
            tells e.later e.slot e.place (Prepare x) e.effect e.earlier e.split (Sent to (message.Voted tx.Commit true x))
            (subst (λ o. IsIn (Sent to (message.Voted tx.Commit true x)) (vote_signs site.setup me x o)) (sym told) sent),
      )

-- ---- where no node may lie

module _ {M : Type 0} (site : Site M) (sound : IsSoundSite site) (known : Known) (trusted : site.setup.f ≡ 0) (me : NodeId) (honest : is_honest site me ≡ true) where
  only-me : (from f : ℕ) → f ≡ 0 → from ≤ 3 * f → me.index < 3 * f + 1 → from ≡ me.index
  only-me from f none a b = omega arith

  -- each action of an entry is of a session that fits
  abbrev AllFit : Entry → Type 0
  AllFit entry = (action : Action) → IsIn action entry.actions → is_fit site.setup me.shard (session_in action) ≡ true

  -- what a node holds is its own, and fits
  own-fit : (t : List (Mark M)) → AllMade site me t → AllWithin site known me t → (p : Proposed) → IsIn p (held_in site.machine (deeds_in t)) → AllFit (site.entry_in p)
  own-fit [] made within p i = absurd i
  own-fit (In input ∷ t) made within p i = own-fit t made.1 within.1 p i
  own-fit (Plain sign ∷ t) made within p i = own-fit t made.1 within.1 p i
  own-fit (Ordered deed ∷ t) made within p i =
      elim (order-either p (entries_handed_in site.machine deed) (held_in site.machine (deeds_in t)) i) [
        | inl now ↦ by deed made within now (λ q j. own-fit t made.1 within.1 q j)
        | inr before ↦ own-fit t made.1 within.1 p before
      ]
    where
      by : (deed : Deed M) → AllMade site me (Ordered deed ∷ t) → AllWithin site known me (Ordered deed ∷ t) → IsIn p (entries_handed_in site.machine deed)
          → ((q : Proposed) → IsIn q (held_in site.machine (deeds_in t)) → AllFit (site.entry_in q)) → AllFit (site.entry_in p)
      by (Took_in from m) made within j held =
          let keeps = (deeds-kept site sound known me (Ordered (Took_in from m) ∷ t) made).0 in
          absurd (keeps.1 (only-me from site.setup.f trusted keeps.0 (sound.index me honest)))
      by (Advanced step sent) made within j held = absurd j
      by (Echoed sent) made within j held = absurd j
      by (Ticked on sent) made within j held = absurd j
      by (Resent sent) made within j held = absurd j
      by (Replied slot to sent) made within j held = absurd j
      by (Cut slot) made within j held = absurd j
      by (Proposing proposed sent) made within (inr none) held = absurd none
      by (Proposing proposed sent) made within (inl same) held =
          let v = view_at site me t in
          elim made.0.1 as (λ z. AllFit (site.entry_in p)) [
            | inl due ↦
                let read : site.entry_in p ≡ due.entry = ap site.entry_in (same ∙ due.is) ∙ due-read site sound known me t due.entry made.1 within.1 (local site sound known me t made.1 within.1) due.due in
                let one : AllFit due.entry =
                (λ action i.
                let d = due-from site.setup v.bench.pool due.entry due.due action i in
                let s : IsSourced site me t d.0 = subst (λ (n : NodeId). IsSourced site n t d.0) (me-same site me t) (pool-sourced site me t made.1 d.0 d.1) in
                let session : session_in action ≡ d.0.1.session = elim d.2 [ inl prepare ↦ ap session_in prepare | inr decision ↦ ap session_in decision.1 ] in
                ap (λ z. is_fit site.setup me.shard z) session ∙ s.fit) in
                subst AllFit (sym read) one
            | inr candidate ↦
                let may = ap site.machine.may_propose (sym (member-is site me t)) ∙ candidate.may in
                held p (subst (λ z. IsIn z (held_in site.machine (deeds_in t))) (sym same) (sound.holds.offered site.setup.f me.index (deeds_in t) (deeds-kept site sound known me t made.1) candidate.candidates proposed may candidate.within))
          ]

  -- so a Prepare that it executed is of a session that fits
  pub prepare-own : (t : List (Mark M)) → AllMade site me t → AllWithin site known me t → (x : Session) → Executed (signs_of t) (Prepare x) → is_fit site.setup me.shard x ≡ true
  prepare-own t made within x e =
      let c = part site known me t e.later (Did e.slot e.place (Prepare x) e.effect) e.earlier made within e.split in
      let did = c.made.0 in
      let at = subst (λ (h : Member M). slice_get (chosen_in h.deeds) e.slot ≡ Some did.proposed) (member-is site me c.before) did.chosen in
      let held = sound.holds.logged site.setup.f me.index (deeds_in c.before) (deeds-kept site sound known me c.before c.made.1) e.slot did.proposed at in
      own-fit c.before c.made.1 c.within did.proposed held (Prepare x) (got-in (site.entry_in did.proposed).actions e.place (Prepare x) did.within)
