-- Each input makes only marks that are made.
use Rattle.std.proofs.Common.{◌≡◌, ◌≢◌, inl, inr, ℕ, ◌+◌, ◌*◌, ◌≤◌, ◌^◌, Bool, true, false, not, List, [], ◌∷◌, ◌++◌, length, Option, Some, None, is_some, sym, ◌∙◌, ap, subst, refl, append_assoc, arith}
use Rattle.std.specs.Prelude.{Ok, Err, ◌==◌, nat_lt}
use Rattle.std.proofs.lemmas.Bool.{cond_both, and_parts, eqb-true}
use Rattle.cs_base.specs.Lists.{IsIn}
use Rattle.cs_base.specs.declared.key.Key.{Key}
use Rattle.cs_base.specs.declared.node_id.NodeId.{NodeId}
use Rattle.cs_base.specs.Key.{shard_of_key}
use Rattle.cs_base.specs.NodeId.{is_client}
use Rattle.cs_tx_types.specs.declared.session.Session.{Session}
use Rattle.cs_tx_types.specs.declared.vote.Vote.{Vote}
use Rattle.cs_tx_types.specs.declared.vote.Vote.TheVariants.{Commit}
use Rattle.cs_wire_message.specs.declared.message.Message.{Message}
use Rattle.cs_wire_message.specs.declared.message.Message.TheVariants as message
use Rattle.cs_wire_message.specs.Classes.{Class, OfOrder, class_of}
use Rattle.cs_order.specs.declared.answers.Outgoing.{Outgoing}
use Rattle.cs_order.specs.declared.answers.Took.{Took as Answer}
use Rattle.cs_order.specs.declared.answers.Took.TheVariants as took
use Rattle.cs_order.specs.Deeds.{Deed, Took_in, Ticked, Resent, Replied, Member, chosen_in}
use Rattle.cs_wire.specs.Opened.{Opened}
use Rattle.cs_ledger.specs.Ledger.{Bytes}
use Rattle.cs_ledger.specs.Table as Shard
use Rattle.cs_node_rules.specs.declared.cause.Cause.{Cause}
use Rattle.cs_node_rules.specs.declared.cause.Cause.TheVariants.{Unopened, Mine, Role, Malformed, Old, Far, Leader, Repeat, Unasked, Denied, Full, NoProof}
use Rattle.cs_node_rules.proofs.Heard.{heard}
use Rattle.cs_node_state.specs.declared.pooled.Pooled.{Pooled}
use Rattle.cs_node_state.specs.Setup.{digest_of, is_concerned_shard, concerned, is_fit, is_session_approved}
use Rattle.cs_node_state.specs.Admission.{due}
use Rattle.cs_node_state.specs.Evidence.{has_voted}
use Rattle.cs_node_rules.specs.Members.{is_other_member, others}
use Rattle.cs_node_state.specs.Pool.{Pool, found, is_pooled, pool_has_room}
use Rattle.cs_node_state.specs.Asked.{told_at, key_asked}
use Rattle.cs_node_state.specs.Bench.{decision_on, noted}
use Rattle.cs_tx_types.specs.declared.proof.Proof.{Proof}
use Rattle.cs_check_rules.specs.Heads.{is_news}
use Rattle.cs_check_rules.specs.Proofs.{proof_of}
use Rattle.cs_node_rules.specs.Signs.{Sign, Dropped, Took, Entered, Kept, Sent, guarded, proof_signs, submitted_signs, submit_signs, told_signs, ask_signs, asking_signs, ballot_signs, voted_signs, sends, vote_signs, asked_again, said_signs}
use Rattle.cs_node_rules.specs.Site.{Input, Datagram, Tick, Mark, In, Ordered, Plain, Site, View, view_after, plain, signs_of}
use Rattle.cs_node_rules.specs.Trail.{with_deed, taking_marks, member_marks, reply_marks, want_marks, class_marks, message_marks, opened_marks, again_marks, waiting_marks, tick_marks, input_marks, event_marks, settled}
use Rattle.cs_node_rules.specs.Collisions.{sessions_in}
use Rattle.cs_node_law.specs.Made.{view_at, has_given, IsKnown, StoodDecided, SignMade, IsOffered, IsVoted, IsTaken, IsLevel, ReadsProper, InputFits, EventIsMade}
use Rattle.cs_node_law.proofs.Views.{view_after-append, me-same, member-is}
use Rattle.cs_node_law.proofs.Silent.{sent-more, sent-over, AreSaid, said-append, said-sends, said-level, Handed, done-level, deed-level, moving-level}
use Rattle.cs_node_law.proofs.Turns.{sign-level, settled-level}
use Rattle.cs_node_law.proofs.Notes.{notes-given}
use Rattle.cs_node_law.proofs.Pools.{Place, heard-given, pool-sourced}

given-level : {M : Type 0} (site : Site M) (me : NodeId) (t : List (Mark M)) (input : Input) → IsLevel site me t → IsLevel site me (In input ∷ t)
given-level {M} site me t input l = record { made = (tt, l.made); executed = l.executed }

-- ---- what a datagram says

module _ {M : Type 0} (site : Site M) (me : NodeId) (t : List (Mark M)) (bytes : Bytes) (l : IsLevel site me t) where
  abbrev Given : List (Mark M)
  Given = In (Datagram bytes) ∷ t

  abbrev Now : View M
  Now = view_at site me t

  abbrev Says : NodeId → Message → Type 0
  Says sender said = site.net.opened Now.me bytes ≡ Ok (sender, said)

  given : IsLevel site me Given
  given = given-level site me t (Datagram bytes) l

  abbrev Makes : List Sign → Type 0
  Makes signs = IsLevel site me (plain signs ++ Given)

  dropped : (cause : Cause) → Makes (Dropped cause ∷ [])
  dropped cause = sign-level site me Given (Dropped cause) (λ past. refl) given tt

  tested : (holds : Bool) (cause : Cause) (signs : List Sign) → (holds ≡ true → Makes signs) → Makes (guarded holds cause signs)
  tested holds cause signs f = cond_both holds _ _ (λ s. Makes s) f (λ e. dropped cause)

  sent : (to : NodeId) (said : Message) → SignMade site (view_at site me Given) Given (Sent to said) → Makes (Sent to said ∷ [])
  sent to said made = sign-level site me Given (Sent to said) (λ past. refl) given made

  offered : (sender : NodeId) (said : Message) (x : Session) → Says sender said → IsIn x (sessions_in said) → is_fit site.setup Now.me.shard x ≡ true → is_session_approved site.setup x ≡ true → IsOffered site (view_at site me Given) Given x
  offered sender said x e about fit approved =
      record { sender = sender; said = said; heard = record { bytes = bytes; is_current = refl; reads = e }; about = about; fit = fit; approved = approved }

  -- sessions that are submitted

  -- how a session stands now
  stands : (sender : NodeId) (x : Session) (accepted : Bool) → Says sender (message.Submit x) → is_fit site.setup Now.me.shard x ≡ true → decision_on site.setup Now.me.shard Now.bench.table x ≡ Some accepted → StoodDecided site Now.me Given (digest_of site.setup x) accepted
  stands sender x accepted e fit is = record {
    session = x;
    digest_is = refl;
    known = heard-given site sessions_in me Given sender (message.Submit x) x (record { bytes = bytes; is_current = refl; reads = e }) (inl refl);
    fit = fit;
    later = In (Datagram bytes) ∷ [];
    earlier = t;
    split = refl;
    stood = ap (λ (n : NodeId). decision_on site.setup Now.me.shard (view_at site n t).bench.table x) (me-same site me t) ∙ is;
  }

  submitted : (sender : NodeId) (x : Session) (o : Option Bool) → Says sender (message.Submit x) → is_client sender ≡ true → is_fit site.setup Now.me.shard x ≡ true → decision_on site.setup Now.me.shard Now.bench.table x ≡ o → Makes (submitted_signs site.setup Now.bench sender x o)
  submitted sender x (Some accepted) e client fit is = sent sender (message.Decided (digest_of site.setup x) accepted) (inr (client, stands sender x accepted e fit is))
  submitted sender x None e client fit is =
      tested (not (is_pooled (digest_of site.setup x) Now.bench.pool)) Repeat _
      (λ new. tested (is_session_approved site.setup x) Denied _
      (λ approved. tested (pool_has_room Now.bench.pool) Full _
      (λ room. sign-level site me Given (Entered x) (λ past. refl) given (inl (offered sender (message.Submit x) x e (inl refl) fit approved)))))

  submits : (sender : NodeId) (x : Session) → Says sender (message.Submit x) → Makes (submit_signs site.setup Now.me.shard Now.bench sender x)
  submits sender x e =
      tested (is_client sender) Role _
      (λ client. tested (is_fit site.setup Now.me.shard x) Malformed _
      (λ fit. submitted sender x (decision_on site.setup Now.me.shard Now.bench.table x) e client fit refl))

  told : (sender : NodeId) (key : Key) → is_client sender ≡ true → Makes (told_signs site.setup Now.me.shard Now.bench sender key)
  told sender key client = tested (shard_of_key site.setup.shards key == Now.me.shard) Mine _ (λ home. sent sender (message.Told key (told_at Now.bench.table key)) (inr (client, refl)))

  asks : (sender : NodeId) (asked : Option Key) → Makes (ask_signs site.setup Now.me.shard Now.bench sender asked)
  asks sender asked = tested (is_client sender) Role _ (λ client. told sender (key_asked Now.bench.table Now.me.shard asked) client)

  proved : (sender : NodeId) → is_client sender ≡ true → (o : Option Proof) → Makes (proof_signs sender o)
  proved sender client None = dropped NoProof
  proved sender client (Some proof) = sent sender (message.Proof proof) (inr (client, refl))

  -- votes of other nodes

  module _ (sender : NodeId) (vote : Vote) (again : Bool) (x : Session) (e : Says sender (message.Voted vote again x)) (fit : is_fit site.setup Now.me.shard x ≡ true) (concerned : is_concerned_shard site.setup x sender.shard ≡ true) where
    knows : IsKnown site (view_at site me Given) Given x
    knows = inl (heard-given site sessions_in me Given sender (message.Voted vote again x) x (record { bytes = bytes; is_current = refl; reads = e }) (inl refl))

    counts : (u : List (Mark M)) → IsLevel site me u → IsVoted site (view_at site me u) u sender vote x → IsLevel site me (Plain (Took sender vote x) ∷ u)
    counts u level voted = sign-level site me u (Took sender vote x) (λ past. refl) level (inr voted)

    asking : (o : Option Vote) → noted site.setup Now.me.shard Now.bench.table x ≡ o → Makes (asking_signs site.setup Now.bench sender vote again x o)
    asking (Some before) is =
        tested again Unasked _ (λ a. sent sender (message.Voted before false x) (inr (notes-given site me Given x before given.made is, knows)))
    asking None is =
        tested again Unasked _
        (λ a. tested (is_session_approved site.setup x) Denied _
        (λ approved. tested (pool_has_room Now.bench.pool) Full _
        (λ room.
        let new = sign-level site me Given (Entered x) (λ past. refl) given (inl (offered sender (message.Voted vote again x) x e (inl refl) fit approved)) in
        counts (Plain (Entered x) ∷ Given) new (record { asks = again; heard = record { bytes = bytes; is_current = refl; reads = e }; fit = fit; concerned = concerned }))))

    balloting : (o : Option Pooled) → Makes (ballot_signs site.setup Now.me.shard Now.bench sender vote again x o)
    balloting (Some p) =
        tested (not (has_voted sender p.ballots)) Repeat _
        (λ new. counts Given given (record { asks = again; heard = record { bytes = bytes; is_current = refl; reads = e }; fit = fit; concerned = concerned }))
    balloting None = asking (noted site.setup Now.me.shard Now.bench.table x) refl

  votes : (sender : NodeId) (vote : Vote) (again : Bool) (x : Session) → Says sender (message.Voted vote again x) → Makes (voted_signs site.setup Now.me.shard Now.bench sender vote again x)
  votes sender vote again x e =
      tested (not (is_client sender)) Role _
      (λ node. tested (is_fit site.setup Now.me.shard x) Malformed _
      (λ fit. tested (is_concerned_shard site.setup x sender.shard) Role _
      (λ concerned. balloting sender vote again x e fit concerned (found (digest_of site.setup x) Now.bench.pool))))

  -- messages of other members

  abbrev Marks : List (Mark M) → Type 0
  Marks marks = IsLevel site me (marks ++ Given)

  -- the sender is another member
  pub record IsOther (sender : NodeId) : Type 0 where
    pub home : sender.shard ≡ Now.me.shard
    pub below : sender.index ≤ 3 * Now.member.f
    pub other : sender.index ≢ Now.member.me

  other-from : (sender : NodeId) → is_other_member site.setup.f Now.me sender ≡ true → IsOther sender
  other-from sender h =
      let parts = and_parts (sender.shard == Now.me.shard) _ h in
      let more = and_parts (nat_lt sender.index (3 * site.setup.f + 1)) _ parts.1 in
      let f_is : Now.member.f ≡ site.setup.f = ap (λ (m : Member M). m.f) (member-is site me t) in
      let me_is : Now.member.me ≡ Now.me.index = ap (λ (m : Member M). m.me) (member-is site me t) ∙ ap (λ (n : NodeId). n.index) (sym (me-same site me t)) in
      record {
        home = eqb-true _ _ parts.0;
        below = subst (λ f. sender.index ≤ 3 * f) (sym f_is) (under sender.index site.setup.f more.0);
        other = subst (λ i. sender.index ≢ i) (sym me_is) (apart sender.index Now.me.index more.1);
      }
    where
      under : (i f : ℕ) → nat_lt i (3 * f + 1) ≡ true → i ≤ 3 * f
      under i f h = grind (arith, h)

      apart : (i j : ℕ) → not (i == j) ≡ true → i ≢ j
      apart i j h = grind (arith, h)

  module _ (proper : ReadsProper site) (fits : InputFits site Now.me (Datagram bytes)) where
    taking : (sender : NodeId) (said : Message) (m : M) (answer : Answer) → Says sender said → site.carrier.read said ≡ Some m → IsOther sender → site.machine.taking Now.member sender.index m ≡ answer → Marks (taking_marks sender.index m answer)
    taking sender said m took.Taken e reads other is =
        let heard : site.net.opened Now.me bytes ≡ Ok (record { shard = Now.me.shard; index = sender.index }, said) = subst (λ s. site.net.opened Now.me bytes ≡ Ok (record { shard = s; index = sender.index }, said)) other.home e in
        let taken : IsTaken site Now Given sender.index m = record { said = said; heard = record { bytes = bytes; is_current = refl; reads = heard }; reads = reads } in
        done-level site me Given (Took_in sender.index m) given ((other.below, other.other, proper.messages said m (fits sender said e) reads, is), taken) refl
    taking sender said m took.Old e reads other is = dropped Old
    taking sender said m took.Far e reads other is = dropped Far
    taking sender said m took.Leader e reads other is = dropped Leader
    taking sender said m took.Repeat e reads other is = dropped Repeat

    member : (sender : NodeId) (said : Message) (o : Option M) → Says sender said → site.carrier.read said ≡ o → Marks (member_marks site Now sender o)
    member sender said None e reads = dropped Role
    member sender said (Some m) e reads =
        cond_both (is_other_member site.setup.f Now.me sender) _ _ (λ marks. Marks marks)
        (λ other. taking sender said m _ e reads (other-from sender other) refl)
        (λ not. dropped Role)

    replies : (slot to : ℕ) (o : Option (Outgoing M)) → site.machine.replying Now.member slot to ≡ o → Marks (reply_marks site Now slot to o)
    replies slot to None is = dropped Far
    replies slot to (Some out) is = deed-level site me Given (Replied slot to (out ∷ [])) given ((out, is, refl), tt) refl

    wants : (sender : NodeId) (slot : ℕ) → Marks (want_marks site Now sender slot)
    wants sender slot =
        cond_both (is_other_member site.setup.f Now.me sender) _ _ (λ marks. Marks marks)
        (λ other. replies slot sender.index _ refl)
        (λ not. dropped Role)

    heard-level : (sender : NodeId) (said : Message) → Says sender said → Marks (plain (said_signs site.setup Now.me Now.bench sender said))
    heard-level sender (message.Submit x) e = submits sender x e
    heard-level sender (message.Ask asked) e = asks sender asked
    heard-level sender (message.AskProof slot place) e = tested (is_client sender) Role _ (λ client. proved sender client (proof_of Now.bench.log slot))
    heard-level sender (message.Voted vote again x) e = votes sender vote again x e
    heard-level sender (message.Head checkpoint) e =
        tested (is_other_member site.setup.f Now.me sender) Role _
        (λ other. tested (is_news sender.index checkpoint Now.bench.heads) Repeat _
        (λ new. sign-level site me Given (Kept sender.index checkpoint) (λ past. refl) given tt))
    heard-level sender said e = dropped Role

    class-level : (sender : NodeId) (said : Message) (class : Class) → Says sender said → Marks (class_marks site Now sender said class)
    class-level sender said OfOrder e = member sender said _ e refl
    class-level sender said class e = heard-level sender said e

    message-level : (sender : NodeId) (said : Message) → Says sender said → Marks (message_marks site Now sender said)
    message-level sender (message.Want slot) e = wants sender slot
    message-level sender said e = class-level sender said (class_of said) e

    opened-level : (o : Opened) → site.net.opened Now.me bytes ≡ o → Marks (opened_marks site Now o)
    opened-level (Ok said) e = message-level said.0 said.1 e
    opened-level (Err error) e = dropped (Unopened error)

-- ---- time that has passed

module _ {M : Type 0} (site : Site M) (me : NodeId) (t : List (Mark M)) (l : IsLevel site me t) where
  abbrev Ticking : List (Mark M)
  Ticking = In Tick ∷ t

  abbrev Then : View M
  Then = view_at site me t

  ticking : IsLevel site me Ticking
  ticking = given-level site me t Tick l

  abbrev Again : Deed M
  Again = Resent (site.machine.resending Then.member)

  abbrev Resending : List (Mark M)
  Resending = with_deed site Then Again ++ Ticking

  resending : IsLevel site me Resending
  resending = deed-level site me Ticking Again ticking (refl, tt) refl

  -- the commit of a locked session may be sent again
  locked-sent : (e : Place) (to : NodeId) → IsIn e Then.bench.pool → e.1.locked ≡ true → SignMade site (view_at site me Resending) Resending (Sent to (message.Voted Commit true e.1.session))
  locked-sent e to i locked =
      let s = pool-sourced site me Ticking ticking.made e i in
      let given : has_given site.setup (digest_of site.setup e.1.session) Shard.Commit (signs_of Ticking) ≡ true = subst (λ d. has_given site.setup d Shard.Commit (signs_of Ticking) ≡ true) s.digest (s.locked locked) in
      let knows : IsKnown site Then Ticking e.1.session = elim s.source [ inl a ↦ inl a.1 | inr v ↦ inr v ] in
      let said = message.Voted Commit true e.1.session in
      let done = sent-more site me (Ordered Again) Ticking to said (inr (given, knows)) in
      let onto = append_assoc (plain (Handed site me Ticking Again)) (Ordered Again ∷ []) Ticking in
      subst (λ u. SignMade site (view_at site me u) u (Sent to said)) (sym onto) (sent-over site me (Handed site me Ticking Again) (Ordered Again ∷ Ticking) to said done)

  asked-said : (pool : Pool) → ((e : Place) → IsIn e pool → IsIn e Then.bench.pool) → AreSaid site me Resending (asked_again site.setup Then.me pool)
  asked-said [] within = tt
  asked-said (e ∷ pool) within =
      let asks = λ (locked : e.1.locked ≡ true). said-sends site me Resending (others site.setup.f Then.me (concerned site.setup e.1.session)) (message.Voted Commit true e.1.session) (λ to i. locked-sent e to (within e (inl refl)) locked) in
      said-append site me Resending (asked_again site.setup Then.me pool) _ (asked-said pool (λ other i. within other (inr i)))
      (cond_both e.1.locked (vote_signs site.setup Then.me e.1.session (Some (Commit, true))) [] (λ signs. AreSaid site me Resending signs) asks (λ waits. tt))

  abbrev Asking : List Sign
  Asking = sends (others site.setup.f Then.me (Then.me.shard ∷ [])) (message.Want (length (chosen_in Then.member.deeds))) ++ asked_again site.setup Then.me Then.bench.pool

  asking-said : AreSaid site me Resending Asking
  asking-said =
      said-append site me Resending (sends (others site.setup.f Then.me (Then.me.shard ∷ [])) (message.Want (length (chosen_in Then.member.deeds)))) _
      (said-sends site me Resending (others site.setup.f Then.me (Then.me.shard ∷ [])) (message.Want (length (chosen_in Then.member.deeds))) (λ to i. inr tt))
      (asked-said Then.bench.pool (λ e i. i))

  again-level : IsLevel site me (again_marks site Then ++ Ticking)
  again-level = subst (λ z. IsLevel site me z) (sym (append_assoc (plain Asking) (with_deed site Then Again) Ticking)) (said-level site me Asking Resending resending asking-said)

  waits : (on : Bool) (u : List (Mark M)) → IsLevel site me u → IsLevel site me (waiting_marks site (view_at site me u) on ++ u)
  waits on u level = moving-level site me u (Ticked on (site.machine.ticking (view_at site me u).member on)) level (refl, tt) refl

  tick-level : IsLevel site me (tick_marks site Then ++ Ticking)
  tick-level =
      let again = again_marks site Then in
      let on = is_some (due site.setup Then.bench.pool) in
      let after = subst (λ (w : View M). IsLevel site me (waiting_marks site w on ++ (again ++ Ticking))) (view_after-append site again Ticking _) (waits on (again ++ Ticking) again-level) in
      subst (λ z. IsLevel site me z) (sym (append_assoc (waiting_marks site (view_after site again Then) on) again Ticking)) after

-- ---- an event

pub input-level : {M : Type 0} (site : Site M) (proper : ReadsProper site) (me : NodeId) (t : List (Mark M)) (input : Input) → InputFits site me input → IsLevel site me t → IsLevel site me (input_marks site (view_at site me t) input ++ In input ∷ t)
input-level {M} site proper me t (Datagram bytes) fits l =
    opened-level site me t bytes l proper (subst (λ (i : NodeId). InputFits site i (Datagram bytes)) (sym (me-same site me t)) fits) _ refl
input-level {M} site proper me t Tick fits l = tick-level site me t l

pub event-level : {M : Type 0} (site : Site M) → EventIsMade site
unfolding event_marks
event-level {M} site proper me t input fits l =
    let v = view_at site me t in
    let first = input_marks site v input ++ In input ∷ [] in
    let P : List (Mark M) → Type 0 = λ z. IsLevel site me z in
    let l1 : IsLevel site me (first ++ t) = subst P (sym (append_assoc (input_marks site v input) (In input ∷ []) t)) (input-level site proper me t input fits l) in
    subst P (sym (append_assoc (settled site (2 ^ 80) _) first t))
    (subst (λ w. IsLevel site me (settled site (2 ^ 80) w ++ (first ++ t))) (view_after-append site first t _) (settled-level site me proper (2 ^ 80) (first ++ t) l1))
