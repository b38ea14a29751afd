-- What the order of a node hands out is sent, whatever its order is.
use Rattle.std.proofs.Common.{◌≡◌, ℕ, zero, suc, ◌+◌, ◌-◌, ◌*◌, ◌%◌, ◌^◌, ◌==◌, nat_lt, true, not, ◌&&◌, List, [], ◌∷◌, ◌++◌, length, Option, Some, None, is_some, inl, inr, refl, sym, ap, ◌∙◌, subst}
use Rattle.std.specs.Prelude.{Ok, Err}
use Rattle.std.proofs.lemmas.Bool.{cond_both, and_parts, and_from, eq-eqb}
use Rattle.cs_base.specs.declared.node_id.NodeId.{NodeId}
use Rattle.cs_base.specs.NodeId.{same_name}
use Rattle.cs_tx_types.specs.declared.entry.Entry.{Entry}
use Rattle.cs_wire_message.specs.declared.message.Message.{Message}
use Rattle.cs_wire_message.specs.declared.message.Message.TheVariants as message
use Rattle.cs_wire_message.specs.Classes.{Class, OfOrder, class_of}
use Rattle.cs_order.specs.declared.proposed.Proposed.{Proposed}
use Rattle.cs_order.specs.declared.answers.Outgoing.{Outgoing}
use Rattle.cs_order.specs.declared.answers.Took.{Took as Answer}
use Rattle.cs_order.specs.declared.answers.Took.TheVariants as took
use Rattle.cs_order.specs.declared.answers.Step.{Step}
use Rattle.cs_order.specs.declared.answers.Step.TheVariants.{Chosen, Moved, Quiet}
use Rattle.cs_order.specs.declared.answers.May.{May}
use Rattle.cs_order.specs.declared.answers.May.TheVariants.{No, Free, Only}
use Rattle.cs_order.specs.Deeds.{Deed, Took_in, Advanced, Echoed, Proposing, Ticked, Resent, Replied, Cut, did, sent_by, chosen_in}
use Rattle.cs_wire.specs.Opened.{Opened}
use Rattle.cs_base.specs.Lists.{IsIn}
use Rattle.cs_ledger.proofs.Basics.{in_left, in_right, in_either}
use Rattle.cs_check_rules.specs.Chain.{kept_slots}
use Rattle.cs_node_state.specs.Admission.{due}
use Rattle.cs_node_rules.specs.declared.cause.Cause.{Cause}
use Rattle.cs_node_rules.specs.declared.cause.Cause.TheVariants as cause
use Rattle.cs_node_rules.specs.Members.{is_other_member, others}
use Rattle.cs_node_rules.specs.Signs.{Sign, Dropped, sends, execution_signs, asked_again, said_signs}
use Rattle.cs_node_rules.specs.Site.{Input, Datagram, Tick, Mark, In, Ordered, Plain, Site, View, view_after, plain, signs_of}
use Rattle.cs_node_rules.specs.Trail.{out_signs, handed, with_deed, moving, entered_view, cut_marks, admits_proposed, due_marks, candidate_marks, propose_marks, echo_marks, step_marks, turn_marks, continued, settled, drops, taking_marks, member_marks, reply_marks, want_marks, class_marks, message_marks, opened_marks, again_marks, waiting_marks, tick_marks, input_marks, event_marks}
use Rattle.cs_node_rules.specs.World.{Happening, trail_of, view_of, IsLife}
use Rattle.cs_node_law.proofs.Views.{signs_of-append, me-same}
use Rattle.cs_world_law.proofs.Deeds.{deeds_in}
use Rattle.cs_world_law.proofs.Trails.{same-name}

-- a deed that answers is for another member
abbrev pub AnswersOther : {M : Type 0} → ℕ → NodeId → Deed M → Type 0
AnswersOther {M} f me (Replied slot to sent) = is_other_member f me (record { shard = me.shard; index = to }) ≡ true
AnswersOther {M} f me (Took_in from m) = Unit {0}
AnswersOther {M} f me (Advanced step sent) = Unit {0}
AnswersOther {M} f me (Echoed sent) = Unit {0}
AnswersOther {M} f me (Proposing entry sent) = Unit {0}
AnswersOther {M} f me (Ticked due sent) = Unit {0}
AnswersOther {M} f me (Resent sent) = Unit {0}
AnswersOther {M} f me (Cut slot) = Unit {0}

-- what the deed hands out makes these signs
pub record IsHandled {M : Type 0} (site : Site M) (me : NodeId) (signs : List Sign) (deed : Deed M) : Type 0 where
  pub sent : (out : Outgoing M) → IsIn out (sent_by deed) → (sign : Sign) → IsIn sign (out_signs site me out.to out.message) → IsIn sign signs
  pub other : AnswersOther site.setup.f me deed

-- so do all deeds among these marks
abbrev pub AreHandled : {M : Type 0} → Site M → NodeId → List (Mark M) → Type 0
AreHandled {M} site me marks = (deed : Deed M) → IsIn (Ordered deed) marks → IsHandled site me (signs_of marks) deed

-- the deeds of a node are among its marks
pub in-marks : {M : Type 0} (deed : Deed M) (t : List (Mark M)) → IsIn deed (deeds_in t) → IsIn (Ordered deed) t
in-marks {M} deed [] i = absurd i
in-marks {M} deed (In input ∷ t) i = inr (in-marks deed t i)
in-marks {M} deed (Plain sign ∷ t) i = inr (in-marks deed t i)
in-marks {M} deed (Ordered done ∷ t) (inl e) = inl (ap (λ (d : Deed M). let m : Mark M = Ordered d in m) e)
in-marks {M} deed (Ordered done ∷ t) (inr i) = inr (in-marks deed t i)

no-plain : {M : Type 0} (deed : Deed M) (signs : List Sign) → IsIn (Ordered deed) (plain signs) → ⊥
no-plain {M} deed [] i = i
no-plain {M} deed (sign ∷ signs) (inl e) = cc
no-plain {M} deed (sign ∷ signs) (inr i) = no-plain deed signs i

signs-plain : (M : Type 0) (signs : List Sign) → signs_of {M = M} (plain signs) ≡ signs
signs-plain M [] = refl
signs-plain M (sign ∷ signs) = ap (λ (l : List Sign). sign ∷ l) (signs-plain M signs)

me-after : {M : Type 0} (site : Site M) (marks : List (Mark M)) (v : View M) → (view_after site marks v).me ≡ v.me
me-after {M} site [] v = refl
me-after {M} site (In input ∷ past) v = me-after site past v
me-after {M} site (Ordered deed ∷ past) v = me-after site past v
me-after {M} site (Plain sign ∷ past) v = me-after site past v

-- a name of the shard, where the sender is another member
own-shard : (f : ℕ) (me sender : NodeId) → is_other_member f me sender ≡ true → is_other_member f me (record { shard = me.shard; index = sender.index }) ≡ true
own-shard f me sender e =
    let parts = and_parts (sender.shard == me.shard) (nat_lt sender.index (3 * f + 1) && not (sender.index == me.index)) e in
    and_from (me.shard == me.shard) (nat_lt sender.index (3 * f + 1) && not (sender.index == me.index)) (eq-eqb me.shard me.shard refl) parts.1

module _ {M : Type 0} (site : Site M) (me : NodeId) where
  abbrev All : List (Mark M) → Type 0
  All marks = AreHandled site me marks

  handed-in : (outs : List (Outgoing M)) (out : Outgoing M) → IsIn out outs → (sign : Sign) → IsIn sign (out_signs site me out.to out.message) → IsIn sign (handed site me outs)
  handed-in [] out i sign j = absurd i
  handed-in (first ∷ outs) out (inl e) sign j =
      in_right sign (handed site me outs) (out_signs site me first.to first.message) (subst (λ (o : Outgoing M). IsIn sign (out_signs site me o.to o.message)) e j)
  handed-in (first ∷ outs) out (inr i) sign j = in_left sign (handed site me outs) (out_signs site me first.to first.message) (handed-in outs out i sign j)

  more-signs : (a b : List Sign) (deed : Deed M) → ((sign : Sign) → IsIn sign a → IsIn sign b) → IsHandled site me a deed → IsHandled site me b deed
  more-signs a b deed within h = record { sent = λ out i sign j. within sign (h.sent out i sign j); other = h.other }

  all-append : (a b : List (Mark M)) → All a → All b → All (a ++ b)
  all-append a b p q deed i =
      let same = sym (signs_of-append a b) in
      elim (in_either (Ordered deed) a b i) as (λ z. IsHandled site me (signs_of (a ++ b)) deed) [
        | inl h ↦ subst (λ l. IsHandled site me l deed) same (more-signs (signs_of a) (signs_of a ++ signs_of b) deed (λ sign j. in_left sign (signs_of a) (signs_of b) j) (p deed h))
        | inr h ↦ subst (λ l. IsHandled site me l deed) same (more-signs (signs_of b) (signs_of a ++ signs_of b) deed (λ sign j. in_right sign (signs_of a) (signs_of b) j) (q deed h))
      ]

  all-plain : (signs : List Sign) → All (plain signs)
  all-plain signs deed i = absurd (no-plain deed signs i)

  -- a deed behind signs, among which what it hands out is
  all-deed : (signs : List Sign) (deed : Deed M) → ((sign : Sign) → IsIn sign (handed site me (sent_by deed)) → IsIn sign signs) → AnswersOther site.setup.f me deed → All (plain signs ++ Ordered deed ∷ [])
  all-deed signs deed within other done i =
      elim (in_either (Ordered done) (plain signs) (Ordered deed ∷ []) i) as (λ z. IsHandled site me (signs_of (plain signs ++ Ordered deed ∷ [])) done) [
        | inl h ↦ absurd (no-plain done signs h)
        | inr h ↦ here h
      ]
    where
      signs-are : signs_of (plain signs ++ Ordered deed ∷ []) ≡ signs ++ []
      signs-are = signs_of-append (plain signs) (Ordered deed ∷ []) ∙ ap (λ (l : List Sign). l ++ []) (signs-plain M signs)

      own : IsHandled site me (signs_of (plain signs ++ Ordered deed ∷ [])) deed
      own =
          subst (λ l. IsHandled site me l deed) (sym signs-are)
          (record { sent = λ out j sign k. in_left sign signs [] (within sign (handed-in (sent_by deed) out j sign k)); other = other })

      here : IsIn (Ordered done) (Ordered deed ∷ []) → IsHandled site me (signs_of (plain signs ++ Ordered deed ∷ [])) done
      here (inl e) = let same : deed ≡ done = cc in subst (λ d. IsHandled site me (signs_of (plain signs ++ Ordered deed ∷ [])) d) same own
      here (inr none) = absurd none

-- ---- the rules

module _ {M : Type 0} (site : Site M) (v : View M) where
  abbrev Here : List (Mark M) → Type 0
  Here marks = AreHandled site v.me marks

  abbrev Each : Option (List (Mark M)) → Type 0
  Each None = Unit {0}
  Each (Some marks) = Here marks

  by-deed : (deed : Deed M) → AnswersOther site.setup.f v.me deed → Here (with_deed site v deed)
  by-deed deed other = all-deed site v.me (handed site v.me (sent_by deed)) deed (λ sign i. i) other

  by-moving : (deed : Deed M) → AnswersOther site.setup.f v.me deed → Here (moving site v deed)
  by-moving deed other =
      let out = handed site v.me (sent_by deed) in
      let seen = entered_view (length (chosen_in v.member.deeds)) (site.machine.view v.member) (site.machine.view (did deed v.member)) in
      all-deed site v.me (out ++ seen) deed (λ sign i. in_left sign out seen i) other

  by-due : (o : Option Entry) → Each (due_marks site v o)
  by-due None = tt
  by-due (Some entry) = by-deed (Proposing (site.proposed_of entry) (site.machine.proposing v.member (site.proposed_of entry))) tt

  by-candidate : (candidates : List Proposed) → Each (candidate_marks site v candidates)
  by-candidate [] = tt
  by-candidate (p ∷ more) = cond_both (admits_proposed site v p) _ _ Each (λ e. by-deed (Proposing p (site.machine.proposing v.member p)) tt) (λ e. by-candidate more)

  by-propose : (may : May) → Each (propose_marks site v may)
  by-propose No = tt
  by-propose Free = by-due (due site.setup v.bench.pool)
  by-propose (Only candidates) = by-candidate candidates

  by-echo : (o : Option Proposed) → Each (echo_marks site v o)
  by-echo None = by-propose (site.machine.may_propose v.member)
  by-echo (Some p) = cond_both (admits_proposed site v p) _ _ Each (λ e. by-deed (Echoed (site.machine.echoing v.member)) tt) (λ e. by-propose (site.machine.may_propose v.member))

  by-cut : (slot : ℕ) → Here (cut_marks slot)
  by-cut slot =
      cond_both ((slot + 1) % 16 == 0) _ _ Here
      (λ e. all-deed site v.me [] (Cut (slot + 1 - kept_slots)) (λ sign i. absurd i) tt) (λ e deed i. absurd i)

  by-step : (step : Step) → Each (step_marks site v step)
  by-step (Chosen p) =
      let slot = length (chosen_in v.member.deeds) in
      let signs = execution_signs site.setup v.me v.bench slot (site.entry_in p) in
      let deed : Deed M = Advanced (Chosen p) (site.machine.advancing v.member) in
      all-append site v.me (cut_marks slot) (plain signs ++ with_deed site v deed) (by-cut slot)
      (all-append site v.me (plain signs) (with_deed site v deed) (all-plain site v.me signs) (by-deed deed tt))
  by-step Moved = by-moving (Advanced Moved (site.machine.advancing v.member)) tt
  by-step Quiet = by-echo (site.machine.pending v.member)

  -- ---- inputs

  by-drop : (why : Cause) → Here (drops why)
  by-drop why = all-plain site v.me (Dropped why ∷ [])

  by-taking : (from : ℕ) (m : M) (answer : Answer) → Here (taking_marks from m answer)
  by-taking from m took.Taken = all-deed site v.me [] (Took_in from m) (λ sign i. absurd i) tt
  by-taking from m took.Old = by-drop cause.Old
  by-taking from m took.Far = by-drop cause.Far
  by-taking from m took.Leader = by-drop cause.Leader
  by-taking from m took.Repeat = by-drop cause.Repeat

  by-member : (sender : NodeId) (o : Option M) → Here (member_marks site v sender o)
  by-member sender None = by-drop cause.Role
  by-member sender (Some m) =
      cond_both (is_other_member site.setup.f v.me sender) _ _ Here
      (λ e. by-taking sender.index m (site.machine.taking v.member sender.index m)) (λ e. by-drop cause.Role)

  by-reply : (slot : ℕ) (sender : NodeId) (o : Option (Outgoing M)) → is_other_member site.setup.f v.me sender ≡ true → Here (reply_marks site v slot sender.index o)
  by-reply slot sender None other = by-drop cause.Far
  by-reply slot sender (Some out) other = by-deed (Replied slot sender.index (out ∷ [])) (own-shard site.setup.f v.me sender other)

  by-want : (sender : NodeId) (slot : ℕ) → Here (want_marks site v sender slot)
  by-want sender slot =
      cond_both (is_other_member site.setup.f v.me sender) _ _ Here
      (λ e. by-reply slot sender (site.machine.replying v.member slot sender.index) e) (λ e. by-drop cause.Role)

  by-class : (sender : NodeId) (said : Message) (class : Class) → Here (class_marks site v sender said class)
  by-class sender said OfOrder = by-member sender (site.carrier.read said)
  by-class sender said class = all-plain site v.me (said_signs site.setup v.me v.bench sender said)

  by-message : (sender : NodeId) (said : Message) → Here (message_marks site v sender said)
  by-message sender (message.Want slot) = by-want sender slot
  by-message sender said = by-class sender said (class_of said)

  by-opened : (o : Opened) → Here (opened_marks site v o)
  by-opened (Ok said) = by-message said.0 said.1
  by-opened (Err error) = by-drop (cause.Unopened error)

  by-again : Here (again_marks site v)
  by-again =
      let signs = sends (others site.setup.f v.me (v.me.shard ∷ [])) (message.Want (length (chosen_in v.member.deeds))) ++ asked_again site.setup v.me v.bench.pool in
      let deed : Deed M = Resent (site.machine.resending v.member) in
      all-append site v.me (plain signs) (with_deed site v deed) (all-plain site v.me signs) (by-deed deed tt)

by-tick : {M : Type 0} (site : Site M) (v : View M) → AreHandled site v.me (tick_marks site v)
by-tick {M} site v =
    let again = again_marks site v in
    let w = view_after site again v in
    let on = is_some (due site.setup v.bench.pool) in
    all-append site v.me (waiting_marks site w on) again
    (subst (λ n. AreHandled site n (waiting_marks site w on)) (me-after site again v) (by-moving site w (Ticked on (site.machine.ticking w.member on)) tt))
    (by-again site v)

by-input : {M : Type 0} (site : Site M) (v : View M) (input : Input) → AreHandled site v.me (input_marks site v input)
by-input {M} site v (Datagram bytes) = by-opened site v (site.net.opened v.me bytes)
by-input {M} site v Tick = by-tick site v

by-settled : {M : Type 0} (site : Site M) (turns : ℕ) (v : View M) → AreHandled site v.me (settled site turns v)
unfolding settled
by-settled {M} site zero v = λ deed i. absurd i
by-settled {M} site (suc turns) v = go (turn_marks site v) (by-step site v (site.machine.step v.member)) (by-settled site turns)
  where
    go : (o : Option (List (Mark M))) → Each site v o → ((w : View M) → AreHandled site w.me (settled site turns w)) → AreHandled site v.me (continued site (settled site turns) v o)
    go None all again = λ deed i. absurd i
    go (Some fresh) all again =
        let w = view_after site fresh v in
        all-append site v.me (settled site turns w) fresh (subst (λ n. AreHandled site n (settled site turns w)) (me-after site fresh v) (again w)) all

-- ---- events

event-handled : {M : Type 0} (site : Site M) (v : View M) (input : Input) → AreHandled site v.me (event_marks site v input)
unfolding event_marks
event-handled {M} site v input =
    let own = input_marks site v input in
    let first = own ++ In input ∷ [] in
    let w = view_after site first v in
    let given : AreHandled site v.me (In input ∷ []) = λ deed i. elim i as (λ z. IsHandled site v.me [] deed) [ inl e ↦ absurd cc | inr none ↦ absurd none ] in
    all-append site v.me (settled site (2 ^ 80) w) first
    (subst (λ n. AreHandled site n (settled site (2 ^ 80) w)) (me-after site first v) (by-settled site (2 ^ 80) w))
    (all-append site v.me own (In input ∷ []) (by-input site v input) given)

-- the deeds of each node are handled
pub world-handled : {M : Type 0} (site : Site M) (world : List (Happening M)) → IsLife site world → (i : NodeId) → AreHandled site i (trail_of i world)
world-handled {M} site [] life i = λ deed j. absurd j
world-handled {M} site (h ∷ past) life i =
    cond_both (same_name h.node i) (h.marks ++ trail_of i past) (trail_of i past) (λ t. AreHandled site i t)
    (λ e.
    let is = same-name h.node i e in
    let v = view_of site past h.node in
    let here : AreHandled site h.node h.marks =
    subst (λ z. AreHandled site h.node z) (sym life.0) (subst (λ n. AreHandled site n (event_marks site v h.input)) (me-same site h.node (trail_of h.node past)) (event-handled site v h.input)) in
    all-append site i h.marks (trail_of i past) (subst (λ n. AreHandled site n h.marks) is here) (world-handled site past life.1 i))
    (λ e. world-handled site past life.1 i)
