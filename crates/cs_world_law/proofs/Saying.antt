-- What the order among 3f+1 members hands out is proper, and has been sent to whom it is for.
use Rattle.std.proofs.Common.{◌≡◌, ◌⊎◌, inl, inr, ℕ, ◌+◌, Bool, true, if◌then◌else◌, List, [], ◌∷◌, ◌++◌, Option, Some, None, refl, sym, ap, ◌∙◌, subst}
use Rattle.std.proofs.lemmas.Bool.{cond_both}
use Rattle.cs_base.specs.declared.node_id.NodeId.{NodeId}
use Rattle.cs_order.specs.declared.proposed.Proposed.{Proposed}
use Rattle.cs_order.specs.declared.answers.Outgoing.{Outgoing}
use Rattle.cs_base.specs.Lists.{IsIn}
use Rattle.cs_order.specs.laws.Lists.{IsIn-right}
use Rattle.cs_order.specs.Deeds.{Deed, Took_in, Advanced, Echoed, Proposing, Ticked, Resent, Replied, Cut, Member, Machine, sent_by, entry_of_slot}
use Rattle.cs_order.specs.Runs.{KeepsRules, AllKeepRules, IsFor, entries_handed_in, held_in}
use Rattle.cs_order_rules.specs.declared.message.OrderMessage.{OrderMessage}
use Rattle.cs_order_rules.specs.declared.message.OrderMessage.TheVariants as message
use Rattle.cs_order_rules.specs.Facts.{Facts, Sight, open_slot, proposal_said, echo_said, confirm_said, change_said}
use Rattle.cs_order_rules.specs.Rules.{to_all, change_told, sent_by_rules, choice, view_to_enter, confirming, pending, echo_sent, propose_sent, is_slot_over, tick_sent, own, sent_again, resend_sent, reply_with}
use Rattle.cs_order_rules.specs.SlotMachine.{with_own, facts_in, slot_machine, sight}
use Rattle.cs_order_law.specs.laws.SlotFacts.{first_of_is, echo_said_is, confirm_said_is}
use Rattle.cs_ledger.proofs.Basics.{in_either}
use Rattle.cs_node_rules.specs.Members.{is_other_member, others}
use Rattle.cs_node_rules.specs.Signs.{Sent}
use Rattle.cs_node_rules.specs.Site.{Mark, Site, signs_of}
use Rattle.cs_node_rules.specs.Trail.{out_signs}
use Rattle.cs_node_rules.specs.Carrying.{IsEntry}
use Rattle.cs_world_law.specs.Orders.{recipients, IsSaid}
use Rattle.cs_world_law.specs.Chain.{IsSoundSite}
use Rattle.cs_world_law.proofs.Deeds.{deeds_in}
use Rattle.cs_world_law.proofs.Freedom.{in-sends}
use Rattle.cs_world_law.proofs.Handing.{AnswersOther, AreHandled, in-marks}
use Rattle.cs_world_law.proofs.Runs.{entry-digest}

-- ---- for whom messages are

-- a message for all
abbrev pub to_each : OrderMessage → Outgoing OrderMessage
to_each m = record { to = None; message = m }

-- they are for all
abbrev pub IsToAll : List (Outgoing OrderMessage) → Type 0
IsToAll outs = (out : Outgoing OrderMessage) → IsIn out outs → out.to ≡ None

none-out : IsToAll []
none-out out i = absurd i

one-out : (m : OrderMessage) → IsToAll (to_all m)
one-out m out (inl e) = ap (λ (o : Outgoing OrderMessage). o.to) e
one-out m out (inr none) = absurd none

both-out : (a b : List (Outgoing OrderMessage)) → IsToAll a → IsToAll b → IsToAll (a ++ b)
both-out a b p q out i = elim (in_either out a b i) as (λ z. out.to ≡ None) [ inl h ↦ p out h | inr h ↦ q out h ]

advance-out : (s : Sight) (c : Option Proposed) (w : Option ℕ) (d : Option (List ℕ)) → IsToAll (sent_by_rules s c w d)
advance-out s (Some e) w d = none-out
advance-out s None (Some w) d = one-out (message.Change (open_slot s) w (change_told s))
advance-out s None None (Some d) = one-out (message.Confirm (open_slot s) s.view d)
advance-out s None None None = none-out

echo-out : (s : Sight) (o : Option Proposed) → IsToAll (echo_sent s o)
echo-out s None = none-out
echo-out s (Some e) = one-out (message.Echo (open_slot s) s.view e.digest)

tick-out : (s : Sight) (due : Bool) → IsToAll (tick_sent s due)
tick-out s due = cond_both (is_slot_over s due) _ _ IsToAll (λ e. one-out (message.Change (open_slot s) (s.view + 1) (change_told s))) (λ e. none-out)

again-out : {A : Type 0} (name : A → OrderMessage) (o : Option A) → IsToAll (sent_again name o)
again-out {A} name None = none-out
again-out {A} name (Some x) = one-out (name x)

resend-out : (s : Sight) → IsToAll (resend_sent s)
resend-out s =
    let a = sent_again (message.Propose (open_slot s) s.view) (own proposal_said s) in
    let b = sent_again (message.Echo (open_slot s) s.view) (own echo_said s) in
    let c = sent_again (message.Confirm (open_slot s) s.view) (own confirm_said s) in
    let d = sent_again (message.Change (open_slot s) s.view) (own change_said s) in
    both-out ((a ++ b) ++ c) d (both-out (a ++ b) c (both-out a b (again-out (message.Propose (open_slot s) s.view) (own proposal_said s)) (again-out (message.Echo (open_slot s) s.view) (own echo_said s))) (again-out (message.Confirm (open_slot s) s.view) (own confirm_said s))) (again-out (message.Change (open_slot s) s.view) (own change_said s))

reply-to : (slot to : ℕ) (o : Option Proposed) (out : Outgoing OrderMessage) → reply_with slot to o ≡ Some out → out.to ≡ Some to
reply-to slot to None out e = absurd cc
reply-to slot to (Some entry) out e =
    let given : Outgoing OrderMessage = record { to = Some to; message = message.Done slot entry } in
    let same : given ≡ out = cc in
    ap (λ (o : Outgoing OrderMessage). o.to) (sym same)

no-name : {A : Type 0} (outs sent : List (Outgoing OrderMessage)) (out : Outgoing OrderMessage) (k : ℕ) → IsToAll outs → outs ≡ sent → IsIn out sent → out.to ≡ Some k → A
no-name {A} outs sent out k all e i named =
    let none = all out (subst (λ l. IsIn out l) (sym e) i) in
    absurd cc

-- what names a member names another one
names-other : (f : ℕ) (me : NodeId) (h : Member OrderMessage) (deed : Deed OrderMessage) → KeepsRules slot_machine h deed → AnswersOther f me deed
    → (out : Outgoing OrderMessage) → IsIn out (sent_by deed) → (k : ℕ) → out.to ≡ Some k → is_other_member f me (record { shard = me.shard; index = k }) ≡ true
names-other f me h (Took_in from m) keeps other out i k named = absurd i
names-other f me h (Cut slot) keeps other out i k named = absurd i
names-other f me h (Advanced x sent) keeps other out i k named =
    let s = sight h in
    no-name (sent_by_rules s (choice s) (view_to_enter s) (confirming s)) sent out k (advance-out s (choice s) (view_to_enter s) (confirming s)) keeps.2 i named
names-other f me h (Echoed sent) keeps other out i k named = no-name (echo_sent (sight h) (pending (sight h))) sent out k (echo-out (sight h) (pending (sight h))) keeps.1 i named
names-other f me h (Proposing entry sent) keeps other out i k named = no-name (propose_sent (sight h) entry) sent out k (one-out (message.Propose (open_slot (sight h)) (sight h).view entry)) keeps.1 i named
names-other f me h (Ticked due sent) keeps other out i k named = no-name (tick_sent (sight h) due) sent out k (tick-out (sight h) due) keeps i named
names-other f me h (Resent sent) keeps other out i k named = no-name (resend_sent (sight h)) sent out k (resend-out (sight h)) keeps i named
names-other f me h (Replied slot to sent) keeps other out i k named =
    let one = subst (λ l. IsIn out l) keeps.2 i in
    let same : out ≡ keeps.0 = (elim one as (λ z. out ≡ keeps.0) [ inl e ↦ e | inr none ↦ absurd none ]) in
    let named_there = reply-to slot to (entry_of_slot h.deeds slot) keeps.0 keeps.1 in
    let names : Some k ≡ Some to = sym named ∙ ap (λ (o : Outgoing OrderMessage). o.to) same ∙ named_there in
    let is : k ≡ to = cc in
    subst (λ (n : ℕ). is_other_member f me (record { shard = me.shard; index = n }) ≡ true) (sym is) other

-- ---- a deed among others

kept-at : {M : Type 0} (m : Machine M) (f me : ℕ) (deeds : List (Deed M)) → AllKeepRules m f me deeds → (deed : Deed M) → IsIn deed deeds
    → (past : List (Deed M)) × KeepsRules m (record { f = f; me = me; deeds = past }) deed
kept-at {M} m f me [] kept deed i = absurd i
kept-at {M} m f me (first ∷ past) kept deed (inl e) = (past, subst (λ d. KeepsRules m (record { f = f; me = me; deeds = past }) d) (sym e) kept.0)
kept-at {M} m f me (first ∷ past) kept deed (inr i) = kept-at m f me past kept.1 deed i

-- the member that is named, or any
abbrev whom : Option ℕ → ℕ
whom None = 0
whom (Some k) = k

own-to : (o : Option ℕ) → (o ≡ None) ⊎ (o ≡ Some (whom o))
own-to None = inl refl
own-to (Some k) = inr refl

is-for : {M : Type 0} (outs : List (Outgoing M)) (out : Outgoing M) → IsIn out outs → IsFor out.message (whom out.to) outs
is-for {M} [] out i = absurd i
is-for {M} (first ∷ outs) out (inl e) =
    subst (λ (o : Outgoing M). IsFor out.message (whom out.to) (o ∷ outs)) e (inl (refl, own-to out.to))
is-for {M} (first ∷ outs) out (inr i) = inr (is-for outs out i)

-- it is proper, and read as it was
abbrev IsWell : {M : Type 0} → Site M → M → Type 0
IsWell {M} site m = (site.machine.proper m ≡ true) × (site.carrier.read (site.carrier.written m) ≡ Some m)

well-said : {M : Type 0} (site : Site M) (sound : IsSoundSite site) (me : ℕ) (deeds : List (Deed M)) → AllKeepRules site.machine site.setup.f me deeds
    → ((p : Proposed) → IsIn p (held_in site.machine deeds) → IsEntry site.setup.version p)
    → (deed : Deed M) → IsIn deed deeds → (out : Outgoing M) → IsIn out (sent_by deed) → IsWell site out.message
well-said {M} site sound me [] kept all deed i out j = absurd i
well-said {M} site sound me (first ∷ past) kept all deed (inr i) out j =
    well-said site sound me past kept.1 (λ p k. all p (IsIn-right p (entries_handed_in site.machine first) (held_in site.machine past) k)) deed i out j
well-said {M} site sound me (first ∷ past) kept all deed (inl e) out j =
    let m = out.message in
    let given = is-for (sent_by first) out (subst (λ (d : Deed M). IsIn out (sent_by d)) e j) in
    let proper = sound.holds.proper site.setup.f me first past kept (λ p k. entry-digest site.setup.version p (all p k)) m (whom out.to) given in
    let entries = λ (p : Proposed) (k : IsIn p (site.machine.carried m)). all p (sound.holds.sent site.setup.f me first past kept m (whom out.to) given p k) in
    (proper, sound.carries.back m proper entries)

-- ---- what is sent

out-sign : {M : Type 0} (site : Site M) (me : NodeId) (o : Option ℕ) (m : M) → ((k : ℕ) → o ≡ Some k → is_other_member site.setup.f me (record { shard = me.shard; index = k }) ≡ true)
    → (to : NodeId) → IsIn to (recipients site.setup.f me o) → IsIn (Sent to (site.carrier.written m)) (out_signs site me o m)
out-sign {M} site me None m other to i = in-sends (others site.setup.f me (me.shard ∷ [])) to (site.carrier.written m) i
out-sign {M} site me (Some k) m other to (inr none) = absurd none
out-sign {M} site me (Some k) m other to (inl e) =
    let name : NodeId = record { shard = me.shard; index = k } in
    let said = site.carrier.written m in
    subst (λ b. IsIn (Sent to said) (if b then Sent name said ∷ [] else [])) (sym (other k refl)) (inl (ap (λ (n : NodeId). Sent n said) e))

module _ (site : Site OrderMessage) (sound : IsSoundSite site) (machine_is : site.machine ≡ slot_machine) (me : NodeId) (t : List (Mark OrderMessage))
    (kept : AllKeepRules site.machine site.setup.f me.index (deeds_in t)) (entries : (p : Proposed) → IsIn p (held_in site.machine (deeds_in t)) → IsEntry site.setup.version p) (handled : AreHandled site me t) where
  pub said-so : (deed : Deed OrderMessage) → IsIn deed (deeds_in t) → (out : Outgoing OrderMessage) → IsIn out (sent_by deed) → IsSaid site me (signs_of t) out
  said-so deed i out j =
      let well = well-said site sound me.index (deeds_in t) kept entries deed i out j in
      let there = kept-at site.machine site.setup.f me.index (deeds_in t) kept deed i in
      let h : Member OrderMessage = record { f = site.setup.f; me = me.index; deeds = there.0 } in
      let keeps = subst (λ (m : Machine OrderMessage). KeepsRules m h deed) machine_is there.1 in
      let done = handled deed (in-marks deed t i) in
      record {
        proper = well.0;
        back = well.1;
        sent = λ to k. done.sent out j (Sent to (site.carrier.written out.message))
            (out-sign site me out.to out.message (λ n named. names-other site.setup.f me h deed keeps done.other out j n named) to k);
      }

-- ---- what a member took as its own it handed out for all

with-own : (me : ℕ) (outs : List (Outgoing OrderMessage)) (facts : Facts) (m : OrderMessage) → IsToAll outs → IsIn (me, m) (with_own me outs facts)
    → IsIn (to_each m) outs ⊎ IsIn (me, m) facts
with-own me [] facts m all i = inr i
with-own me (out ∷ outs) facts m all (inl e) =
    let same : m ≡ out.message = ap (λ (x : ℕ × OrderMessage). x.1) e in
    let none : None ≡ out.to = sym (all out (inl refl)) in
    let is : to_each m ≡ out = (λ n. record { to = none n; message = same n }) in
    inl (inl is)
with-own me (out ∷ outs) facts m all (inr i) =
    elim (with-own me outs facts m (λ o j. all o (inr j)) i) [ inl h ↦ inl (inr h) | inr h ↦ inr h ]

-- it is of one of these deeds
abbrev pub IsHandedOut : List (Deed OrderMessage) → OrderMessage → Type 0
IsHandedOut deeds m = (deed : Deed OrderMessage) × IsIn deed deeds × IsIn (to_each m) (sent_by deed)

later-deed : (deed : Deed OrderMessage) (deeds : List (Deed OrderMessage)) (m : OrderMessage) → IsHandedOut deeds m → IsHandedOut (deed ∷ deeds) m
later-deed deed deeds m h = (h.0, inr h.1, h.2)

module _ (f me : ℕ) where
  own-deed : (deed : Deed OrderMessage) (sent : List (Outgoing OrderMessage)) (past : List (Deed OrderMessage)) (m : OrderMessage) → sent_by deed ≡ sent → IsToAll sent
      → (IsIn (me, m) (facts_in me past) → IsHandedOut past m) → IsIn (me, m) (with_own me sent (facts_in me past)) → IsHandedOut (deed ∷ past) m
  own-deed deed sent past m is all before i =
      elim (with-own me sent (facts_in me past) m all i) [
        | inl h ↦ (deed, inl refl, subst (λ l. IsIn (to_each m) l) (sym is) h)
        | inr h ↦ later-deed deed past m (before h)
      ]

  pub own-said : (deeds : List (Deed OrderMessage)) → AllKeepRules slot_machine f me deeds → (m : OrderMessage) → IsIn (me, m) (facts_in me deeds) → IsHandedOut deeds m
  own-said [] kept m i = absurd i
  own-said (Took_in from n ∷ past) kept m (inl e) = absurd (kept.0.1 (sym (ap (λ (x : ℕ × OrderMessage). x.0) e)))
  own-said (Took_in from n ∷ past) kept m (inr i) = later-deed (Took_in from n) past m (own-said past kept.1 m i)
  own-said (Resent sent ∷ past) kept m i = later-deed (Resent sent) past m (own-said past kept.1 m i)
  own-said (Replied slot to sent ∷ past) kept m i = later-deed (Replied slot to sent) past m (own-said past kept.1 m i)
  own-said (Cut slot ∷ past) kept m i = later-deed (Cut slot) past m (own-said past kept.1 m i)
  own-said (Advanced x sent ∷ past) kept m i =
      let s = sight (record { f = f; me = me; deeds = past }) in
      own-deed (Advanced x sent) sent past m refl (subst IsToAll kept.0.2 (advance-out s (choice s) (view_to_enter s) (confirming s))) (own-said past kept.1 m) i
  own-said (Echoed sent ∷ past) kept m i =
      let s = sight (record { f = f; me = me; deeds = past }) in
      own-deed (Echoed sent) sent past m refl (subst IsToAll kept.0.1 (echo-out s (pending s))) (own-said past kept.1 m) i
  own-said (Proposing entry sent ∷ past) kept m i =
      let s = sight (record { f = f; me = me; deeds = past }) in
      own-deed (Proposing entry sent) sent past m refl (subst IsToAll kept.0.1 (one-out (message.Propose (open_slot s) s.view entry))) (own-said past kept.1 m) i
  own-said (Ticked due sent ∷ past) kept m i =
      let s = sight (record { f = f; me = me; deeds = past }) in
      own-deed (Ticked due sent) sent past m refl (subst IsToAll kept.0 (tick-out s due)) (own-said past kept.1 m) i

  -- so it is with what it echoed and confirmed in its view
  pub echo-told : (deeds : List (Deed OrderMessage)) → AllKeepRules slot_machine f me deeds → let s = sight (record { f = f; me = me; deeds = deeds }) in (d : List ℕ) → own echo_said s ≡ Some d
      → IsHandedOut deeds (message.Echo (open_slot s) s.view d)
  echo-told deeds kept d e =
      let s = sight (record { f = f; me = me; deeds = deeds }) in
      let r = first_of_is (echo_said (open_slot s) s.view) s.taken s.me d e in
      own-said deeds kept (message.Echo (open_slot s) s.view d) (subst (λ (m : OrderMessage). IsIn (me, m) (facts_in me deeds)) (echo_said_is (open_slot s) s.view d r.0 r.2) r.1)

  pub confirm-told : (deeds : List (Deed OrderMessage)) → AllKeepRules slot_machine f me deeds → let s = sight (record { f = f; me = me; deeds = deeds }) in (d : List ℕ) → own confirm_said s ≡ Some d
      → IsHandedOut deeds (message.Confirm (open_slot s) s.view d)
  confirm-told deeds kept d e =
      let s = sight (record { f = f; me = me; deeds = deeds }) in
      let r = first_of_is (confirm_said (open_slot s) s.view) s.taken s.me d e in
      own-said deeds kept (message.Confirm (open_slot s) s.view d) (subst (λ (m : OrderMessage). IsIn (me, m) (facts_in me deeds)) (confirm_said_is (open_slot s) s.view d r.0 r.2) r.1)
