-- What is kept of a slot shows one message more, where it is the first of its member, kind and view.
use Rattle.std.proofs.Common.{◌≡◌, ℕ, ◌+◌, ◌%◌, ◌==◌, nat_le, Bool, true, false, not, ◌&&◌, ◌||◌, List, [], ◌∷◌, Option, Some, None, is_some, inl, inr, refl, sym, ap, ◌∙◌, eqb-true}
use Rattle.std.proofs.Math.Path.{fun_ext}
use Rattle.std.proofs.lemmas.Bool.Decides.{eqb_tells}
use Rattle.cs_order.specs.Counts.{when}
use Rattle.cs_base.specs.Options.{or_else}
use Rattle.cs_order.specs.declared.proposed.Proposed.{Proposed}
use Rattle.cs_order_rules.specs.declared.message.Change.{Change}
use Rattle.cs_order_rules.specs.declared.message.OrderMessage.{OrderMessage}
use Rattle.cs_order_rules.specs.declared.message.OrderMessage.TheVariants as message
use Rattle.cs_order_rules.specs.Slot.{Seen}
use Rattle.cs_order_rules.specs.Facts.{Facts, Sight, member_count, proposal_said, echo_said, confirm_said, change_said, done_said, echo_in, is_change_from, is_like, took, first_of}
use Rattle.cs_order_rules.specs.Rules.{proposal_at, echoed_in, with_line}
use Rattle.cs_order_law.specs.laws.SafeFacts.{and_left, and_right}
use Rattle.cs_order_law.specs.laws.SlotFacts.{same_number}
use Rattle.cs_slot.specs.Kept.{seen_in, lookup_with_vote, with_entry, with_proposal, with_echo, with_confirm, with_done}
use Rattle.cs_change.specs.Kept.{change_in, with_told, reaches}
use Rattle.cs_order_open.specs.Shows.{KeptOpenSlot, ShowsSlot, with_fact}

-- What was taken of a kind is what is found of it.
pub same_either_way : (a b : ℕ) → (a == b) ≡ (b == a)
same_either_way a b =
    elim (eqb_tells a b) [
      | inl same ↦ rw same.1 refl
      | inr other ↦ elim (eqb_tells b a) [
        | inl back ↦ absurd (other.1 (sym back.1))
        | inr too ↦ other.0 ∙ sym too.0
      ]
    ]

some_when : {A : Type 0} (b : Bool) (x : A) → b ≡ is_some (when b (Some x))
some_when true x = refl
some_when false x = refl

at_either_way : {A : Type 0} (n w a b : ℕ) (x : A) → ((n == a) && (w == b)) ≡ is_some (when ((a == n) && (b == w)) (Some x))
at_either_way n w a b x = rw (same_either_way n a, same_either_way w b) (some_when ((a == n) && (b == w)) x)

pub like_proposal : (n w : ℕ) (e : Proposed) (m : OrderMessage) → is_like (message.Propose n w e) m ≡ is_some (proposal_said n w m)
like_proposal n w e (message.Propose a b x) = at_either_way n w a b x
like_proposal n w e (message.Echo a b x) = refl
like_proposal n w e (message.Confirm a b x) = refl
like_proposal n w e (message.Change a b x) = refl
like_proposal n w e (message.Done a x) = refl

pub like_echo : (n w : ℕ) (d : List ℕ) (m : OrderMessage) → is_like (message.Echo n w d) m ≡ is_some (echo_said n w m)
like_echo n w d (message.Propose a b x) = refl
like_echo n w d (message.Echo a b x) = at_either_way n w a b x
like_echo n w d (message.Confirm a b x) = refl
like_echo n w d (message.Change a b x) = refl
like_echo n w d (message.Done a x) = refl

pub like_confirm : (n w : ℕ) (d : List ℕ) (m : OrderMessage) → is_like (message.Confirm n w d) m ≡ is_some (confirm_said n w m)
like_confirm n w d (message.Propose a b x) = refl
like_confirm n w d (message.Echo a b x) = refl
like_confirm n w d (message.Confirm a b x) = at_either_way n w a b x
like_confirm n w d (message.Change a b x) = refl
like_confirm n w d (message.Done a x) = refl

pub like_change : (n w : ℕ) (c : Change) (m : OrderMessage) → is_like (message.Change n w c) m ≡ is_some (change_said n w m)
like_change n w c (message.Propose a b x) = refl
like_change n w c (message.Echo a b x) = refl
like_change n w c (message.Confirm a b x) = refl
like_change n w c (message.Change a b x) = at_either_way n w a b x
like_change n w c (message.Done a x) = refl

pub like_done : (n : ℕ) (e : Proposed) (m : OrderMessage) → is_like (message.Done n e) m ≡ is_some (done_said n m)
like_done n e (message.Propose a b x) = refl
like_done n e (message.Echo a b x) = refl
like_done n e (message.Confirm a b x) = refl
like_done n e (message.Change a b x) = refl
like_done n e (message.Done a x) = rw (same_either_way n a) (some_when (a == n) x)

some_either : {A : Type 0} (b t rest : Bool) (o p : Option A) → t ≡ is_some o → rest ≡ is_some p → ((b && t) || rest) ≡ is_some (or_else (when b o) p)
some_either true true rest None p h k = cc
some_either true true rest (Some x) p h k = refl
some_either true false rest None p h k = k
some_either true false rest (Some x) p h k = cc
some_either false t rest o p h k = k

pub took_is_found : {A : Type 0} (test : OrderMessage → Bool) (said : OrderMessage → Option A) → ((m : OrderMessage) → test m ≡ is_some (said m)) → (facts : Facts) (member : ℕ) → took test facts member ≡ is_some (first_of said facts member)
took_is_found test said same [] member = refl
took_is_found test said same (fact ∷ facts) member = some_either (fact.0 == member) (test fact.1) (took test facts member) (said fact.1) (first_of said facts member) (same fact.1) (took_is_found test said same facts member)

-- A message of another kind, or of another slot, is passed over.
passed_by : {A : Type 0} (b : Bool) (o : Option A) → or_else (when b None) o ≡ o
passed_by true o = refl
passed_by false o = refl

pub passed : {A : Type 0} (said : OrderMessage → Option A) (facts : Facts) (from : ℕ) (m : OrderMessage) (member : ℕ) → said m ≡ None → first_of said ((from, m) ∷ facts) member ≡ first_of said facts member
passed said facts from m member h = rw h (passed_by (from == member) (first_of said facts member))

none_passes : (b rest : Bool) → ((b && false) || rest) ≡ rest
none_passes true rest = refl
none_passes false rest = refl

pub passed_test : (test : OrderMessage → Bool) (facts : Facts) (from : ℕ) (m : OrderMessage) (member : ℕ) → test m ≡ false → took test ((from, m) ∷ facts) member ≡ took test facts member
passed_test test facts from m member h = rw h (none_passes (from == member) (took test facts member))

-- A new message stands before the old ones; where it is the first it might as well stand behind.
last_none : {A : Type 0} (o : Option A) → o ≡ or_else o None
last_none None = refl
last_none (Some x) = refl

behind : {A : Type 0} (a b : Bool) (x : A) (old : Option A) → ((b && a) ≡ true → old ≡ None) → or_else (when a (when b (Some x))) old ≡ or_else old (when (b && a) (Some x))
behind true true x old none = rw (none refl) refl
behind true false x old none = last_none old
behind false true x old none = last_none old
behind false false x old none = last_none old

pub none_if : {A : Type 0} (o : Option A) → true ≡ not (is_some o) → o ≡ None
none_if None h = refl
none_if (Some x) h = cc

-- a vote that is the first of its view and member
first_vote : {A : Type 0} (said : ℕ → ℕ → Option A) (w from v m : ℕ) → said w from ≡ None → ((w == v) && (from == m)) ≡ true → said v m ≡ None
first_vote said w from v m none here =
    let view = eqb-true w v (and_left (w == v) (from == m) here) in
    let member = eqb-true from m (and_right (w == v) (from == m) here) in
    rw (← view, ← member) none

abbrev echoes_in : ℕ → Facts → ℕ → ℕ → Option (List ℕ)
echoes_in n facts v = first_of (echo_said n v) facts

abbrev confirms_in : ℕ → Facts → ℕ → ℕ → Option (List ℕ)
confirms_in n facts v = first_of (confirm_said n v) facts

-- What a message leaves as it was.
module _ (s : Sight) (n from : ℕ) (m : OrderMessage) where
  same_proposals : ((v : ℕ) → proposal_said n v m ≡ None) → proposal_at s n ≡ proposal_at (with_fact s from m) n
  same_proposals none = fun_ext (λ v. sym (passed (proposal_said n v) s.taken from m ((n + v) % member_count s) (none v)))

  same_echoes : ((v : ℕ) → echo_said n v m ≡ None) → echoes_in n s.taken ≡ echoes_in n ((from, m) ∷ s.taken)
  same_echoes none = fun_ext (λ v. fun_ext (λ member. sym (passed (echo_said n v) s.taken from m member (none v))))

  same_confirms : ((v : ℕ) → confirm_said n v m ≡ None) → confirms_in n s.taken ≡ confirms_in n ((from, m) ∷ s.taken)
  same_confirms none = fun_ext (λ v. fun_ext (λ member. sym (passed (confirm_said n v) s.taken from m member (none v))))

  same_dones : done_said n m ≡ None → first_of (done_said n) s.taken ≡ first_of (done_said n) ((from, m) ∷ s.taken)
  same_dones none = fun_ext (λ member. sym (passed (done_said n) s.taken from m member none))

no_line : (b : Bool) (lines : List (List ℕ × ℕ)) → with_line (when b None) lines ≡ lines
no_line true lines = refl
no_line false lines = refl

-- the parts that stay, where a message is no change
kept_told : (k : KeptOpenSlot) (s : Sight) (n view from : ℕ) (m : OrderMessage) → ShowsSlot k s n view → ((v : ℕ) → change_said n v m ≡ None) → (v member : ℕ) → change_in k.changes.changes v member ≡ first_of (change_said n v) ((from, m) ∷ s.taken) member
kept_told k s n view from m shows none v member = shows.told v member ∙ sym (passed (change_said n v) s.taken from m member (none v))

kept_reached : (k : KeptOpenSlot) (s : Sight) (n view from : ℕ) (m : OrderMessage) → ShowsSlot k s n view → ((v : ℕ) → is_change_from n v m ≡ false) → (v member : ℕ) → reaches k.changes.furthest v member ≡ took (is_change_from n v) ((from, m) ∷ s.taken) member
kept_reached k s n view from m shows none v member = shows.reached v member ∙ sym (passed_test (is_change_from n v) s.taken from m member (none v))

kept_echoed : (k : KeptOpenSlot) (s : Sight) (n view from : ℕ) (m : OrderMessage) → ShowsSlot k s n view → echo_in n m ≡ None → k.echoed ≡ echoed_in s.me n ((from, m) ∷ s.taken)
kept_echoed k s n view from m shows none = shows.echoed ∙ sym (rw none (no_line (from == s.me) (echoed_in s.me n s.taken)))

kept_led : (k : KeptOpenSlot) (s : Sight) (n view from : ℕ) (m : OrderMessage) → ShowsSlot k s n view → ((v : ℕ) → proposal_said n v m ≡ None) → (v member : ℕ) → (member == (n + v) % member_count s) ≡ false → first_of (proposal_said n v) ((from, m) ∷ s.taken) member ≡ None
kept_led k s n view from m shows none v member other = passed (proposal_said n v) s.taken from m member (none v) ∙ shows.led_only v member other

-- a proposal of the leader is none of another member
led_proposal : (s : Sight) (n from w v member : ℕ) (e : Proposed) (b c : Bool) → (w == v) ≡ b → (from == member) ≡ c → from ≡ (n + w) % member_count s → (member == (n + v) % member_count s) ≡ false → or_else (when (from == member) (when ((n == n) && (w == v)) (Some e))) (first_of (proposal_said n v) s.taken member) ≡ first_of (proposal_said n v) s.taken member
led_proposal s n from w v member e true true is same leads other =
    let here : (member == (n + v) % member_count s) ≡ true = rw (← eqb-true from member same, ← eqb-true w v is, leads) (same_number ((n + w) % member_count s)) in
    absurd (let false_here = other in cc)
led_proposal s n from w v member e true false is same leads other = rw same refl
led_proposal s n from w v member e false c is same leads other = rw (is, same_number n) (passed_by (from == member) (first_of (proposal_said n v) s.taken member))

-- A proposal that is the first of its view.
one_proposal : (s : Sight) (n from w v : ℕ) (e : Proposed) (b : Bool) → (w == v) ≡ b → from ≡ (n + w) % member_count s → proposal_at s n w ≡ None → or_else (proposal_at s n v) (when (w == v) (Some e)) ≡ proposal_at (with_fact s from (message.Propose n w e)) n v
one_proposal s n from w v e true is leads none =
    let same = eqb-true w v is in
    let old : proposal_at s n v ≡ None = rw (← same) none in
    let here : (from == (n + v) % member_count s) ≡ true = rw (leads, same) (same_number ((n + v) % member_count s)) in
    rw (old, here, same_number n, is) refl
one_proposal s n from w v e false is leads none =
    rw (is, same_number n) (sym (last_none (proposal_at s n v)) ∙ sym (passed_by (from == (n + v) % member_count s) (proposal_at s n v)))

pub shows_proposal : (k new : KeptOpenSlot) (s : Sight) (n view from w : ℕ) (e : Proposed) → ShowsSlot k s n view → from ≡ (n + w) % member_count s → true ≡ not (is_some ((seen_in k.slot).proposal w)) → seen_in new.slot ≡ with_proposal true (seen_in k.slot) w e → new.changes ≡ k.changes → new.echoed ≡ k.echoed → ShowsSlot new (with_fact s from (message.Propose n w e)) n view
shows_proposal k new s n view from w e shows leads fresh slot changes echoed =
    let m : OrderMessage = message.Propose n w e in
    let none : proposal_at s n w ≡ None = ap (λ (x : Seen). x.proposal w) (sym shows.seen) ∙ none_if ((seen_in k.slot).proposal w) fresh in
    let proposals : (λ (v : ℕ). or_else (proposal_at s n v) (when (w == v) (Some e))) ≡ proposal_at (with_fact s from m) n = fun_ext (λ v. one_proposal s n from w v e (w == v) refl leads none) in
    let echoes = same_echoes s n from m (λ v. refl) in
    let confirms = same_confirms s n from m (λ v. refl) in
    let dones = same_dones s n from m refl in
    record {
      seen = slot ∙ ap (λ (x : Seen). with_proposal true x w e) shows.seen ∙ (λ i. record { f = s.f; n = n; me = s.me; view = view; views = s.views; proposal = proposals i; echo = echoes i; confirm = confirms i; done = dones i });
      same_f = rw changes shows.same_f;
      told = rw changes (kept_told k s n view from m shows (λ v. refl));
      reached = rw changes (kept_reached k s n view from m shows (λ v. refl));
      echoed = rw echoed (kept_echoed k s n view from m shows refl);
      led_only = λ v member other. led_proposal s n from w v member e (w == v) (from == member) refl refl leads other ∙ shows.led_only v member other;
    }

-- An echo that is the first of its member and view.
one_vote : {A : Type 0} (n from w v member : ℕ) (x : A) (said : ℕ → ℕ → Option A) → said w from ≡ None → or_else (said v member) (when ((w == v) && (from == member)) (Some x)) ≡ or_else (when (from == member) (when ((n == n) && (w == v)) (Some x))) (said v member)
one_vote n from w v member x said none = rw (same_number n) (sym (behind (from == member) (w == v) x (said v member) (first_vote said w from v member none)))

pub shows_echo : (k new : KeptOpenSlot) (s : Sight) (n view from w : ℕ) (d : List ℕ) → ShowsSlot k s n view → true ≡ not (is_some ((seen_in k.slot).echo w from)) → seen_in new.slot ≡ with_echo true (seen_in k.slot) w from d → new.changes ≡ k.changes → new.echoed ≡ with_line (when (from == s.me) (Some (d, w))) k.echoed → ShowsSlot new (with_fact s from (message.Echo n w d)) n view
shows_echo k new s n view from w d shows fresh slot changes echoed =
    let m : OrderMessage = message.Echo n w d in
    let before = echoes_in n s.taken in
    let none : before w from ≡ None = ap (λ (x : Seen). x.echo w from) (sym shows.seen) ∙ none_if ((seen_in k.slot).echo w from) fresh in
    let proposals = same_proposals s n from m (λ v. refl) in
    let echoes : lookup_with_vote true before w from d ≡ echoes_in n ((from, m) ∷ s.taken) = fun_ext (λ v. fun_ext (λ member. one_vote n from w v member d before none)) in
    let confirms = same_confirms s n from m (λ v. refl) in
    let dones = same_dones s n from m refl in
    record {
      seen = slot ∙ ap (λ (x : Seen). with_echo true x w from d) shows.seen ∙ (λ i. record { f = s.f; n = n; me = s.me; view = view; views = s.views; proposal = proposals i; echo = echoes i; confirm = confirms i; done = dones i });
      same_f = rw changes shows.same_f;
      told = rw changes (kept_told k s n view from m shows (λ v. refl));
      reached = rw changes (kept_reached k s n view from m shows (λ v. refl));
      echoed = rw (echoed, shows.echoed, same_number n) refl;
      led_only = kept_led k s n view from m shows (λ v. refl);
    }

-- A confirm that is the first of its member and view.
pub shows_confirm : (k new : KeptOpenSlot) (s : Sight) (n view from w : ℕ) (d : List ℕ) → ShowsSlot k s n view → true ≡ not (is_some ((seen_in k.slot).confirm w from)) → seen_in new.slot ≡ with_confirm true (seen_in k.slot) w from d → new.changes ≡ k.changes → new.echoed ≡ k.echoed → ShowsSlot new (with_fact s from (message.Confirm n w d)) n view
shows_confirm k new s n view from w d shows fresh slot changes echoed =
    let m : OrderMessage = message.Confirm n w d in
    let before = confirms_in n s.taken in
    let none : before w from ≡ None = ap (λ (x : Seen). x.confirm w from) (sym shows.seen) ∙ none_if ((seen_in k.slot).confirm w from) fresh in
    let proposals = same_proposals s n from m (λ v. refl) in
    let echoes = same_echoes s n from m (λ v. refl) in
    let confirms : lookup_with_vote true before w from d ≡ confirms_in n ((from, m) ∷ s.taken) = fun_ext (λ v. fun_ext (λ member. one_vote n from w v member d before none)) in
    let dones = same_dones s n from m refl in
    record {
      seen = slot ∙ ap (λ (x : Seen). with_confirm true x w from d) shows.seen ∙ (λ i. record { f = s.f; n = n; me = s.me; view = view; views = s.views; proposal = proposals i; echo = echoes i; confirm = confirms i; done = dones i });
      same_f = rw changes shows.same_f;
      told = rw changes (kept_told k s n view from m shows (λ v. refl));
      reached = rw changes (kept_reached k s n view from m shows (λ v. refl));
      echoed = rw echoed (kept_echoed k s n view from m shows refl);
      led_only = kept_led k s n view from m shows (λ v. refl);
    }

-- A Done that is the first of its member.
one_done : (n from member : ℕ) (e : Proposed) (said : ℕ → Option Proposed) → said from ≡ None → or_else (said member) (when (from == member) (Some e)) ≡ or_else (when (from == member) (when (n == n) (Some e))) (said member)
one_done n from member e said none = rw (same_number n) (sym (behind (from == member) true e (said member) (λ here. rw (← eqb-true from member here) none)))

pub shows_done : (k new : KeptOpenSlot) (s : Sight) (n view from : ℕ) (e : Proposed) → ShowsSlot k s n view → true ≡ not (is_some ((seen_in k.slot).done from)) → seen_in new.slot ≡ with_done true (seen_in k.slot) from e → new.changes ≡ k.changes → new.echoed ≡ k.echoed → ShowsSlot new (with_fact s from (message.Done n e)) n view
shows_done k new s n view from e shows fresh slot changes echoed =
    let m : OrderMessage = message.Done n e in
    let before : ℕ → Option Proposed = first_of (done_said n) s.taken in
    let none : before from ≡ None = ap (λ (x : Seen). x.done from) (sym shows.seen) ∙ none_if ((seen_in k.slot).done from) fresh in
    let proposals = same_proposals s n from m (λ v. refl) in
    let echoes = same_echoes s n from m (λ v. refl) in
    let confirms = same_confirms s n from m (λ v. refl) in
    let dones : with_entry true before from e ≡ first_of (done_said n) ((from, m) ∷ s.taken) = fun_ext (λ member. one_done n from member e before none) in
    record {
      seen = slot ∙ ap (λ (x : Seen). with_done true x from e) shows.seen ∙ (λ i. record { f = s.f; n = n; me = s.me; view = view; views = s.views; proposal = proposals i; echo = echoes i; confirm = confirms i; done = dones i });
      same_f = rw changes shows.same_f;
      told = rw changes (kept_told k s n view from m shows (λ v. refl));
      reached = rw changes (kept_reached k s n view from m shows (λ v. refl));
      echoed = rw echoed (kept_echoed k s n view from m shows refl);
      led_only = kept_led k s n view from m shows (λ v. refl);
    }

-- A change that is the first of its member and view.
pub shows_change : (k new : KeptOpenSlot) (s : Sight) (n view from w : ℕ) (c : Change) → ShowsSlot k s n view → true ≡ not (is_some (change_in k.changes.changes w from)) → new.slot ≡ k.slot → change_in new.changes.changes ≡ with_told true (change_in k.changes.changes) w from c → ((v member : ℕ) → reaches new.changes.furthest v member ≡ ((true && ((from == member) && nat_le v w)) || reaches k.changes.furthest v member)) → new.changes.f ≡ k.changes.f → new.echoed ≡ k.echoed → ShowsSlot new (with_fact s from (message.Change n w c)) n view
shows_change k new s n view from w c shows fresh slot told reached f echoed =
    let m : OrderMessage = message.Change n w c in
    let before : ℕ → ℕ → Option Change = λ v. first_of (change_said n v) s.taken in
    let none : before w from ≡ None = sym (shows.told w from) ∙ none_if (change_in k.changes.changes w from) fresh in
    let proposals = same_proposals s n from m (λ v. refl) in
    let echoes = same_echoes s n from m (λ v. refl) in
    let confirms = same_confirms s n from m (λ v. refl) in
    let dones = same_dones s n from m refl in
    record {
      seen = ap seen_in slot ∙ shows.seen ∙ (λ i. record { f = s.f; n = n; me = s.me; view = view; views = s.views; proposal = proposals i; echo = echoes i; confirm = confirms i; done = dones i });
      same_f = f ∙ shows.same_f;
      told = λ v member. ap (λ (g : ℕ → ℕ → Option Change). g v member) told ∙ ap (λ o. or_else o (when ((w == v) && (from == member)) (Some c))) (shows.told v member) ∙ one_vote n from w v member c before none;
      reached = λ v member. reached v member ∙ rw (shows.reached v member, same_number n) refl;
      echoed = rw echoed (kept_echoed k s n view from m shows refl);
      led_only = kept_led k s n view from m shows (λ v. refl);
    }
