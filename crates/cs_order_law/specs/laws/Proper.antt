-- What a member hands out is proper: it keeps the limits of messages.
use Rattle.std.proofs.Common.{◌≡◌, ◌≢◌, ℕ, ◌+◌, ◌≤◌, ◌<◌, ◌==◌, nat_lt, nat_le, Bool, true, false, ◌&&◌, if◌then◌else◌, List, [], ◌∷◌, length, length-append, Option, Some, None, inl, inr, refl, sym, ap, ◌∙◌, arith, le-leb, lt-ltb, ltb-true}
use Rattle.std.proofs.lemmas.Bool.{or_cases}
use Rattle.std.proofs.lemmas.Option.{slice_get_within}
use Rattle.std.proofs.lemmas.Bool.Decides.{eqb_tells}
use Rattle.cs_base.specs.declared.limits.TheConstants.{MOST_ECHOED}
use Rattle.cs_order.specs.Counts.{when}
use Rattle.cs_base.specs.Lists.{IsIn}
use Rattle.cs_order.specs.laws.Lists.{IsIn-right}
use Rattle.cs_order.specs.Digests.{HaveDigests}
use Rattle.cs_order.specs.Limits.{last_slot, view_bound}
use Rattle.cs_order.specs.Deeds.{Deed, Member, did, sent_by, chosen_in}
use Rattle.cs_order.specs.Deeds as deed
use Rattle.cs_order.specs.Runs.{AllKeepRules, IsFor, held_in, entries_handed_in}
use Rattle.cs_order.specs.declared.proposed.Proposed.{Proposed}
use Rattle.cs_order.specs.declared.answers.Outgoing.{Outgoing}
use Rattle.cs_order.specs.declared.answers.Step.{Step}
use Rattle.cs_order.specs.declared.answers.Step.TheVariants as step
use Rattle.cs_order_rules.specs.declared.message.OrderMessage.{OrderMessage}
use Rattle.cs_order_rules.specs.declared.message.OrderMessage.TheVariants as message
use Rattle.cs_order_rules.specs.Slot.{prepared, in_view}
use Rattle.cs_order_rules.specs.Facts.{Facts, Sight, open_slot, slot_of_message, is_place, is_below, pair_below, proper, confirm_said, echo_in}
use Rattle.cs_order_rules.specs.Rules.{seen_now, choice, view_to_enter, confirming, step_by, sent_by_rules as advance_by, pending, echo_sent, has_echo_place, proposal, change_to, is_slot_over, insert_line, with_line, echoed_in, change_told}
use Rattle.cs_order_rules.specs.SlotMachine.{slot_machine, sight}
use Rattle.cs_order_law.specs.laws.SafeFacts.{and_right}
use Rattle.cs_order_law.specs.laws.SlotFacts.{same_number, first_of_is, confirm_said_is, last_found_is, if_may_echo_is}
use Rattle.cs_order_law.specs.laws.RuleFacts.{in_view_is, echoed_is}
use Rattle.cs_order_law.specs.laws.Sound.{SlotAct, MayNew, Sound}
use Rattle.cs_order_law.specs.laws.Steps.{Vouches, step_of}
use Rattle.cs_order_law.specs.laws.Sights.{sound, log_short}
use Rattle.cs_order_law.specs.laws.Digests.{SaysDigest, all_say}
use Rattle.cs_order_law.specs.laws.Lines.{Line, all_by, echoed_rises, insert_length, insert_listed}

abbrev Deeds : Type 0
Deeds = List (Deed OrderMessage)

-- all that was taken says digests
abbrev AllSay : Sight → Type 0
AllSay s = (k : ℕ) (m : OrderMessage) → IsIn (k, m) s.taken → SaysDigest m

-- How many digests a member echoed in a slot.
abbrev lines : Sight → List Line
lines s = echoed_in s.me (open_slot s) s.taken

none_line : (b : Bool) (ls : List Line) → with_line (when b None) ls ≡ ls
none_line true ls = refl
none_line false ls = refl

other_kind : (me slot from : ℕ) (m : OrderMessage) (facts : Facts) → echo_in slot m ≡ None → echoed_in me slot ((from, m) ∷ facts) ≡ echoed_in me slot facts
other_kind me slot from m facts none = rw none (none_line (from == me) (echoed_in me slot facts))

other_member : (me slot from : ℕ) (m : OrderMessage) (facts : Facts) → from ≢ me → echoed_in me slot ((from, m) ∷ facts) ≡ echoed_in me slot facts
other_member me slot from m facts other = elim (eqb_tells from me) [ inl same ↦ absurd (other same.1) | inr differs ↦ rw differs.0 refl ]

no_echo : (slot : ℕ) (m : OrderMessage) → (slot_of_message m < slot) → echo_in slot m ≡ None
no_echo slot (message.Propose n w e) h = refl
no_echo slot (message.Echo n w d) h = elim (eqb_tells n slot) [ inl same ↦ absurd (let e = same.1 in omega arith) | inr differs ↦ rw differs.0 refl ]
no_echo slot (message.Confirm n w d) h = refl
no_echo slot (message.Change n w c) h = refl
no_echo slot (message.Done n e) h = refl

-- nothing was echoed in a slot that isn't open yet
none_above : (me slot : ℕ) (facts : Facts) → ((m : OrderMessage) → IsIn (me, m) facts → slot_of_message m < slot) → echoed_in me slot facts ≡ []
none_above me slot [] below = refl
none_above me slot (fact ∷ facts) below =
    let rest = none_above me slot facts (λ m h. below m (inr h)) in
    elim (eqb_tells fact.0 me) [
      | inl same ↦ other_kind me slot fact.0 fact.1 facts (no_echo slot fact.1 (below fact.1 (inl (ap (λ (x : ℕ). (x, fact.1)) (sym same.1))))) ∙ rest
      | inr differs ↦ other_member me slot fact.0 fact.1 facts differs.1 ∙ rest
    ]

abbrev IsShort : Sight → Type 0
IsShort s = length (lines s) ≤ MOST_ECHOED

next_short : (s : Sight) (e : Proposed) → Sound s → length (echoed_in s.me (open_slot s + 1) s.taken) ≤ MOST_ECHOED
next_short s e sound =
    rw (none_above s.me (open_slot s + 1) s.taken (λ m h. elim (sound.within m h) [ inl below ↦ omega arith | inr here ↦ (let same = here.0 in omega arith) ])) (omega arith)

advance_short : (h : Member OrderMessage) → Sound (sight h) → IsShort (sight h) → (c : Option Proposed) (w : Option ℕ) (d : Option (List ℕ)) (x : Step) (sent : List (Outgoing OrderMessage)) → step_by c w d ≡ x → (x ≡ step.Quiet → ⊥) → advance_by (sight h) c w d ≡ sent → IsShort (sight (did (deed.Advanced x sent) h))
advance_short h sound short (Some e) w d x sent is moved same = rw (← is, ← same) (simp length-append (next_short (sight h) e sound))
advance_short h sound short None (Some w) d x sent is moved same =
    let s = sight h in
    rw (← is, ← same) (rw (other_kind s.me (open_slot s) s.me (message.Change (open_slot s) w (change_told s)) s.taken refl) short)
advance_short h sound short None None (Some d) x sent is moved same =
    let s = sight h in
    rw (← is, ← same) (rw (other_kind s.me (open_slot s) s.me (message.Confirm (open_slot s) s.view d) s.taken refl) short)
advance_short h sound short None None None x sent is moved same = absurd (moved (sym is))

own_echo : (s : Sight) (d : List ℕ) → echoed_in s.me (open_slot s) ((s.me, message.Echo (open_slot s) s.view d) ∷ s.taken) ≡ insert_line (d, s.view) (lines s)
own_echo s d = rw (same_number s.me, same_number (open_slot s)) refl

place_short : (s : Sight) (d : List ℕ) → has_echo_place s d ≡ true → IsShort s → length (insert_line (d, s.view) (lines s)) ≤ MOST_ECHOED
place_short s d place short =
    elim (or_cases (nat_lt (length (lines s)) MOST_ECHOED) _ place) [
      | inl room ↦ (let lt = ltb-true (length (lines s)) MOST_ECHOED room in let more = insert_length (d, s.view) (lines s) in omega arith)
      | inr listed ↦ (let same = insert_listed (d, s.view) (lines s) (echoed_rises s.me (open_slot s) s.taken) listed in omega arith)
    ]

echo_short : (h : Member OrderMessage) → IsShort (sight h) → (o : Option Proposed) (sent : List (Outgoing OrderMessage)) → pending (sight h) ≡ o → echo_sent (sight h) o ≡ sent → IsShort (sight (did (deed.Echoed sent) h))
echo_short h short None sent p same = rw (← same) short
echo_short h short (Some e) sent p same =
    let s = sight h in
    let place = and_right _ (has_echo_place s e.digest) (if_may_echo_is s (proposal s s.view) e p).1 in
    rw (← same) (rw (own_echo s e.digest) (place_short s e.digest place short))

tick_short : (h : Member OrderMessage) (due b : Bool) (sent : List (Outgoing OrderMessage)) → IsShort (sight h) → (if b then change_to (sight h) ((sight h).view + 1) else []) ≡ sent → IsShort (sight (did (deed.Ticked due sent) h))
tick_short h due true sent short same =
    let s = sight h in
    rw (← same) (rw (other_kind s.me (open_slot s) s.me (message.Change (open_slot s) (s.view + 1) (change_told s)) s.taken refl) short)
tick_short h due false sent short same = rw (← same) short

module _ (f me : ℕ) where
  abbrev at : Deeds → Member OrderMessage
  at deeds = record { f = f; me = me; deeds = deeds }

  abbrev Kept : Deeds → Type 0
  Kept deeds = AllKeepRules slot_machine f me deeds

  -- at most so many digests are echoed in a slot
  lines_short : (deeds : Deeds) → Kept deeds → IsShort (sight (at deeds))
  lines_short [] kept = omega arith
  lines_short (deed.Took_in from m ∷ past) kept = let s = sight (at past) in rw (other_member me (open_slot s) from m s.taken kept.0.1) (lines_short past kept.1)
  lines_short (deed.Advanced x sent ∷ past) kept =
      let s = sight (at past) in
      advance_short (at past) (sound f me past kept.1) (lines_short past kept.1) (choice s) (view_to_enter s) (confirming s) x sent kept.0.0 kept.0.1 kept.0.2
  lines_short (deed.Echoed sent ∷ past) kept = echo_short (at past) (lines_short past kept.1) (pending (sight (at past))) sent refl kept.0.1
  lines_short (deed.Proposing e sent ∷ past) kept =
      let s = sight (at past) in
      rw (← kept.0.1) (rw (other_kind me (open_slot s) me (message.Propose (open_slot s) s.view e) s.taken refl) (lines_short past kept.1))
  lines_short (deed.Ticked due sent ∷ past) kept = tick_short (at past) due (is_slot_over (sight (at past)) due) sent (lines_short past kept.1) kept.0
  lines_short (deed.Resent sent ∷ past) kept = lines_short past kept.1
  lines_short (deed.Replied slot to sent ∷ past) kept = lines_short past kept.1
  lines_short (deed.Cut slot ∷ past) kept = lines_short past kept.1

-- What is new is within the limits.
both : (a b : Bool) → a ≡ true → b ≡ true → (a && b) ≡ true
both a b h k = rw h k

place_is : (n w : ℕ) → n ≤ last_slot → w < view_bound → is_place n w ≡ true
place_is n w short small = both (nat_le n last_slot) (nat_lt w view_bound) (le-leb n last_slot short) (lt-ltb w view_bound small)

-- whatever is confirmed was said in no later view, and is a digest
prepared_below : (s : Sight) (w : ℕ) → Sound s → AllSay s → s.view < w → (o : Option (ℕ × List ℕ)) → prepared (seen_now s) ≡ o → pair_below w o ≡ true
prepared_below s w sound say above None h = refl
prepared_below s w sound say above (Some pair) h =
    let found = last_found_is s.views (λ view. in_view view ((seen_now s).confirm view s.me)) pair h in
    let p = in_view_is found.0 ((seen_now s).confirm found.0 s.me) pair found.2 in
    let q = first_of_is (confirm_said (open_slot s) found.0) s.taken s.me pair.1 p.1 in
    let said : IsIn (s.me, message.Confirm (open_slot s) found.0 pair.1) s.taken = rw (confirm_said_is (open_slot s) found.0 pair.1 q.0 q.2) at q.1 in
    let below : nat_lt pair.0 w ≡ true = lt-ltb pair.0 w (elim (sound.within (message.Confirm (open_slot s) found.0 pair.1) said) [ inl below ↦ absurd (omega arith) | inr here ↦ (let le = here.1 in let e = p.0 in omega arith) ]) in
    both _ _ below (say s.me (message.Confirm (open_slot s) found.0 pair.1) said)

line_below : (s : Sight) (w : ℕ) → Sound s → AllSay s → s.view < w → (line : Line) → IsIn line (lines s) → is_below w line.1 line.0 ≡ true
line_below s w sound say above line h =
    let said = echoed_is s.me (open_slot s) s.taken line.0 line.1 h in
    let below : nat_lt line.1 w ≡ true = lt-ltb line.1 w (elim (sound.within (message.Echo (open_slot s) line.1 line.0) said) [ inl below ↦ absurd (omega arith) | inr here ↦ (let le = here.1 in omega arith) ]) in
    both _ _ below (say s.me (message.Echo (open_slot s) line.1 line.0) said)

change_proper : (s : Sight) (w : ℕ) → Sound s → AllSay s → IsShort s → open_slot s ≤ last_slot → s.view < w → w < view_bound → proper (message.Change (open_slot s) w (change_told s)) ≡ true
change_proper s w sound say short room above small =
    both _ _
    (both _ _ (place_is (open_slot s) w room small) (both _ _ (lt-ltb 0 w (omega arith)) (prepared_below s w sound say above (prepared (seen_now s)) refl)))
    (both _ _ (both _ _ (echoed_rises s.me (open_slot s) s.taken) (le-leb (length (lines s)) MOST_ECHOED short)) (all_by (λ (line : Line). is_below w line.1 line.0) (lines s) (line_below s w sound say above)))

new_proper : (act : SlotAct) (s t : Sight) (m : OrderMessage) → Sound s → AllSay s → IsShort s → open_slot s ≤ last_slot → t.view < view_bound → s.view < view_bound → MayNew act s t m → SaysDigest m → proper m ≡ true
new_proper act s t (message.Propose n w e) sound say short room here before new says = rw (new.0, new.2) (place_is (open_slot s) t.view room here)
new_proper act s t (message.Echo n w d) sound say short room here before new says = both _ _ (rw (new.0, new.2) (place_is (open_slot s) s.view room before)) says
new_proper act s t (message.Confirm n w d) sound say short room here before new says = both _ _ (rw (new.0, new.2) (place_is (open_slot s) s.view room before)) says
new_proper act s t (message.Change n w c) sound say short room here before new says = rw (new.0, new.4) (change_proper s w sound say short room new.3 (let e = new.2 in omega arith))
new_proper act s t (message.Done n e) sound say short room here before new says = absurd new

module _ (f me : ℕ) where
  abbrev Have : Deeds → Type 0
  Have deeds = HaveDigests (held_in slot_machine deeds)

  have_before : (act : SlotAct) (past : Deeds) → Have (act ∷ past) → Have past
  have_before act past have e i = have e (IsIn-right e (entries_handed_in slot_machine act) (held_in slot_machine past) i)

  -- each message of its own is proper
  own_proper : (deeds : Deeds) → Kept f me deeds → Have deeds → (m : OrderMessage) → IsIn (me, m) (sight (at f me deeds)).taken → proper m ≡ true
  own_proper [] kept have m h = absurd h
  own_proper (act ∷ past) kept have m h =
      let before = have_before act past have in
      elim ((step_of (at f me past) act kept.0).0.adds (me, m) h) [
        | inl old ↦ own_proper past kept.1 before m old
        | inr source ↦ elim source [
          | inl foreign ↦ absurd (foreign.1 refl)
          | inr own ↦ new_proper act (sight (at f me past)) (sight (at f me (act ∷ past))) m (sound f me past kept.1) (all_say f me past kept.1 before) (lines_short f me past kept.1) (log_short f me past kept.1) (sound f me (act ∷ past) kept).small (sound f me past kept.1).small own.1 (all_say f me (act ∷ past) kept have me m h)
        ]
      ]

  vouched_proper : (deeds : Deeds) → Kept f me deeds → Have deeds → (m : OrderMessage) → Vouches (sight (at f me deeds)) m → proper m ≡ true
  vouched_proper deeds kept have (message.Propose n w e) v = own_proper deeds kept have (message.Propose n w e) v
  vouched_proper deeds kept have (message.Echo n w d) v = own_proper deeds kept have (message.Echo n w d) v
  vouched_proper deeds kept have (message.Confirm n w d) v = own_proper deeds kept have (message.Confirm n w d) v
  vouched_proper deeds kept have (message.Change n w c) v = own_proper deeds kept have (message.Change n w c) v
  vouched_proper deeds kept have (message.Done n e) v = place_is n 0 (let below = slice_get_within (chosen_in deeds) n e v in let short = log_short f me deeds kept in omega arith) (omega arith)

  pub handed_out_proper : (act : SlotAct) (deeds : Deeds) → AllKeepRules slot_machine f me (act ∷ deeds) → Have (act ∷ deeds) → (m : OrderMessage) (to : ℕ) → IsFor m to (sent_by act) → proper m ≡ true
  handed_out_proper act deeds kept have m to h = vouched_proper (act ∷ deeds) kept have m ((step_of (at f me deeds) act kept.0).1 (sound f me deeds kept.1) m to h)
