-- What the rules give.
use Rattle.std.proofs.Common.{◌≡◌, ℕ, ◌+◌, ◌*◌, ◌<◌, ◌≤◌, ◌==◌, nat_le, nat_lt, bytes_eq, Bool, true, false, not, ◌&&◌, if◌then◌else◌, List, [], ◌∷◌, Option, Some, None, is_some, ◌⊎◌, inl, inr, refl, sym, ap, ap₂, subst, ◌∙◌, arith, leb-true, ltb-true, eqb-true}
use Rattle.std.specs.Cmp.Lexicographic.{slice_cmp}
use Rattle.std.specs.Ordering.{nat_cmp, is_lt}
use Rattle.cs_base.specs.Lists.{IsIn}
use Rattle.cs_order.specs.Counts.{when, first_below}
use Rattle.cs_base.specs.Options.{or_else}
use Rattle.cs_order.specs.Limits.{last_slot}
use Rattle.cs_order.specs.declared.proposed.Proposed.{Proposed}
use Rattle.cs_order_rules.specs.declared.message.OrderMessage.{OrderMessage}
use Rattle.cs_order_rules.specs.declared.message.OrderMessage.TheVariants as message
use Rattle.cs_order_law.specs.laws.SafeFacts.{and_left, same_bytes}
use Rattle.cs_order_rules.specs.Slot.{Seen, is_digest, votes, if_enough, quorum, with_digest, proposal_of, chosen_entry, by_confirm, is_entry, dones, if_done, by_done, in_view, prepared}
use Rattle.cs_order_rules.specs.Facts.{Facts, Sight, open_slot, leader, is_change_from, proposal_said, echo_said, confirm_said, done_said, echo_in, count_of}
use Rattle.cs_order_rules.specs.Rules.{seen_now, choice, view_to_enter, confirming, proposal, insert_line, with_line, echoed_in}
use Rattle.cs_order_law.specs.laws.SlotFacts.{if_some, or_else_cases, first_below_is, last_below_is, found_from, FoundFrom, first_of_is, proposal_said_is, echo_said_is, confirm_said_is, done_said_is, same_entry_is, not_is, is_found, said_at}

-- the entry stands in a proposal or in a Done of the slot
abbrev pub IsKnown : Sight → ℕ → Proposed → Type 0
IsKnown s slot e = ((i w : ℕ) × IsIn (i, message.Propose slot w e) s.taken) ⊎ ((i : ℕ) × IsIn (i, message.Done slot e) s.taken)

abbrev pub Chooses : Sight → Proposed → Type 0
Chooses s e =
    ((v : ℕ) × (2 * s.f + 1 ≤ votes s.f ((seen_now s).confirm v) e.digest) × IsKnown s (open_slot s) e)
    ⊎ (s.f + 1 ≤ dones (seen_now s) e)

-- a member that said a digest has sent it
pub is_digest_is : (d : List ℕ) (o : Option (List ℕ)) → is_digest d o ≡ true → o ≡ Some d
is_digest_is d None h = cc
is_digest_is d (Some said) h = ap (λ (x : List ℕ). Some x) (same_bytes said d h)

pub is_entry_is : (e : Proposed) (o : Option Proposed) → is_entry e o ≡ true → o ≡ Some e
is_entry_is e None h = cc
is_entry_is e (Some said) h = ap (λ (x : Proposed). Some x) (same_entry_is said e h)

pub said_echo : (s : Sight) (v member : ℕ) (d : List ℕ) → is_digest d ((seen_now s).echo v member) ≡ true → IsIn (member, message.Echo (open_slot s) v d) s.taken
said_echo s v member d h =
    let r = first_of_is (echo_said (open_slot s) v) s.taken member d (is_digest_is d ((seen_now s).echo v member) h) in
    rw (echo_said_is (open_slot s) v d r.0 r.2) at r.1

pub said_confirm : (s : Sight) (v member : ℕ) (d : List ℕ) → is_digest d ((seen_now s).confirm v member) ≡ true → IsIn (member, message.Confirm (open_slot s) v d) s.taken
said_confirm s v member d h =
    let r = first_of_is (confirm_said (open_slot s) v) s.taken member d (is_digest_is d ((seen_now s).confirm v member) h) in
    rw (confirm_said_is (open_slot s) v d r.0 r.2) at r.1

pub said_done : (s : Sight) (member : ℕ) (e : Proposed) → is_entry e ((seen_now s).done member) ≡ true → IsIn (member, message.Done (open_slot s) e) s.taken
said_done s member e h =
    let r = first_of_is (done_said (open_slot s)) s.taken member e (is_entry_is e ((seen_now s).done member) h) in
    rw (done_said_is (open_slot s) e r.0 r.2) at r.1

with_digest_is : (d : List ℕ) (o : Option Proposed) (e : Proposed) → with_digest d o ≡ Some e → (o ≡ Some e) × (e.digest ≡ d)
with_digest_is d None e h = cc
with_digest_is d (Some x) e h =
    let r = if_some (bytes_eq x.digest d) (Some x) e h in
    let same : x ≡ e = (let k = r.1 in cc) in
    (r.1, subst (λ (y : Proposed). y.digest ≡ d) same (same_bytes x.digest d r.0))

pub proposal_of_is : (s : Sight) (d : List ℕ) (e : Proposed) → proposal_of (seen_now s) d ≡ Some e → (e.digest ≡ d) × ((w : ℕ) × IsIn (leader s w, message.Propose (open_slot s) w e) s.taken)
proposal_of_is s d e h =
    let r = first_below_is s.views (λ view. with_digest d (proposal s view)) e h in
    let p = with_digest_is d (proposal s r.0) e r.2 in
    let q = first_of_is (proposal_said (open_slot s) r.0) s.taken (leader s r.0) e p.0 in
    (p.1, (r.0, rw (proposal_said_is (open_slot s) r.0 e q.0 q.2) at q.1))

done_of_is : (s : Sight) (d : List ℕ) (e : Proposed) → first_below (3 * s.f + 1) (λ member. with_digest d ((seen_now s).done member)) ≡ Some e → (e.digest ≡ d) × ((i : ℕ) × IsIn (i, message.Done (open_slot s) e) s.taken)
done_of_is s d e h =
    let r = first_below_is (3 * s.f + 1) (λ member. with_digest d ((seen_now s).done member)) e h in
    let p = with_digest_is d ((seen_now s).done r.0) e r.2 in
    let q = first_of_is (done_said (open_slot s)) s.taken r.0 e p.0 in
    (p.1, (r.0, rw (done_said_is (open_slot s) e q.0 q.2) at q.1))

entry_of_is : (s : Sight) (o : Option (List ℕ)) (e : Proposed) → chosen_entry (seen_now s) o ≡ Some e → (o ≡ Some e.digest) × IsKnown s (open_slot s) e
entry_of_is s None e h = cc
entry_of_is s (Some d) e h =
    elim (or_else_cases (proposal_of (seen_now s) d) (first_below (3 * s.f + 1) (λ member. with_digest d ((seen_now s).done member))) e h) [
      | inl k ↦ let r = proposal_of_is s d e k in (ap (λ (x : List ℕ). Some x) (sym r.0), inl (leader s r.1.0, r.1.0, r.1.1))
      | inr k ↦ let r = done_of_is s d e k in (ap (λ (x : List ℕ). Some x) (sym r.0), inr r.1)
    ]

pub if_enough_is : (f : ℕ) (said : ℕ → Option (List ℕ)) (o : Option (List ℕ)) (d : List ℕ) → if_enough f said o ≡ Some d → 2 * f + 1 ≤ votes f said d
if_enough_is f said None d h = cc
if_enough_is f said (Some x) d h =
    let r = if_some (nat_le (2 * f + 1) (votes f said x)) (Some x) d h in
    let same : x ≡ d = (let k = r.1 in cc) in
    subst (λ y. 2 * f + 1 ≤ votes f said y) same (leb-true (2 * f + 1) _ r.0)

pub quorum_is : (f : ℕ) (said : ℕ → Option (List ℕ)) (d : List ℕ) → quorum f said ≡ Some d → 2 * f + 1 ≤ votes f said d
quorum_is f said d h =
    let r = first_below_is (3 * f + 1) (λ member. if_enough f said (said member)) d h in
    if_enough_is f said _ d r.2

if_done_is : (s : Seen) (o : Option Proposed) (e : Proposed) → if_done s o ≡ Some e → s.f + 1 ≤ dones s e
if_done_is s None e h = cc
if_done_is s (Some x) e h =
    let r = if_some (nat_le (s.f + 1) (dones s x)) (Some x) e h in
    let same : x ≡ e = (let k = r.1 in cc) in
    subst (λ y. s.f + 1 ≤ dones s y) same (leb-true (s.f + 1) _ r.0)

-- what is chosen has its quorum
pub choice_is : (s : Sight) (e : Proposed) → choice s ≡ Some e → (open_slot s < last_slot) × Chooses s e
choice_is s e h =
    let r = if_some (nat_lt (open_slot s) last_slot) (or_else (by_confirm (seen_now s)) (by_done (seen_now s))) e h in (
      ltb-true (open_slot s) last_slot r.0,
      elim (or_else_cases (by_confirm (seen_now s)) (by_done (seen_now s)) e r.1) [
        | inl k ↦
            (let v = first_below_is s.views (λ view. chosen_entry (seen_now s) (quorum s.f ((seen_now s).confirm view))) e k in
            let p = entry_of_is s (quorum s.f ((seen_now s).confirm v.0)) e v.2 in
            inl (v.0, quorum_is s.f ((seen_now s).confirm v.0) e.digest p.0, p.1))
        | inr k ↦
            (let m = first_below_is (3 * s.f + 1) (λ member. if_done (seen_now s) ((seen_now s).done member)) e k in
            inr (if_done_is (seen_now s) _ e m.2))
      ],
    )

-- the view that is entered is above the member's
pub entering_is : (s : Sight) (w : ℕ) → view_to_enter s ≡ Some w → (s.view < w) × (w < s.views)
entering_is s w h =
    let r = last_below_is s.views w (λ view. nat_lt s.view view && nat_le (s.f + 1) (count_of s (is_change_from (open_slot s) view))) h in
    (ltb-true s.view w (and_left _ _ r.1), r.0)

abbrev pub ToConfirm : Sight → List ℕ → Type 0
ToConfirm s d = (2 * s.f + 1 ≤ votes s.f ((seen_now s).echo s.view) d) × (is_some ((seen_now s).confirm s.view s.me) ≡ false)

pub to_confirm_is : (s : Sight) (d : List ℕ) → confirming s ≡ Some d → ToConfirm s d
to_confirm_is s d h =
    let r = if_some (not (is_some ((seen_now s).confirm s.view s.me))) (quorum s.f ((seen_now s).echo s.view)) d h in
    (quorum_is s.f ((seen_now s).echo s.view) d r.1, not_is _ r.0)

-- What a change tells.
pub in_view_is : (v : ℕ) (o : Option (List ℕ)) (pair : ℕ × List ℕ) → in_view v o ≡ Some pair → (pair.0 ≡ v) × (o ≡ Some pair.1)
in_view_is v None pair h = cc
in_view_is v (Some d) pair h = (let same : (v, d) ≡ pair = cc in (ap (λ (y : ℕ × List ℕ). y.0) (sym same), ap (λ (y : ℕ × List ℕ). Some y.1) same))

in_view_some : (v : ℕ) (o : Option (List ℕ)) → is_some o ≡ true → (pair : ℕ × List ℕ) × (in_view v o ≡ Some pair)
in_view_some v None h = cc
in_view_some v (Some d) h = ((v, d), refl)

abbrev pub TellsPair : Sight → ℕ → Option (ℕ × List ℕ) → Type 0
TellsPair s v o = (pair : ℕ × List ℕ) × (o ≡ Some pair) × (v ≤ pair.0) × IsIn (s.me, message.Confirm (open_slot s) pair.0 pair.1) s.taken

tells_by : (s : Sight) (v : ℕ) (o : Option (ℕ × List ℕ)) → FoundFrom (λ view. in_view view ((seen_now s).confirm view s.me)) v s.views o → TellsPair s v o
tells_by s v None h = absurd h
tells_by s v (Some pair) h =
    let p = in_view_is h.0 ((seen_now s).confirm h.0 s.me) pair h.3 in
    let q = first_of_is (confirm_said (open_slot s) h.0) s.taken s.me pair.1 p.1 in
    let said : IsIn (s.me, message.Confirm (open_slot s) h.0 pair.1) s.taken = rw (confirm_said_is (open_slot s) h.0 pair.1 q.0 q.2) at q.1 in
    (pair, refl, (let le = h.1 in let same = p.0 in omega arith), subst (λ w. IsIn (s.me, message.Confirm (open_slot s) w pair.1) s.taken) (sym p.0) said)

-- the prepared pair is of a view at least that of each confirm
pub prepared_is : (s : Sight) (v : ℕ) (d : List ℕ) → v < s.views → IsIn (s.me, message.Confirm (open_slot s) v d) s.taken → TellsPair s v (prepared (seen_now s))
prepared_is s v d below h =
    let found = in_view_some v ((seen_now s).confirm v s.me) (is_found (confirm_said (open_slot s) v) s.taken s.me (message.Confirm (open_slot s) v d) d h (said_at (open_slot s) v d)) in
    tells_by s v (prepared (seen_now s)) (found_from (λ view. in_view view ((seen_now s).confirm view s.me)) v found.0 found.1 s.views below)

abbrev InLine : List ℕ × ℕ → List ℕ × ℕ → List (List ℕ × ℕ) → Type 0
InLine x line lines = (x ≡ line) ⊎ IsIn x lines

line_by : (x line other : List ℕ × ℕ) (lines inserted : List (List ℕ × ℕ)) → (IsIn x inserted → InLine x line lines) → (same later before : Bool) → IsIn x (if same then (if later then line else other) ∷ lines else (if before then line ∷ other ∷ lines else other ∷ inserted)) → InLine x line (other ∷ lines)
line_by x line other lines inserted below true true before (inl e) = inl e
line_by x line other lines inserted below true true before (inr h) = inr (inr h)
line_by x line other lines inserted below true false before h = inr h
line_by x line other lines inserted below false later true h = h
line_by x line other lines inserted below false later false (inl e) = inr (inl e)
line_by x line other lines inserted below false later false (inr h) = elim (below h) [ inl e ↦ inl e | inr k ↦ inr (inr k) ]

pub inserted_is : (x line : List ℕ × ℕ) (lines : List (List ℕ × ℕ)) → IsIn x (insert_line line lines) → InLine x line lines
inserted_is x line [] h = h
inserted_is x line (other ∷ lines) h = line_by x line other lines (insert_line line lines) (inserted_is x line lines) (bytes_eq line.0 other.0) (nat_lt other.1 line.1) (is_lt (slice_cmp nat_cmp line.0 other.0)) h

echo_in_is : (slot : ℕ) (line : List ℕ × ℕ) (m : OrderMessage) → echo_in slot m ≡ Some line → m ≡ message.Echo slot line.1 line.0
echo_in_is slot line (message.Propose a b x) h = cc
echo_in_is slot line (message.Echo a b x) h = (let r = if_some (a == slot) (Some (x, b)) line h in let p = eqb-true a slot r.0 in let same : (x, b) ≡ line = (let k = r.1 in cc) in subst (λ (y : List ℕ × ℕ). message.Echo a b x ≡ message.Echo slot y.1 y.0) same (ap (λ n. message.Echo n b x) p))
echo_in_is slot line (message.Confirm a b x) h = cc
echo_in_is slot line (message.Change a b x) h = cc
echo_in_is slot line (message.Done a b) h = cc

echoed_step : (me slot : ℕ) (fact : ℕ × OrderMessage) (facts : Facts) (d : List ℕ) (u : ℕ) (lines : List (List ℕ × ℕ)) → (IsIn (d, u) lines → IsIn (me, message.Echo slot u d) facts) → (found : Option (List ℕ × ℕ)) → when (fact.0 == me) (echo_in slot fact.1) ≡ found → IsIn (d, u) (with_line found lines) → IsIn (me, message.Echo slot u d) (fact ∷ facts)
echoed_step me slot fact facts d u lines below None h k = inr (below k)
echoed_step me slot fact facts d u lines below (Some line) h k =
    elim (inserted_is (d, u) line lines k) [
      | inl e ↦
          (let r = if_some (fact.0 == me) (echo_in slot fact.1) line h in
          let said : fact.1 ≡ message.Echo slot u d = echo_in_is slot line fact.1 r.1 ∙ ap (λ (y : List ℕ × ℕ). message.Echo slot y.1 y.0) (sym e) in
          inl (ap₂ (λ (x : ℕ) (m : OrderMessage). (x, m)) (sym (eqb-true fact.0 me r.0)) (sym said)))
      | inr old ↦ inr (below old)
    ]

-- what is listed was echoed
pub echoed_is : (me slot : ℕ) (facts : Facts) (d : List ℕ) (u : ℕ) → IsIn (d, u) (echoed_in me slot facts) → IsIn (me, message.Echo slot u d) facts
echoed_is me slot [] d u h = absurd h
echoed_is me slot (fact ∷ facts) d u h = echoed_step me slot fact facts d u (echoed_in me slot facts) (echoed_is me slot facts d u) (when (fact.0 == me) (echo_in slot fact.1)) refl h
