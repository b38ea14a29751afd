-- A message of the slot is taken, or was taken before.
use Rattle.std.proofs.Common.{◌≡◌, ◌≢◌, ℕ, ◌+◌, ◌*◌, ◌%◌, ◌==◌, nat_le, Bool, true, false, not, ◌&&◌, ◌||◌, List, Option, Some, is_some, if◌then◌else◌, inl, inr, refl, sym, ap, ◌∙◌, eqb-true}
use Rattle.std.proofs.lemmas.Bool.Decides.{eqb_tells}
use Rattle.cs_order.specs.Counts.{when}
use Rattle.cs_order.specs.declared.proposed.Proposed.{Proposed}
use Rattle.cs_order_rules.specs.declared.message.Change.{Change}
use Rattle.cs_order_rules.specs.declared.message.OrderMessage.{OrderMessage}
use Rattle.cs_order_rules.specs.declared.message.OrderMessage.TheVariants as message
use Rattle.cs_order_rules.specs.Slot.{Seen}
use Rattle.cs_order_rules.specs.Facts.{Sight, member_count, slot_of_message, proposal_said, echo_said, confirm_said, change_said, done_said, is_like, took, first_of}
use Rattle.cs_order_law.specs.laws.SlotFacts.{same_number}
use Rattle.cs_order_rules.specs.Rules.{insert_line, with_line}
use Rattle.cs_slot.specs.Kept.{seen_in, in_later, with_proposal, with_echo, with_confirm, with_done}
use Rattle.cs_change.specs.Kept.{change_in, with_told, reaches}
use Rattle.cs_order_open.specs.Shows.{KeptOpenSlot, ShowsSlot, ShowsNext, TakesFirst, led}
use Rattle.cs_order_open.specs.laws.Seeing.{took_is_found, like_proposal, like_echo, like_confirm, like_change, like_done, shows_proposal, shows_echo, shows_confirm, shows_change, shows_done}

-- nothing changed
still : (k new : KeptOpenSlot) (s : Sight) (n view : ℕ) → ShowsSlot k s n view → seen_in new.slot ≡ seen_in k.slot → change_in new.changes.changes ≡ change_in k.changes.changes → ((v m : ℕ) → reaches new.changes.furthest v m ≡ reaches k.changes.furthest v m) → new.changes.f ≡ k.changes.f → new.echoed ≡ k.echoed → ShowsSlot new s n view
still k new s n view shows slot told reached f echoed =
    record {
      seen = slot ∙ shows.seen;
      same_f = f ∙ shows.same_f;
      told = λ v m. ap (λ (g : ℕ → ℕ → Option Change). g v m) told ∙ shows.told v m;
      reached = λ v m. reached v m ∙ shows.reached v m;
      echoed = echoed ∙ shows.echoed;
      led_only = shows.led_only;
    }

still_slot : (k new : KeptOpenSlot) (s : Sight) (n view : ℕ) → ShowsSlot k s n view → seen_in new.slot ≡ seen_in k.slot → new.changes ≡ k.changes → new.echoed ≡ k.echoed → ShowsSlot new s n view
still_slot k new s n view shows slot changes echoed =
    still k new s n view shows slot (rw changes refl) (λ v m. rw changes refl) (rw changes refl) echoed

pub new_proposal : (k new : KeptOpenSlot) (s : Sight) (n view from w : ℕ) (e : Proposed) (fresh : Bool) → ShowsSlot k s n view → from ≡ (n + w) % member_count s → fresh ≡ not (is_some ((seen_in k.slot).proposal w)) → seen_in new.slot ≡ with_proposal fresh (seen_in k.slot) w e → new.changes ≡ k.changes → new.echoed ≡ k.echoed → TakesFirst fresh new s n view from (message.Propose n w e)
new_proposal k new s n view from w e fresh shows leads is slot changes echoed = (answer, by_fresh fresh is slot)
  where
    answer : fresh ≡ not (took (is_like (message.Propose n w e)) s.taken from)
    answer =
        is ∙ ap (λ (x : Seen). not (is_some (x.proposal w))) shows.seen
        ∙ ap (λ j. not (is_some (first_of (proposal_said n w) s.taken j))) (sym leads)
        ∙ ap not (sym (took_is_found (is_like (message.Propose n w e)) (proposal_said n w) (like_proposal n w e) s.taken from))

    by_fresh : (b : Bool) → b ≡ not (is_some ((seen_in k.slot).proposal w)) → seen_in new.slot ≡ with_proposal b (seen_in k.slot) w e → ShowsNext b new s n view from (message.Propose n w e)
    by_fresh true first now = shows_proposal k new s n view from w e shows leads first now changes echoed
    by_fresh false first now = still_slot k new s n view shows now changes echoed

pub takes_proposal : (k new : KeptOpenSlot) (s : Sight) (n view from slot w : ℕ) (e : Proposed) (m : OrderMessage) (fresh : Bool) → m ≡ message.Propose slot w e → slot_of_message m ≡ k.slot.n → led k.slot.f from m ≡ true → ShowsSlot k s n view → fresh ≡ not (is_some ((seen_in k.slot).proposal w)) → seen_in new.slot ≡ with_proposal fresh (seen_in k.slot) w e → new.changes ≡ k.changes → new.echoed ≡ k.echoed → TakesFirst fresh new s n view from m
takes_proposal k new s n view from slot w e m fresh it slot_is leads shows is now changes echoed =
    let n_is : k.slot.n ≡ n = ap (λ (x : Seen). x.n) shows.seen in
    let f_is : k.slot.f ≡ s.f = ap (λ (x : Seen). x.f) shows.seen in
    let same : slot ≡ n = rw it at slot_is ∙ n_is in
    let led_by : (from == (slot + w) % (3 * k.slot.f + 1)) ≡ true = rw it at leads in
    let leads_here = eqb-true from ((slot + w) % (3 * k.slot.f + 1)) led_by in
    let leader : from ≡ (n + w) % member_count s = rw (same, f_is) at leads_here in
    rw (it, same) (new_proposal k new s n view from w e fresh shows leader is now changes echoed)

-- another member's echo is none of the member's own
strange_line : (from me : ℕ) (line : List ℕ × ℕ) (lines : List (List ℕ × ℕ)) → from ≢ me → with_line (when (from == me) (Some line)) lines ≡ lines
strange_line from me line lines other = elim (eqb_tells from me) [ inl same ↦ absurd (other same.1) | inr k ↦ rw k.0 refl ]

pub new_echo : (k new : KeptOpenSlot) (s : Sight) (n view from w : ℕ) (d : List ℕ) (fresh : Bool) → ShowsSlot k s n view → from ≢ s.me → fresh ≡ not (is_some ((seen_in k.slot).echo w from)) → seen_in new.slot ≡ with_echo fresh (seen_in k.slot) w from d → new.changes ≡ k.changes → new.echoed ≡ k.echoed → TakesFirst fresh new s n view from (message.Echo n w d)
new_echo k new s n view from w d fresh shows other is slot changes echoed = (answer, by_fresh fresh is slot)
  where
    answer : fresh ≡ not (took (is_like (message.Echo n w d)) s.taken from)
    answer =
        is ∙ ap (λ (x : Seen). not (is_some (x.echo w from))) shows.seen
        ∙ ap not (sym (took_is_found (is_like (message.Echo n w d)) (echo_said n w) (like_echo n w d) s.taken from))

    by_fresh : (b : Bool) → b ≡ not (is_some ((seen_in k.slot).echo w from)) → seen_in new.slot ≡ with_echo b (seen_in k.slot) w from d → ShowsNext b new s n view from (message.Echo n w d)
    by_fresh true first now = shows_echo k new s n view from w d shows first now changes (echoed ∙ sym (strange_line from s.me (d, w) k.echoed other))
    by_fresh false first now = still_slot k new s n view shows now changes echoed

pub takes_echo : (k new : KeptOpenSlot) (s : Sight) (n view from slot w : ℕ) (d : List ℕ) (m : OrderMessage) (fresh : Bool) → m ≡ message.Echo slot w d → slot_of_message m ≡ k.slot.n → from ≢ k.slot.me → ShowsSlot k s n view → fresh ≡ not (is_some ((seen_in k.slot).echo w from)) → seen_in new.slot ≡ with_echo fresh (seen_in k.slot) w from d → new.changes ≡ k.changes → new.echoed ≡ k.echoed → TakesFirst fresh new s n view from m
takes_echo k new s n view from slot w d m fresh it slot_is other shows is now changes echoed =
    let n_is : k.slot.n ≡ n = ap (λ (x : Seen). x.n) shows.seen in
    let me_is : k.slot.me ≡ s.me = ap (λ (x : Seen). x.me) shows.seen in
    let same : slot ≡ n = rw it at slot_is ∙ n_is in
    let stranger : from ≢ s.me = rw me_is at other in
    rw (it, same) (new_echo k new s n view from w d fresh shows stranger is now changes echoed)

pub new_confirm : (k new : KeptOpenSlot) (s : Sight) (n view from w : ℕ) (d : List ℕ) (fresh : Bool) → ShowsSlot k s n view → fresh ≡ not (is_some ((seen_in k.slot).confirm w from)) → seen_in new.slot ≡ with_confirm fresh (seen_in k.slot) w from d → new.changes ≡ k.changes → new.echoed ≡ k.echoed → TakesFirst fresh new s n view from (message.Confirm n w d)
new_confirm k new s n view from w d fresh shows is slot changes echoed = (answer, by_fresh fresh is slot)
  where
    answer : fresh ≡ not (took (is_like (message.Confirm n w d)) s.taken from)
    answer =
        is ∙ ap (λ (x : Seen). not (is_some (x.confirm w from))) shows.seen
        ∙ ap not (sym (took_is_found (is_like (message.Confirm n w d)) (confirm_said n w) (like_confirm n w d) s.taken from))

    by_fresh : (b : Bool) → b ≡ not (is_some ((seen_in k.slot).confirm w from)) → seen_in new.slot ≡ with_confirm b (seen_in k.slot) w from d → ShowsNext b new s n view from (message.Confirm n w d)
    by_fresh true first now = shows_confirm k new s n view from w d shows first now changes echoed
    by_fresh false first now = still_slot k new s n view shows now changes echoed

pub takes_confirm : (k new : KeptOpenSlot) (s : Sight) (n view from slot w : ℕ) (d : List ℕ) (m : OrderMessage) (fresh : Bool) → m ≡ message.Confirm slot w d → slot_of_message m ≡ k.slot.n → ShowsSlot k s n view → fresh ≡ not (is_some ((seen_in k.slot).confirm w from)) → seen_in new.slot ≡ with_confirm fresh (seen_in k.slot) w from d → new.changes ≡ k.changes → new.echoed ≡ k.echoed → TakesFirst fresh new s n view from m
takes_confirm k new s n view from slot w d m fresh it slot_is shows is now changes echoed =
    let n_is : k.slot.n ≡ n = ap (λ (x : Seen). x.n) shows.seen in
    let same : slot ≡ n = rw it at slot_is ∙ n_is in
    rw (it, same) (new_confirm k new s n view from w d fresh shows is now changes echoed)

pub new_done : (k new : KeptOpenSlot) (s : Sight) (n view from : ℕ) (e : Proposed) (fresh : Bool) → ShowsSlot k s n view → fresh ≡ not (is_some ((seen_in k.slot).done from)) → seen_in new.slot ≡ with_done fresh (seen_in k.slot) from e → new.changes ≡ k.changes → new.echoed ≡ k.echoed → TakesFirst fresh new s n view from (message.Done n e)
new_done k new s n view from e fresh shows is slot changes echoed = (answer, by_fresh fresh is slot)
  where
    answer : fresh ≡ not (took (is_like (message.Done n e)) s.taken from)
    answer =
        is ∙ ap (λ (x : Seen). not (is_some (x.done from))) shows.seen
        ∙ ap not (sym (took_is_found (is_like (message.Done n e)) (done_said n) (like_done n e) s.taken from))

    by_fresh : (b : Bool) → b ≡ not (is_some ((seen_in k.slot).done from)) → seen_in new.slot ≡ with_done b (seen_in k.slot) from e → ShowsNext b new s n view from (message.Done n e)
    by_fresh true first now = shows_done k new s n view from e shows first now changes echoed
    by_fresh false first now = still_slot k new s n view shows now changes echoed

pub takes_done : (k new : KeptOpenSlot) (s : Sight) (n view from slot : ℕ) (e : Proposed) (m : OrderMessage) (fresh : Bool) → m ≡ message.Done slot e → slot_of_message m ≡ k.slot.n → ShowsSlot k s n view → fresh ≡ not (is_some ((seen_in k.slot).done from)) → seen_in new.slot ≡ with_done fresh (seen_in k.slot) from e → new.changes ≡ k.changes → new.echoed ≡ k.echoed → TakesFirst fresh new s n view from m
takes_done k new s n view from slot e m fresh it slot_is shows is now changes echoed =
    let n_is : k.slot.n ≡ n = ap (λ (x : Seen). x.n) shows.seen in
    let same : slot ≡ n = rw it at slot_is ∙ n_is in
    rw (it, same) (new_done k new s n view from e fresh shows is now changes echoed)

pub new_change : (k new : KeptOpenSlot) (s : Sight) (n view from w : ℕ) (c : Change) (fresh : Bool) → ShowsSlot k s n view → fresh ≡ not (is_some (change_in k.changes.changes w from)) → new.slot ≡ k.slot → change_in new.changes.changes ≡ with_told fresh (change_in k.changes.changes) w from c → ((v member : ℕ) → reaches new.changes.furthest v member ≡ ((fresh && ((from == member) && nat_le v w)) || reaches k.changes.furthest v member)) → new.changes.f ≡ k.changes.f → new.echoed ≡ k.echoed → TakesFirst fresh new s n view from (message.Change n w c)
new_change k new s n view from w c fresh shows is slot told reached f echoed = (answer, by_fresh fresh is told reached)
  where
    answer : fresh ≡ not (took (is_like (message.Change n w c)) s.taken from)
    answer =
        is ∙ ap (λ (o : Option Change). not (is_some o)) (shows.told w from)
        ∙ ap not (sym (took_is_found (is_like (message.Change n w c)) (change_said n w) (like_change n w c) s.taken from))

    by_fresh : (b : Bool) → b ≡ not (is_some (change_in k.changes.changes w from)) → change_in new.changes.changes ≡ with_told b (change_in k.changes.changes) w from c → ((v member : ℕ) → reaches new.changes.furthest v member ≡ ((b && ((from == member) && nat_le v w)) || reaches k.changes.furthest v member)) → ShowsNext b new s n view from (message.Change n w c)
    by_fresh true first now also = shows_change k new s n view from w c shows first slot now also f echoed
    by_fresh false first now also = still k new s n view shows (ap seen_in slot) now also f echoed

pub takes_change : (k new : KeptOpenSlot) (s : Sight) (n view from slot w : ℕ) (c : Change) (m : OrderMessage) (fresh : Bool) → m ≡ message.Change slot w c → slot_of_message m ≡ k.slot.n → ShowsSlot k s n view → fresh ≡ not (is_some (change_in k.changes.changes w from)) → new.slot ≡ k.slot → change_in new.changes.changes ≡ with_told fresh (change_in k.changes.changes) w from c → ((v member : ℕ) → reaches new.changes.furthest v member ≡ ((fresh && ((from == member) && nat_le v w)) || reaches k.changes.furthest v member)) → new.changes.f ≡ k.changes.f → new.echoed ≡ k.echoed → TakesFirst fresh new s n view from m
takes_change k new s n view from slot w c m fresh it slot_is shows is same_slot told reached f echoed =
    let n_is : k.slot.n ≡ n = ap (λ (x : Seen). x.n) shows.seen in
    let same : slot ≡ n = rw it at slot_is ∙ n_is in
    rw (it, same) (new_change k new s n view from w c fresh shows is same_slot told reached f echoed)

pub later_view : (k new : KeptOpenSlot) (s : Sight) (n v view : ℕ) → ShowsSlot k s n v → seen_in new.slot ≡ in_later view (seen_in k.slot) → new.changes ≡ k.changes → new.echoed ≡ k.echoed → ShowsSlot new s n view
later_view k new s n v view shows slot changes echoed =
    record {
      seen = slot ∙ ap (in_later view) shows.seen;
      same_f = rw changes shows.same_f;
      told = rw changes shows.told;
      reached = rw changes shows.reached;
      echoed = rw echoed shows.echoed;
      led_only = shows.led_only;
    }

-- The member's own messages.
pub says_proposal : (k new : KeptOpenSlot) (s : Sight) (n view me w : ℕ) (e : Proposed) (fresh : Bool) → ShowsSlot k s n view → me ≡ (k.slot.n + w) % (3 * k.slot.f + 1) → fresh ≡ not (is_some ((seen_in k.slot).proposal w)) → seen_in new.slot ≡ with_proposal fresh (seen_in k.slot) w e → new.changes ≡ k.changes → new.echoed ≡ k.echoed → TakesFirst fresh new s n view me (message.Propose n w e)
says_proposal k new s n view me w e fresh shows leads is now changes echoed =
    let n_is : k.slot.n ≡ n = ap (λ (x : Seen). x.n) shows.seen in
    let f_is : k.slot.f ≡ s.f = ap (λ (x : Seen). x.f) shows.seen in
    let leader : me ≡ (n + w) % member_count s = rw (n_is, f_is) at leads in
    new_proposal k new s n view me w e fresh shows leader is now changes echoed

-- an echo of the member itself is listed too
pub says_echo : (k new : KeptOpenSlot) (s : Sight) (n view me w : ℕ) (d : List ℕ) (fresh : Bool) → ShowsSlot k s n view → me ≡ k.slot.me → fresh ≡ not (is_some ((seen_in k.slot).echo w me)) → seen_in new.slot ≡ with_echo fresh (seen_in k.slot) w me d → new.changes ≡ k.changes → new.echoed ≡ (if fresh then insert_line (d, w) k.echoed else k.echoed) → TakesFirst fresh new s n view me (message.Echo n w d)
says_echo k new s n view me w d fresh shows mine is slot changes echoed = (answer, by_fresh fresh is slot echoed)
  where
    answer : fresh ≡ not (took (is_like (message.Echo n w d)) s.taken me)
    answer =
        is ∙ ap (λ (x : Seen). not (is_some (x.echo w me))) shows.seen
        ∙ ap not (sym (took_is_found (is_like (message.Echo n w d)) (echo_said n w) (like_echo n w d) s.taken me))

    own : (me == s.me) ≡ true
    own = rw (mine ∙ ap (λ (x : Seen). x.me) shows.seen) (same_number s.me)

    by_fresh : (b : Bool) → b ≡ not (is_some ((seen_in k.slot).echo w me)) → seen_in new.slot ≡ with_echo b (seen_in k.slot) w me d → new.echoed ≡ (if b then insert_line (d, w) k.echoed else k.echoed) → ShowsNext b new s n view me (message.Echo n w d)
    by_fresh true first now line = shows_echo k new s n view me w d shows first now changes (rw own line)
    by_fresh false first now line = still_slot k new s n view shows now changes line
