use Rattle.std.proofs.Common.{◌+◌, List, length, ap, sym, ◌∙◌, subst}
use Rattle.cs_order_open.specs.Shows.{KeptOpenSlot, ShowsSlot}
use Rattle.cs_log.specs.Later.{NoneFrom, ShowLater}
use Rattle.cs_log.proofs.LaterSlots.{new_shows, none_behind, one_more, one_longer}
use Rattle.cs_log.proofs.later.extend.Goals as goal

pub loop-place-preserved : goal.loop-place-preserved
loop-place-preserved c =
    let later = c.loop-place.later.items in
    let slot = c.in_ok-slot.slot in
    let first = c.args.first in
    let long = c.loop-place.invariant.0 in (
      ap length c.in_default.ensures.items ∙ one_longer later slot ∙ ap (λ n. n + 1) long,
      λ s f me views show.
          let before = c.loop-place.invariant.1 s f me views show in
          let none = subst (λ n. NoneFrom (first + n) s.taken) long (none_behind later s first before) in
          let made = new_shows slot s (first + c.loop-place.place) (λ t a b v e. c.in_ok-slot.ensures.shows t (a ∙ f) (b ∙ me) v e) views none in
          subst (λ (xs : List KeptOpenSlot). ShowLater xs s first) (sym c.in_default.ensures.items)
          (one_more later s first slot before (subst (λ n. ShowsSlot slot s (first + n) 0) (sym long) made)),
    )
