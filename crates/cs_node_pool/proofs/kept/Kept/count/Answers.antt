use Rattle.std.proofs.Common.{◌≡◌, ◌∙◌, refl, ap, sym, subst}
use Rattle.indexmap.specs.IndexMap.{set_value_at, with_value_at}
use Rattle.cs_node_state.specs.Pool.{with_ballot}
use Rattle.cs_node_pool.specs.Calls.{counted_in}
use Rattle.cs_node_pool.specs.declared.kept.Kept.{Kept}
use Rattle.cs_node_pool.specs.Seats.{seat_of_place, seated, pooled_in, passes, is_due, reseated, IsRightIn}
use Rattle.cs_node_pool.proofs.Places.{At, at-first, absent, found-at, place-got, unchanged}
use Rattle.cs_node_pool.proofs.Right.{right-at}
use Rattle.cs_node_pool.proofs.Keeping.{pool-changed, sound-changed, waiting-kept, unique-set, ballot-session, ballot-waits}
use Rattle.cs_node_pool.proofs.kept.Kept.count.Goals as goal

pub returns-in_default-clause-answer : goal.returns-in_default-clause-answer
returns-in_default-clause-answer c =
    ap (counted_in c.args.ballot.sender) (sym (absent c.args.digest.now c.args.self.now.seats.entries (sym c.in_default.ensures.index)))

pub returns-in_default-clause-pool : goal.returns-in_default-clause-pool
returns-in_default-clause-pool c =
    unchanged c.args.digest.now (with_ballot c.args.ballot) (seated c.args.self.now.seats.entries) (absent c.args.digest.now c.args.self.now.seats.entries (sym c.in_default.ensures.index))

pub take_vote-requires : goal.take_vote-requires
take_vote-requires c =
    let old : Kept = c.args.self.now in
    let place = c.in-Some-get_index_mut.place.now in
    subst (IsRightIn c.args.config.now) (place-got old.seats.entries c.in-Some.index place (sym c.in-Some-get_index_mut.ensures.value))
    (right-at c.args.config.now old.seats.entries c.in-Some.index c.requires.right)

pub returns-clause-answer : goal.returns-clause-answer
returns-clause-answer c =
    let old : Kept = c.args.self.now in
    let d = c.args.digest.now in
    let n = c.in-Some.index in
    let place = c.in-Some-get_index_mut.place.now in
    let at : At d old.seats.entries n = at-first d old.seats.entries n (sym c.in-Some.ensures.index) in
    let got : seat_of_place n old.seats.entries ≡ place = place-got old.seats.entries n place (sym c.in-Some-get_index_mut.ensures.value) in
    c.in_ok-answer.ensures.answer
    ∙ ap (counted_in c.args.ballot.sender) (ap pooled_in (sym got) ∙ sym (found-at d old.seats.entries n c.requires.placed.unique at))

pub returns-clause-sound : goal.returns-clause-sound
returns-clause-sound c =
    let old : Kept = c.args.self.now in
    let config = c.args.config.now in
    let change = with_ballot c.args.ballot in
    let d = c.args.digest.now in
    let n = c.in-Some.index in
    let place = c.in-Some-get_index_mut.place.now in
    let at : At d old.seats.entries n = at-first d old.seats.entries n (sym c.in-Some.ensures.index) in
    let got : seat_of_place n old.seats.entries ≡ place = place-got old.seats.entries n place (sym c.in-Some-get_index_mut.ensures.value) in
    let new : Kept = record { seats = with_value_at old.seats n c.take_vote.new.place; sessions = old.sessions; waiting = old.waiting; ready = c.mark.new.chosen } in
    let is : c.take_vote.new.place ≡ reseated config.f change (seat_of_place n old.seats.entries) = c.in_ok-answer.ensures.place ∙ ap (reseated config.f change) (sym got) in
    let entries : new.seats.entries ≡ set_value_at old.seats.entries n (reseated config.f change (seat_of_place n old.seats.entries)) = ap (set_value_at old.seats.entries n) is in
    sound-changed config change (ballot-session c.args.ballot) old new d n at entries c.requires
    (unique-set old.seats.entries n c.take_vote.new.place c.requires.placed.unique) refl
    (waiting-kept config change (ballot-session c.args.ballot) old new d n at entries c.requires (ballot-waits config.f c.args.ballot (seat_of_place n old.seats.entries)))
    c.is_due.result (c.is_due.ensures ∙ ap (passes is_due) is) (c.in_ok-mark.ensures.has, c.in_ok-mark.ensures.rising)

pub returns-clause-pool : goal.returns-clause-pool
returns-clause-pool c =
    let old : Kept = c.args.self.now in
    let config = c.args.config.now in
    let change = with_ballot c.args.ballot in
    let d = c.args.digest.now in
    let n = c.in-Some.index in
    let place = c.in-Some-get_index_mut.place.now in
    let at : At d old.seats.entries n = at-first d old.seats.entries n (sym c.in-Some.ensures.index) in
    let got : seat_of_place n old.seats.entries ≡ place = place-got old.seats.entries n place (sym c.in-Some-get_index_mut.ensures.value) in
    let new : Kept = record { seats = with_value_at old.seats n c.take_vote.new.place; sessions = old.sessions; waiting = old.waiting; ready = c.mark.new.chosen } in
    let is : c.take_vote.new.place ≡ reseated config.f change (seat_of_place n old.seats.entries) = c.in_ok-answer.ensures.place ∙ ap (reseated config.f change) (sym got) in
    pool-changed config change (ballot-session c.args.ballot) old new d n at (ap (set_value_at old.seats.entries n) is) c.requires
