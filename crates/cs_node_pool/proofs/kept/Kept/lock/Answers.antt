use Rattle.std.proofs.Common.{◌≡◌, ◌∙◌, refl, ap, sym}
use Rattle.indexmap.specs.IndexMap.{set_value_at, with_value_at}
use Rattle.cs_node_state.specs.Pool.{as_locked}
use Rattle.cs_node_pool.specs.declared.kept.Kept.{Kept}
use Rattle.cs_node_pool.specs.Seats.{seat_of_place, seated, passes, is_due, reseated}
use Rattle.cs_node_pool.proofs.Places.{At, at-first, absent, place-got, unchanged}
use Rattle.cs_node_pool.proofs.Keeping.{pool-changed, sound-changed, waiting-ended, unique-set, locked-waits}
use Rattle.cs_node_pool.proofs.kept.Kept.lock.Goals as goal

pub returns-in_default-clause-pool : goal.returns-in_default-clause-pool
returns-in_default-clause-pool c =
    unchanged c.args.digest.now as_locked (seated c.args.self.now.seats.entries) (absent c.args.digest.now c.args.self.now.seats.entries (sym c.in_default.ensures.index))

pub returns-clause-sound : goal.returns-clause-sound
returns-clause-sound c =
    let old : Kept = c.args.self.now in
    let config = c.args.config.now in
    let d = c.args.digest.now in
    let n = c.in-Some.index in
    let place = c.in-Some-get_index_mut.place.now in
    let at : At d old.seats.entries n = at-first d old.seats.entries n (sym c.in-Some.ensures.index) in
    let got : seat_of_place n old.seats.entries ≡ place = place-got old.seats.entries n place (sym c.in-Some-get_index_mut.ensures.value) in
    let new : Kept = record { seats = with_value_at old.seats n c.lock.new.place; sessions = old.sessions; waiting = c.mark-2.new.chosen; ready = c.mark.new.chosen } in
    let is : c.lock.new.place ≡ reseated config.f as_locked (seat_of_place n old.seats.entries) = c.lock.ensures ∙ ap (reseated config.f as_locked) (sym got) in
    let entries : new.seats.entries ≡ set_value_at old.seats.entries n (reseated config.f as_locked (seat_of_place n old.seats.entries)) = ap (set_value_at old.seats.entries n) is in
    sound-changed config as_locked (λ p. refl) old new d n at entries c.requires
    (unique-set old.seats.entries n c.lock.new.place c.requires.placed.unique) refl
    (waiting-ended config as_locked (λ p. refl) old new d n at entries c.requires (locked-waits config.f (seat_of_place n old.seats.entries)) (c.in_ok-mark-2.ensures.has, c.in_ok-mark-2.ensures.rising))
    c.is_due.result (c.is_due.ensures ∙ ap (passes is_due) is) (c.in_ok-mark.ensures.has, c.in_ok-mark.ensures.rising)

pub returns-clause-pool : goal.returns-clause-pool
returns-clause-pool c =
    let old : Kept = c.args.self.now in
    let config = c.args.config.now in
    let d = c.args.digest.now in
    let n = c.in-Some.index in
    let place = c.in-Some-get_index_mut.place.now in
    let at : At d old.seats.entries n = at-first d old.seats.entries n (sym c.in-Some.ensures.index) in
    let got : seat_of_place n old.seats.entries ≡ place = place-got old.seats.entries n place (sym c.in-Some-get_index_mut.ensures.value) in
    let new : Kept = record { seats = with_value_at old.seats n c.lock.new.place; sessions = old.sessions; waiting = c.mark-2.new.chosen; ready = c.mark.new.chosen } in
    let is : c.lock.new.place ≡ reseated config.f as_locked (seat_of_place n old.seats.entries) = c.lock.ensures ∙ ap (reseated config.f as_locked) (sym got) in
    pool-changed config as_locked (λ p. refl) old new d n at (ap (set_value_at old.seats.entries n) is) c.requires
