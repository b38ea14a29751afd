use Rattle.std.proofs.Common.{◌≡◌, ◌∙◌, ◌+◌, ◌-◌, true, false, None, is_some, is_none, refl, ap, sym, subst, arith, rules}
use Rattle.indexmap.specs.IndexMap.{set_value_at, with_value_at}
use Rattle.cs_node_pool.specs.declared.kept.Kept.{Kept}
use Rattle.cs_node_pool.specs.Seats.{Seats, seat_of_place, seated, seats_taken, AllRight}
use Rattle.cs_node_pool.proofs.Places.{At, at-first, absent, found-at, place-got, without-none, set-still}
use Rattle.cs_node_pool.proofs.Closing.{sessions-left}
use Rattle.cs_node_pool.proofs.Keeping.{placed-left, pool-left, placed-still, unique-set, some-there, no-session}
use Rattle.cs_node_pool.proofs.Right.{right-set}
use Rattle.cs_node_pool.proofs.kept.Kept.leave.Goals as goal

pub returns-in_default-clause-pool : goal.returns-in_default-clause-pool
returns-in_default-clause-pool c =
    sym (without-none c.args.digest.now (seated c.args.self.now.seats.entries) (absent c.args.digest.now c.args.self.now.seats.entries (sym c.in_default.ensures.index)))

-- a gap is where it was
pub returns-then-is_none-clause-placed : goal.returns-then-is_none-clause-placed
returns-then-is_none-clause-placed c =
    let old : Kept = c.args.self.now in
    let n = c.in-Some.index in
    let got : seat_of_place n old.seats.entries ≡ c.in-Some-get_index_mut.place.now = place-got old.seats.entries n c.in-Some-get_index_mut.place.now (sym c.in-Some-get_index_mut.ensures.value) in
    let same : set_value_at old.seats.entries n c.in-Some-get_index_mut.place.now ≡ old.seats.entries = ap (set_value_at old.seats.entries n) (sym got) ∙ set-still old.seats.entries n in
    let new : Kept = record { seats = with_value_at old.seats n c.in-Some-get_index_mut.place.now; sessions = old.sessions; waiting = old.waiting; ready = old.ready } in
    placed-still old new same refl refl refl c.requires

pub returns-then-is_none-clause-pool : goal.returns-then-is_none-clause-pool
returns-then-is_none-clause-pool c =
    let old : Kept = c.args.self.now in
    let d = c.args.digest.now in
    let n = c.in-Some.index in
    let at : At d old.seats.entries n = at-first d old.seats.entries n (sym c.in-Some.ensures.index) in
    let got : seat_of_place n old.seats.entries ≡ c.in-Some-get_index_mut.place.now = place-got old.seats.entries n c.in-Some-get_index_mut.place.now (sym c.in-Some-get_index_mut.ensures.value) in
    let same : set_value_at old.seats.entries n c.in-Some-get_index_mut.place.now ≡ old.seats.entries = ap (set_value_at old.seats.entries n) (sym got) ∙ set-still old.seats.entries n in
    let gap : is_none c.in-Some-get_index_mut.place.now ≡ true = search rules in
    ap seated same ∙ sym (without-none d (seated old.seats.entries) (found-at d old.seats.entries n c.requires.unique at ∙ no-session (seat_of_place n old.seats.entries) (ap is_none got ∙ gap)))

pub returns-then-is_none-clause-right : goal.returns-then-is_none-clause-right
returns-then-is_none-clause-right c config right =
    let old : Kept = c.args.self.now in
    let n = c.in-Some.index in
    let got : seat_of_place n old.seats.entries ≡ c.in-Some-get_index_mut.place.now = place-got old.seats.entries n c.in-Some-get_index_mut.place.now (sym c.in-Some-get_index_mut.ensures.value) in
    let same : set_value_at old.seats.entries n c.in-Some-get_index_mut.place.now ≡ old.seats.entries = ap (set_value_at old.seats.entries n) (sym got) ∙ set-still old.seats.entries n in
    subst (λ (seats : Seats). AllRight config seats) (sym same) right

-- a session leaves a gap
pub overflow_sub-self : goal.overflow_sub-self
overflow_sub-self c =
    let old : Kept = c.args.self.now in
    let n = c.in-Some.index in
    let got : seat_of_place n old.seats.entries ≡ c.in-Some-get_index_mut.place.now = place-got old.seats.entries n c.in-Some-get_index_mut.place.now (sym c.in-Some-get_index_mut.ensures.value) in
    let here : is_none c.in-Some-get_index_mut.place.now ≡ false = search rules in
    let left = sessions-left old.seats.entries n (some-there (seat_of_place n old.seats.entries) (ap is_none got ∙ here)) in
    let number : old.sessions ≡ seats_taken old.seats.entries = c.requires.sessions in
    omega (arith, left, number)

pub returns-clause-placed : goal.returns-clause-placed
returns-clause-placed c =
    let old : Kept = c.args.self.now in
    let d = c.args.digest.now in
    let n = c.in-Some.index in
    let at : At d old.seats.entries n = at-first d old.seats.entries n (sym c.in-Some.ensures.index) in
    let got : seat_of_place n old.seats.entries ≡ c.in-Some-get_index_mut.place.now = place-got old.seats.entries n c.in-Some-get_index_mut.place.now (sym c.in-Some-get_index_mut.ensures.value) in
    let here : is_none c.in-Some-get_index_mut.place.now ≡ false = search rules in
    let there : is_some (seat_of_place n old.seats.entries) ≡ true = some-there (seat_of_place n old.seats.entries) (ap is_none got ∙ here) in
    let left = sessions-left old.seats.entries n there in
    let number : old.sessions ≡ seats_taken old.seats.entries = c.requires.sessions in
    let new : Kept = record { seats = with_value_at old.seats n None; sessions = old.sessions - 1; waiting = c.remove.new.self; ready = c.remove-2.new.self } in
    let less : new.sessions + 1 ≡ old.sessions = omega (arith, left, number) in
    placed-left old new d n at refl c.requires there (unique-set old.seats.entries n None c.requires.unique) less
    (c.remove.ensures.updates.0, c.remove.ensures.ordered) (c.remove-2.ensures.updates.0, c.remove-2.ensures.ordered)

pub returns-clause-pool : goal.returns-clause-pool
returns-clause-pool c =
    let old : Kept = c.args.self.now in
    let d = c.args.digest.now in
    let n = c.in-Some.index in
    let at : At d old.seats.entries n = at-first d old.seats.entries n (sym c.in-Some.ensures.index) in
    let new : Kept = record { seats = with_value_at old.seats n None; sessions = old.sessions - 1; waiting = c.remove.new.self; ready = c.remove-2.new.self } in
    pool-left old new d n at refl c.requires

pub returns-clause-right : goal.returns-clause-right
returns-clause-right c config right = right-set config c.args.self.now.seats.entries c.in-Some.index None tt right
