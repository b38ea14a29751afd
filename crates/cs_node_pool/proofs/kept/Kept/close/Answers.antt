use Rattle.std.proofs.Common.{◌≡◌, refl, rules}
use Rattle.indexmap.proofs.CallerLemmas.{filter-RetainsPairs}
use Rattle.cs_node_pool.specs.declared.kept.Kept.{Kept}
use Rattle.cs_node_pool.specs.Seats.{without_gaps}
use Rattle.cs_node_pool.proofs.Keeping.{placed-closed}
use Rattle.cs_node_pool.proofs.kept.Kept.close.Goals as goal

pub returns-clause-seats : goal.returns-clause-seats
returns-clause-seats c = filter-RetainsPairs _ _ _ (λ k v b w g call. search rules) _ _ c.retain.ensures.filtered

pub returns-clause-placed : goal.returns-clause-placed
returns-clause-placed c =
    let old : Kept = c.args.self.now in
    let new : Kept = record { seats = c.retain.new.self; sessions = old.sessions; waiting = c.pick.new.waiting; ready = c.pick.new.ready } in
    let entries : new.seats.entries ≡ without_gaps old.seats.entries = filter-RetainsPairs _ _ _ (λ k v b w g call. search rules) _ _ c.retain.ensures.filtered in
    placed-closed old new c.requires entries c.retain.ensures.unique refl c.in_ok-pick.ensures.waiting c.in_ok-pick.ensures.ready
