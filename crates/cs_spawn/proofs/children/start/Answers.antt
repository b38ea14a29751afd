use Rattle.std.proofs.Common.{[], ◌∷◌, inl, refl, map, string_bytes, arith}
use Rattle.cs_io.specs.laws.Told.{stays-same}
use Rattle.cs_io.specs.Outside.{SpawnerTold, Beside, beside}
use Rattle.cs_spawn.specs.Deeds.{Start}
use Rattle.cs_spawn.proofs.Going.{starts-none, front-kept}
use Rattle.cs_spawn.proofs.children.start.Goals as goal

pub returns-then-is_err-clause-does : goal.returns-then-is_err-clause-does
returns-then-is_err-clause-does g c = λ w.
    let a : Beside SpawnerTold = beside (g.P.Spawner.told c.args.spawner.now) w in
    inl (front-kept a a c.args.left.now.items c.reserve.new.self.items (Start (map string_bytes c.args.words.now) ∷ [])
    (starts-none a a (stays-same a.told.started) refl (stays-same a.told.statuses)) (omega arith) refl refl c.reserve.ensures.items)

pub returns-in-Failed-clause-does : goal.returns-in-Failed-clause-does
returns-in-Failed-clause-does g c = λ w.
    let a : Beside SpawnerTold = beside (g.P.Spawner.told c.args.spawner.now) w in
    let b : Beside SpawnerTold = beside (g.P.Spawner.told c.start.new.self) w in
    let once = c.in-Failed.ensures.unstarted in
    front-kept a b c.args.left.now.items c.reserve.new.self.items (Start (map string_bytes c.args.words.now) ∷ [])
    (starts-none a b c.in-Failed.ensures.words c.in-Failed.ensures.children c.in-Failed.ensures.statuses) (omega (arith, once)) c.in-Failed.ensures.ended refl c.reserve.ensures.items

pub returns-in-Memory-clause-does : goal.returns-in-Memory-clause-does
returns-in-Memory-clause-does g c = λ w.
    let a : Beside SpawnerTold = beside (g.P.Spawner.told c.args.spawner.now) w in
    let b : Beside SpawnerTold = beside (g.P.Spawner.told c.start.new.self) w in
    let once = c.in-Memory.ensures.unstarted in
    inl (front-kept a b c.args.left.now.items c.reserve.new.self.items (Start (map string_bytes c.args.words.now) ∷ [])
    (starts-none a b c.in-Memory.ensures.words c.in-Memory.ensures.children c.in-Memory.ensures.statuses) (omega (arith, once)) c.in-Memory.ensures.ended refl c.reserve.ensures.items)
