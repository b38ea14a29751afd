use Rattle.std.proofs.Common.{◌∙◌, ◌∷◌, ◌++◌, [], ap, sym, subst}
use Rattle.cs_node_state.specs.declared.pooled.Pooled.{Pooled}
use Rattle.cs_node_state.specs.Pool.{Pool}
use Rattle.cs_node_pool.specs.Seats.{seated, AllRight}
use Rattle.cs_node_pool.proofs.Places.{seated-pushed}
use Rattle.cs_node_pool.proofs.Right.{right-pushed}
use Rattle.cs_node_pool.proofs.kept.Kept.push.Goals as goal

pub returns-clause-sound : goal.returns-clause-sound
returns-clause-sound c =
    let config = c.args.config.now in
    let way = c.make_way.new.self.seats.entries in
    record {
      placed = c.in_ok-add.ensures.placed;
      right = subst (AllRight config) (sym c.in_ok-add.ensures.seats)
          (right-pushed config way c.args.digest c.new-seat.result c.new-seat.ensures.right (c.in_ok-make_way.ensures.right config c.requires.sound.right));
    }

pub returns-clause-pool : goal.returns-clause-pool
returns-clause-pool c =
    let way = c.make_way.new.self.seats.entries in
    ap seated c.in_ok-add.ensures.seats ∙ seated-pushed way c.args.digest c.new-seat.result
    ∙ ap (λ (pool : Pool). pool ++ (c.args.digest, c.new-seat.result.pooled) ∷ []) c.in_ok-make_way.ensures.pool
    ∙ ap (λ (p : Pooled). seated c.args.self.now.seats.entries ++ (c.args.digest, p) ∷ []) c.new-seat.ensures.pooled
