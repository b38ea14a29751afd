use Rattle.cs_node_pool.proofs.pool.Pool.new.Goals as goal

pub invariant_of-result : goal.invariant_of-result
invariant_of-result c = λ whole. c.new.ensures.sound c.args.config
