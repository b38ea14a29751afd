-- What a contract sees of a pool.
use Rattle.cs_base.specs.declared.config.Config.{Config}
use Rattle.cs_node_state.specs.Pool.{Pool}

-- the configuration by which decisions are due, and the sessions in the order of entering
pub record Gathered : Type 0 where
  pub config : Config
  pub sessions : Pool
