use Rattle.std.proofs.Common.{rules}
use Rattle.cs_table.proofs.Fitting.{read_fit, same_fit}
use Rattle.cs_table.proofs.pieces.read_pieces.Goals as goal

pub returns-clause-fit : goal.returns-clause-fit
returns-clause-fit c = same_fit _ _ (search rules) (read_fit c.args.config.now.shards c.args.shard c.args.session.now c.requires)
