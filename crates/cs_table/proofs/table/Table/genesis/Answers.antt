use Rattle.std.proofs.Common.{◌∙◌, ap}
use Rattle.cs_table.specs.Seen.{Stored, seen}
use Rattle.cs_table.proofs.Fitting.{same_fit}
use Rattle.cs_table.proofs.Filled.{genesis_fit, genesis_is}
use Rattle.cs_table.proofs.table.Table.genesis.Goals as goal

pub load-requires-clause-fits : goal.load-requires-clause-fits
load-requires-clause-fits c = same_fit c.as_slice.result.now _ (c.as_slice.ensures.value ∙ c.in_ok-pieces.ensures) (genesis_fit c.args.config.shards c.args.shard c.args.objects.now c.requires)

pub returns-clause-table : goal.returns-clause-table
returns-clause-table c = ap (λ (s : Stored). seen s) c.forget_touched.ensures ∙ genesis_is c.args.config c.args.objects.now c.args.shard c.empty-table.result c.load.new.self c.load_dummies.new.self c.as_slice.result.now (ap (λ (s : Stored). seen s) c.empty-table.ensures) (ap (λ (s : Stored). s.shard) c.empty-table.ensures) (c.as_slice.ensures.value ∙ c.in_ok-pieces.ensures) c.in_ok-load.ensures.table c.in_ok-load_dummies.ensures
