use Rattle.cs_tx_types.specs.Log.{leaf_encoding}
use Rattle.cs_tx_types.proofs.Putting.{put-sized}
use Rattle.cs_tx_types.proofs.proof.write_covered.Goals as goal

pub returns-clause-ok : goal.returns-clause-ok
returns-clause-ok c = put-sized c.write.result (leaf_encoding c.args.version) c.args.leaf.now c.args.out.now c.u32.new.self c.write.new.out c.covered_size.result c.covered_size.ensures c.in_ok-u32.ensures.ok c.write.ensures.ok
