use Rattle.cs_base.proofs.Written.{each_more}
use Rattle.cs_tx_value.proofs.lists.write_each.Goals as goal

pub loop-item-preserved : goal.loop-item-preserved
loop-item-preserved g c = each_more g.T.Encoded.encoding c.args.items.now c.loop-item.item-index c.item-item.result c.args.out.now c.loop-item.out c.encode.new.out c.loop-item-test.true c.item-item.is c.loop-item.invariant c.in_ok-encode.ensures.ok
