use Rattle.std.proofs.Common.{rules, ◌≤◌, length}
use Rattle.cs_tx_value.specs.declared.value.Value.TheViews.{the_lemmas}
use Rattle.cs_base.proofs.Written.{each_more}
use Rattle.cs_tx_value.specs.Encoding.{value_encoding, AreBounded}
use Rattle.cs_tx_value.specs.laws.Layers.{text_short, items_few, items_bounded}
use Rattle.cs_tx_value.proofs.writing.+write.Goals as goal

pub write_value-put_text-requires : goal.write_value-put_text-requires
write_value-put_text-requires t c = rw c.as_slice.ensures (text_short c.args.value.now c.in-Bytes.text c.in-Bytes.is c.requires)

pub write_value-put_items-requires : goal.write_value-put_items-requires
write_value-put_items-requires t c =
    let few : length c.as_slice-in-List.result.now ≤ 64 = rw c.as_slice-in-List.ensures (items_few c.args.value.now c.in-List.items c.in-List.is c.requires) in
    let bounded : AreBounded c.as_slice-in-List.result.now = rw c.as_slice-in-List.ensures (items_bounded c.args.value.now c.in-List.items c.in-List.is c.requires) in
    (search (rules, the_lemmas), (few, bounded))

pub write_values-loop-value-preserved : goal.write_values-loop-value-preserved
write_values-loop-value-preserved t c = each_more value_encoding c.args.values.now c.loop-value.value-index c.value-item.result c.args.out.now c.loop-value.out c.write_value.new.out c.loop-value-test.true c.value-item.is c.loop-value.invariant c.in_ok-write_value.ensures.ok
