use Rattle.std.proofs.Common.{rules, ◌≤◌, length}
use Rattle.cs_tx_value.specs.declared.value.Value.TheViews.{the_lemmas}
use Rattle.cs_tx_value.specs.Encoding.{value_encoding, AreBounded}
use Rattle.cs_tx_value.specs.laws.Layers.{text_short, items_few, items_bounded}
use Rattle.cs_native.proofs.Taken.{each_taken}
use Rattle.cs_native.proofs.taking.+take.Goals as goal

pub take_value-take_text-requires : goal.take_value-take_text-requires
take_value-take_text-requires t c = rw c.as_slice.ensures (text_short c.args.value.now c.in-Bytes.text c.in-Bytes.is c.requires)

pub take_value-take_items-requires : goal.take_value-take_items-requires
take_value-take_items-requires t c =
    let few : length c.as_slice-in-List.result.now ≤ 64 = rw c.as_slice-in-List.ensures (items_few c.args.value.now c.in-List.items c.in-List.is c.requires) in
    let bounded : AreBounded c.as_slice-in-List.result.now = rw c.as_slice-in-List.ensures (items_bounded c.args.value.now c.in-List.items c.in-List.is c.requires) in
    (search (rules, the_lemmas), (few, bounded))

pub take_values-loop-value-preserved : goal.take_values-loop-value-preserved
take_values-loop-value-preserved t c =
    each_taken value_encoding c.args.values.now c.loop-value.value-index c.value-item.result c.args.hasher.now c.loop-value.hasher c.take_value.new.hasher
    c.loop-value-test.true c.value-item.is c.loop-value.invariant c.take_value.ensures
