use Rattle.cs_wallet.proofs.Tables.{lines_more}
use Rattle.cs_wallet.proofs.telling.part_lines.Goals as goal

pub loop-text-preserved : goal.loop-text-preserved
loop-text-preserved c =
    lines_more c.args.texts.now c.loop-text.text-index c.text-item.result c.loop-text.lines.items c.add_line.new.lines.items c.as_slice.result.now
    c.loop-text-test.true c.text-item.is c.as_slice.ensures.value c.loop-text.invariant c.in_ok-add_line.ensures
