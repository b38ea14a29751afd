use Rattle.std.proofs.Common.{ap, sym, ◌∙◌, take}
use Rattle.cs_wire.specs.Keys.{row_expected}
use Rattle.cs_wire.specs.AllNames.{has_name}
use Rattle.cs_wire.proofs.Rows.{taken_more}
use Rattle.cs_wire.proofs.names.rows_for.Goals as goal

pub loop-i-preserved : goal.loop-i-preserved
loop-i-preserved c = λ peer.
    c.in_ok-add_row.ensures peer (has_name peer (take c.loop-i.i c.args.names.now)) (c.loop-i.invariant peer)
    ∙ ap (λ b. row_expected c.args.master.now c.args.me b peer) (sym (taken_more peer c.args.names.now c.loop-i.i _ c.loop-i-test.true))
