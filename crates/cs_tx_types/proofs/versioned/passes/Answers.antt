use Rattle.std.proofs.Common.{sym, ◌∙◌}
use Rattle.cs_tx_value.proofs.Whole.{passes_whole}
use Rattle.cs_tx_types.proofs.versioned.passes.Goals as goal

pub returns : goal.returns
returns g c = passes_whole (g.T.Versioned.found_at c.args.version) c.args.bytes.now c.new-cursor.result c.skip.new.cursor c.new-cursor.ensures c.in_ok-skip.ensures (sym c.len.ensures ∙ c.if-len-ne0.false)
