use Rattle.std.proofs.Common.{◌∙◌, sym, arith}
use Rattle.cs_types_kinds.specs.Scopes.{is_seen}
use Rattle.cs_types_kinds.proofs.Loops.{seen_found, seen_step, seen_none}
use Rattle.cs_types_kinds.proofs.scope.seen_in.Goals as goal

pub returns-then-is_seen : goal.returns-then-is_seen
returns-then-is_seen c = seen_found (is_seen c.args.name.now) c.args.entries.now c.loop-entry.entry-index c.entry-item.result _ (omega arith) c.entry-item.is (sym c.is_seen.ensures ∙ c.if-is_seen.true) c.loop-entry.invariant

pub loop-entry-preserved : goal.loop-entry-preserved
loop-entry-preserved c = seen_step (is_seen c.args.name.now) c.args.entries.now c.loop-entry.entry-index c.entry-item.result _ (omega arith) c.entry-item.is (sym c.is_seen.ensures ∙ c.if-is_seen.false) c.loop-entry.invariant

pub returns : goal.returns
returns c = seen_none (is_seen c.args.name.now) c.args.entries.now c.loop-entry.entry-index _ (omega arith) c.loop-entry.invariant
