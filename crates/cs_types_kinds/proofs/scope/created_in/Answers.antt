use Rattle.std.proofs.Common.{◌∙◌, sym, arith}
use Rattle.cs_types_kinds.specs.Scopes.{is_created_entry}
use Rattle.cs_types_kinds.proofs.Loops.{seen_found, seen_step, seen_none}
use Rattle.cs_types_kinds.proofs.scope.created_in.Goals as goal

pub returns-then-is_created : goal.returns-then-is_created
returns-then-is_created c = seen_found (is_created_entry c.args.name.now) c.args.entries.now c.loop-entry.entry-index c.entry-item.result _ (omega arith) c.entry-item.is (sym c.is_created.ensures ∙ c.if-is_created.true) c.loop-entry.invariant

pub loop-entry-preserved : goal.loop-entry-preserved
loop-entry-preserved c = seen_step (is_created_entry c.args.name.now) c.args.entries.now c.loop-entry.entry-index c.entry-item.result _ (omega arith) c.entry-item.is (sym c.is_created.ensures ∙ c.if-is_created.false) c.loop-entry.invariant

pub returns : goal.returns
returns c = seen_none (is_created_entry c.args.name.now) c.args.entries.now c.loop-entry.entry-index _ (omega arith) c.loop-entry.invariant
