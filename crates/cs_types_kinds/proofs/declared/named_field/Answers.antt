use Rattle.std.proofs.Common.{◌∙◌, sym, arith}
use Rattle.cs_types_kinds.proofs.Loops.{field_found, field_step, field_none}
use Rattle.cs_types_kinds.proofs.declared.named_field.Goals as goal

pub returns-then-is_named_field : goal.returns-then-is_named_field
returns-then-is_named_field c = c.declared_kind.ensures ∙ field_found c.args.name.now c.args.fields.now c.loop-field.field-index c.field-item.result _ (omega arith) c.field-item.is (sym c.is_named_field.ensures ∙ c.if-is_named_field.true) c.loop-field.invariant

pub loop-field-preserved : goal.loop-field-preserved
loop-field-preserved c = field_step c.args.name.now c.args.fields.now c.loop-field.field-index c.field-item.result _ (omega arith) c.field-item.is (sym c.is_named_field.ensures ∙ c.if-is_named_field.false) c.loop-field.invariant

pub returns : goal.returns
returns c = field_none c.args.name.now c.args.fields.now c.loop-field.field-index _ (omega arith) c.loop-field.invariant
