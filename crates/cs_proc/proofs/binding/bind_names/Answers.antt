use Rattle.std.proofs.Common.{refl, sym, ◌∙◌, arith, rules}
use Rattle.std.specs.Option.{option_copied}
use Rattle.cs_proc.proofs.Places.{got}
use Rattle.cs_proc.proofs.Bound.{gave, missed, bound_on, bound_not}
use Rattle.cs_proc.proofs.binding.bind_names.Goals as goal

pub returns-then-not-branch : goal.returns-then-not-branch
returns-then-not-branch c =
    let field = c.get.ensures.lookup in
    let value = c.get-in-loop-i.ensures.lookup in
    sym c.loop-i.invariant
    ∙ bound_not c.args.fields.now c.args.values.now c.args.bound.now c.loop-i.i c.index-bound-i.result
    (option_copied c.get.result) (option_copied c.get-in-loop-i.result) c.loop-i.names
    (omega arith) c.index-bound-i.is (got _ _ _ _ refl field.0 field.1) (got _ _ _ _ refl value.0 value.1)
    (missed c.in_ok-bind_name.field-0 c.bind_name.new.names _ (search rules) c.in_ok-bind_name.ensures)

pub loop-i-preserved : goal.loop-i-preserved
loop-i-preserved c =
    let field = c.get.ensures.lookup in
    let value = c.get-in-loop-i.ensures.lookup in
    sym
    (bound_on c.args.fields.now c.args.values.now c.args.bound.now c.loop-i.i c.index-bound-i.result
    (option_copied c.get.result) (option_copied c.get-in-loop-i.result) c.loop-i.names c.bind_name.new.names
    (omega arith) c.index-bound-i.is (got _ _ _ _ refl field.0 field.1) (got _ _ _ _ refl value.0 value.1)
    (gave c.in_ok-bind_name.field-0 c.bind_name.new.names _ (search rules) c.in_ok-bind_name.ensures))
    ∙ c.loop-i.invariant
