use Rattle.std.proofs.Common.{map, ap}
use Rattle.cs_eval_values.specs.Entries.{named_of}
use Rattle.cs_eval_values.proofs.Firsting.{none_yet}
use Rattle.cs_eval_values.proofs.names.Names.numbered.Goals as goal

pub invariant_of-result : goal.invariant_of-result
invariant_of-result c =
    none_yet c.args.numbers.now c.in_ok-zeros.field-0.items _ c.len.result c.in_ok-zeros.ensures c.len.ensures
    (ap (map named_of) c.new.ensures.items)
