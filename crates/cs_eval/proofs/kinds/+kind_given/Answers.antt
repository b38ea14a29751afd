use Rattle.std.proofs.Common.{◌∙◌, sym, ap, rules}
use Rattle.std.specs.Prelude.{option_and_then}
use Rattle.cs_types_kinds.specs.Kinds.{list_kind_of}
use Rattle.cs_eval.specs.Machine.{seen_from}
use Rattle.cs_eval.proofs.Layers.{kind_of_list, kind_of_none, kind_path}
use Rattle.cs_eval.proofs.kinds.+kind_given.Goals as goal

pub returns-in-len1-up : goal.returns-in-len1-up
returns-in-len1-up t c =
    c.listed.ensures ∙ ap (option_and_then list_kind_of) c.kind_given.ensures
    ∙ sym (kind_of_list (seen_from c.args.scene.now c.args.names.now) c.args.expr.now c.in-List.items c.first-item.result c.in-List.is (search rules) (search rules))

pub returns-in-empty : goal.returns-in-empty
returns-in-empty t c = kind_of_none (seen_from c.args.scene.now c.args.names.now) c.args.expr.now c.in-List.items c.in-List.is (search rules)

pub returns-in-Path : goal.returns-in-Path
returns-in-Path t c =
    let a = c.steps_kind.ensures c.args.names.now in
    let b = kind_path (seen_from c.args.scene.now c.args.names.now) c.args.expr.now c.in-Path.start c.in-Path.steps c.in-Path.is in
    cc (a, b, c.kind_given-found.ensures, c.get-in-Path.ensures, c.as_slice-in-Path.ensures)
