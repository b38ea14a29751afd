use Rattle.std.proofs.Common.{◌++◌, ap, sym, ◌∙◌, append-nil}
use Rattle.std.proofs.lemmas.Slice.Zip.{either_empty_from_Zip}
use Rattle.cs_cli.proofs.Lines.{no-lines}
use Rattle.cs_cli.proofs.report.put_methods.Goals as goal

pub returns : goal.returns
returns c =
    let left = c.loop-method.method-iterator in
    sym (append-nil c.loop-method.out.items)
    ∙ ap (λ lines. c.loop-method.out.items ++ lines) (sym (no-lines left.a.rest.now left.b.rest.now (either_empty_from_Zip left c.next.new.self c.next.result c.in-None.is c.next.ensures.steps)))
    ∙ c.loop-method.invariant
