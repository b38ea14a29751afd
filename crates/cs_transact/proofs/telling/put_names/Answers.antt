use Rattle.std.proofs.Common.{ℕ, List, ◌++◌, ap, ◌∙◌}
use Rattle.cs_transact.specs.Lines.{output_line}
use Rattle.cs_transact.specs.Telling.{names_text}
use Rattle.cs_transact.proofs.Texts.{names_more}
use Rattle.cs_transact.proofs.telling.put_names.Goals as goal

pub loop-place-preserved : goal.loop-place-preserved
loop-place-preserved c =
    let digest = c.args.digest.now in
    let number = c.args.number in
    let outputs = c.args.outputs.now in
    let place = c.loop-place.place in
    names_more digest number outputs place c.loop-place.out.items c.extend_from_slice.new.self.items (c.args.out.now.items ++ names_text digest number 0 outputs) c.loop-place-test.true
    (c.in_ok-extend_from_slice.ensures.items ∙ ap (λ (l : List ℕ). c.loop-place.out.items ++ l) (c.as_bytes.ensures.value ∙ (c.in_ok-line.ensures ∙ ap (output_line number place) c.output_name-name.ensures)))
    c.loop-place.invariant
