use Rattle.std.proofs.Common.{◌≡◌, List, ap, subst, sym, ◌∙◌}
use Rattle.cs_node.specs.declared.draft.Said.{Said}
use Rattle.cs_node.specs.Drafts.{Draft}
use Rattle.cs_node.specs.Notes.{AllSaidFit, AllReached, spoken, outs_for}
use Rattle.cs_node.specs.Speaking.{Speaks}
use Rattle.cs_node.proofs.outs.seal_draft.Goals as goal

pub seal_each-requires : goal.seal_each-requires
seal_each-requires c = subst AllSaidFit (sym c.as_slice.ensures) c.draft.invariant.said

pub returns-clause-notes : goal.returns-clause-notes
returns-clause-notes c = ap (λ (d : Draft). d.notes) c.draft.view_is

pub returns-clause-fits : goal.returns-clause-fits
returns-clause-fits c = c.draft.invariant.notes

pub returns-clause-outs : goal.returns-clause-outs
returns-clause-outs c = λ config net.
    let keys = c.args.keys.now in
    let Sealed : List Said → Type 0 = λ all.
    Speaks config net keys → AllReached keys (spoken all) → c.in_ok-outs.outs ≡ outs_for net keys.me (spoken all) in
    subst Sealed (c.as_slice.ensures ∙ ap (λ (d : Draft). d.said) c.draft.view_is) (c.in_ok-outs.ensures config net)
