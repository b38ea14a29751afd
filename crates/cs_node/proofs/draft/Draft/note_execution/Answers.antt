use Rattle.std.proofs.Common.{refl, ap, ◌∙◌, [], ◌∷◌, ◌++◌}
use Rattle.cs_node.specs.declared.draft.Note.TheVariants as note
use Rattle.cs_node.specs.Drafts.{Draft}
use Rattle.cs_node.proofs.Noting.{draft-noted}
use Rattle.cs_node.proofs.draft.Draft.note_execution.Goals as goal

pub invariant_of-self-2 : goal.invariant_of-self-2
invariant_of-self-2 c =
    let old : Draft = record { notes = c.self.inside.notes; said = c.self.inside.said } in
    draft-noted old _ (note.Executed c.args.slot c.args.place c.args.action c.args.effect) c.in_ok-push.ensures.ok refl c.requires c.self.invariant

pub returns-clause-notes : goal.returns-clause-notes
returns-clause-notes c =
    c.in_ok-push.ensures.ok
    ∙ ap (λ (old : Draft). old.notes ++ note.Executed c.args.slot c.args.place c.args.action c.args.effect ∷ []) c.self.view_is

pub returns-clause-said : goal.returns-clause-said
returns-clause-said c = ap (λ (old : Draft). old.said) c.self.view_is
