use Rattle.std.proofs.Common.{◌≡◌, refl, sym, ap, ◌∙◌, append-nil, [], ◌∷◌, ◌++◌}
use Rattle.cs_node.specs.declared.draft.Note.TheVariants as note
use Rattle.cs_node.specs.Drafts.{Draft}
use Rattle.cs_node.specs.Notes.{spoken}
use Rattle.cs_node.proofs.Noting.{draft-noted}
use Rattle.cs_node.proofs.draft.Draft.note_head.Goals as goal

pub invariant_of-self-2 : goal.invariant_of-self-2
invariant_of-self-2 c =
    let old : Draft = record { notes = c.self.inside.notes; said = c.self.inside.said } in
    draft-noted old _ (note.Headed c.args.number c.args.head) c.in_ok-push.ensures.ok refl tt c.self.invariant

pub returns : goal.returns
returns c = record {
  notes = c.in_ok-push.ensures.ok ∙ ap (λ (old : Draft). old.notes ++ note.Headed c.args.number c.args.head ∷ []) c.self.view_is;
  said = ap (λ (old : Draft). spoken old.said) c.self.view_is ∙ sym (append-nil (spoken c.args.self.now.said));
}
