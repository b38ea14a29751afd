use Rattle.std.proofs.Common.{refl, ap, ◌∙◌, [], ◌∷◌, ◌++◌}
use Rattle.cs_node.specs.declared.draft.Said.{Said}
use Rattle.cs_node.specs.Drafts.{Draft}
use Rattle.cs_node.proofs.Sums.{tells-sends}
use Rattle.cs_node.proofs.Noting.{draft-said}
use Rattle.cs_node.proofs.draft.Draft.say_to.Goals as goal

pub invariant_of-self-2 : goal.invariant_of-self-2
invariant_of-self-2 c =
    let old : Draft = record { notes = c.self.inside.notes; said = c.self.inside.said } in
    draft-said old _ (record { to = c.args.to; message = c.args.message }) c.in_ok-push.ensures.ok refl c.requires c.self.invariant

pub returns : goal.returns
returns c =
    let one : Said = record { to = c.args.to; message = c.args.message } in
    tells-sends c.args.to c.args.message c.args.self.now _
    (ap (λ (old : Draft). old.notes) c.self.view_is)
    (c.in_ok-push.ensures.ok ∙ ap (λ (old : Draft). old.said ++ one ∷ []) c.self.view_is)
