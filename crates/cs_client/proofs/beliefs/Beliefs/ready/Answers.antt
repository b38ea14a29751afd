use Rattle.std.proofs.Common.{sym, ap, ◌∙◌}
use Rattle.cs_client.specs.Kept.{WordsTold, are_settled}
use Rattle.cs_client.proofs.Believing.{inputs-unsettled, reads-unsettled}
use Rattle.cs_client.proofs.beliefs.Beliefs.ready.Goals as goal
use Rattle.cs_client.proofs.beliefs.Beliefs.ready.Goals.{then-not-are_settled-via-then-not-are_settled, then-not-are_settled-via-else-not-are_settled+then-not-are_settled-2}

pub returns-then-not-are_settled : goal.returns-then-not-are_settled
returns-then-not-are_settled c =
    let f = c.args.config.now.f in
    let told = c.args.self.now in
    elim c.then-not-are_settled.branch [
      | then-not-are_settled-via-then-not-are_settled w ↦
          inputs-unsettled f told c.requires.marked
          (sym (ap (λ (t : WordsTold). are_settled t.inputs) c.self.view_is)
          ∙ (sym (ap are_settled c.deref.ensures.value) ∙ (sym c.are_settled.ensures ∙ w.if-not-are_settled.true)))
      | then-not-are_settled-via-else-not-are_settled+then-not-are_settled-2 w ↦
          reads-unsettled f told c.requires.marked
          (sym (ap (λ (t : WordsTold). are_settled t.reads) c.self.view_is)
          ∙ (sym (ap are_settled w.deref-else-not-are_settled.ensures.value)
          ∙ (sym w.are_settled-else-not-are_settled.ensures ∙ w.if-not-are_settled-2.true)))
    ]
