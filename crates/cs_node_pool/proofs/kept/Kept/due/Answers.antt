use Rattle.std.proofs.Common.{◌∙◌, Bool, true, List, [], ap, sym}
use Rattle.cs_tx_types.specs.declared.action.Action.{Action}
use Rattle.cs_node_state.specs.Admission.{some_entry}
use Rattle.cs_node_pool.specs.declared.batch.Batch.{Batch}
use Rattle.cs_node_pool.specs.declared.kept.Kept.{Kept}
use Rattle.cs_node_pool.specs.Batches.{filled, actions_at}
use Rattle.cs_node_pool.proofs.Gathering.{decisions-gathered, all-gathered, entry-fits}
use Rattle.cs_node_pool.proofs.kept.Kept.due.Goals as goal

pub returns-then-not-branch-clause-entry : goal.returns-then-not-branch-clause-entry
returns-then-not-branch-clause-entry c = λ genesis approves.
    let kept : Kept = c.args.self.now in
    let ready : List Action = actions_at kept.seats.entries kept.ready.keys in
    let gathered = ap (λ (b : Batch). filled b ready) c.new-batch.ensures in
    let part = sym (c.in_ok-gather.ensures.answer ∙ ap (λ (b : Batch × Bool). b.1) gathered) ∙ c.if-not-branch.true in
    c.entry.ensures ∙ ap (λ (b : Batch). some_entry b.actions) (c.in_ok-gather.ensures.batch ∙ ap (λ (b : Batch × Bool). b.0) gathered)
    ∙ decisions-gathered c.args.config.now genesis approves kept c.requires c.of.result c.of.ensures part

pub returns-then-not-branch-clause-fits : goal.returns-then-not-branch-clause-fits
returns-then-not-branch-clause-fits c =
    entry-fits c.args.config.now [] (λ tx. true) c.args.self.now c.requires c.entry.result (returns-then-not-branch-clause-entry c [] (λ tx. true))

pub returns-clause-entry : goal.returns-clause-entry
returns-clause-entry c = λ genesis approves.
    let kept : Kept = c.args.self.now in
    let ready : List Action = actions_at kept.seats.entries kept.ready.keys in
    let waiting : List Action = actions_at kept.seats.entries kept.waiting.keys in
    let gathered = ap (λ (b : Batch). filled b ready) c.new-batch.ensures in
    let whole = sym (c.in_ok-gather.ensures.answer ∙ ap (λ (b : Batch × Bool). b.1) gathered) ∙ c.if-not-branch.false in
    let first = c.in_ok-gather.ensures.batch ∙ ap (λ (b : Batch × Bool). b.0) gathered in
    c.entry-2.ensures ∙ ap (λ (b : Batch). some_entry b.actions) (c.in_ok-gather-2.ensures.batch ∙ ap (λ (b : Batch). (filled b waiting).0) first)
    ∙ all-gathered c.args.config.now genesis approves kept c.requires c.of.result c.of.ensures whole

pub returns-clause-fits : goal.returns-clause-fits
returns-clause-fits c =
    entry-fits c.args.config.now [] (λ tx. true) c.args.self.now c.requires c.entry-2.result (returns-clause-entry c [] (λ tx. true))
