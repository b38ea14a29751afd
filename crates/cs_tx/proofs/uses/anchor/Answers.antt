use Rattle.std.proofs.Common.{◌≡◌, List, ℕ, Option, Some, None, sym, ap, ◌∙◌}
use Rattle.std.specs.List.{find}
use Rattle.cs_base.specs.declared.key.Key.TheVariants as key
use Rattle.cs_tx.specs.Uses.{is_in, names, inputs_of, dummy_in, anchor_among}
use Rattle.cs_tx.proofs.Anchors.{is_anchored}
use Rattle.cs_tx.proofs.uses.anchor.Goals as goal

pub returns-in-Some-clause-concerned : goal.returns-in-Some-clause-concerned
returns-in-Some-clause-concerned c =
    let found : Some c.in-Some.name ≡ find (is_in c.args.config.now c.args.shard) (names (inputs_of c.args.session.now.tx)) = rw (← c.as_slice.ensures) (sym c.in-Some.is ∙ c.first_input_in.ensures) in
    is_anchored c.args.config.now c.args.session.now c.args.shard (Some (key.Object c.in-Some.name)) (ap (λ (f : Option (List ℕ)). anchor_among f (dummy_in c.args.shard c.args.session.now.dummies)) found) c.requires

pub returns-in-None-clause-concerned : goal.returns-in-None-clause-concerned
returns-in-None-clause-concerned c =
    let none : None ≡ find (is_in c.args.config.now c.args.shard) (names (inputs_of c.args.session.now.tx)) = rw (← c.as_slice.ensures) (sym c.in-None.is ∙ c.first_input_in.ensures) in
    let dummy : c.first_dummy_in.result ≡ dummy_in c.args.shard c.args.session.now.dummies = rw (← c.as_slice-in-None.ensures) c.first_dummy_in.ensures in
    is_anchored c.args.config.now c.args.session.now c.args.shard c.first_dummy_in.result (dummy ∙ ap (λ (f : Option (List ℕ)). anchor_among f (dummy_in c.args.shard c.args.session.now.dummies)) none) c.requires
