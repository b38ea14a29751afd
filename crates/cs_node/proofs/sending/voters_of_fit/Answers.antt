use Rattle.std.proofs.Common.{◌∙◌}
use Rattle.cs_node_rules.specs.Members.{others}
use Rattle.cs_node.proofs.sending.voters_of_fit.Goals as goal

pub returns : goal.returns
returns c genesis approves =
    c.in_ok-names.ensures ∙ (λ i. others (c.config.ensures i).f (c.me.ensures i) ((c.as_slice.ensures.value ∙ c.in_ok-shards.ensures genesis approves) i))
