use Rattle.std.specs.Prelude.{not, ◌==◌}
use Rattle.std.proofs.Common.{rules}
use Rattle.std.proofs.lemmas.Fn.{filter_same}
use Rattle.cs_spawn.proofs.children.forget.Goals as goal

pub returns : goal.returns
returns c = filter_same _ (λ other. not (other == c.args.child)) _ (λ x b f call. search rules) _ _ c.retain.ensures.filtered
