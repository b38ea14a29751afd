use Rattle.std.proofs.Common.{◌≡◌, ◌+◌, ◌*◌, ◌++◌, drop}
use Rattle.std.specs.Prelude.{option_map}
use Rattle.cs_client.specs.Kept.{objects_believed, EachFits}
use Rattle.cs_client.proofs.beliefs.objects_in.Given as goal

abbrev pub invariant-loop-one : goal.invariant-loop-one
invariant-loop-one l = record {
  found : objects_believed l.config.f l.asked
      ≡ option_map (λ more. l.objects ++ more) (objects_believed l.config.f (drop l.one-index l.asked));
  left : EachFits (3 * l.config.f + 1) (drop l.one-index l.asked);
}
