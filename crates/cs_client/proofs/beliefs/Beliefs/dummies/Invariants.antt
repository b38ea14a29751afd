use Rattle.std.proofs.Common.{◌≡◌, ◌++◌, drop}
use Rattle.std.specs.Prelude.{option_map}
use Rattle.std.specs.List.{AllByRecursion}
use Rattle.cs_tx_types.specs.Session.{DummyFits}
use Rattle.cs_client.specs.Dummies.{dummies_for}
use Rattle.cs_client.specs.Kept.{dummy_kept}
use Rattle.cs_client.proofs.beliefs.Beliefs.dummies.Given as goal

abbrev pub invariant-loop-shard : goal.invariant-loop-shard
invariant-loop-shard l = record {
  found : dummies_for (dummy_kept l.f l.self.serials) l.shards
      ≡ option_map (λ more. l.dummies ++ more)
      (dummies_for (dummy_kept l.f l.self.serials) (drop l.shard-index l.shards));
  fit : AllByRecursion DummyFits l.dummies;
}
