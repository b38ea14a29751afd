use Rattle.std.proofs.Common.{◌≡◌, ◌≢◌, [], take, drop}
use Rattle.std.specs.List.{AllPairs}
use Rattle.cs_tx.specs.GenesisNames.{genesis_names}
use Rattle.cs_deploy.specs.Files.{repeats}
use Rattle.cs_deploy.proofs.genesis.has_twice.Given as goal

abbrev pub invariant-loop-place : goal.invariant-loop-place
invariant-loop-place l = record {
  names : l.names ≡ genesis_names 0 (take l.place l.objects);
  differ : AllPairs (λ a b. a ≢ b) l.names;
  left : repeats [] (genesis_names 0 l.objects) ≡ repeats l.names (genesis_names l.place (drop l.place l.objects));
}
