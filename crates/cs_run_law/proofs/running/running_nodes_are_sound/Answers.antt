use Rattle.std.proofs.Common.{refl}
use Rattle.cs_world_law.specs.Worlds.{IsWorld, net_of_keys}
use Rattle.cs_world_law.specs.laws.Nets.{keyed_net}
use Rattle.cs_run_law.specs.Running.{world_given, site_of_keys}
use Rattle.cs_run_law.proofs.Trails.{given_lives}
use Rattle.cs_run_law.proofs.running.running_nodes_are_sound.Goals as goal

pub returns : goal.returns
returns c = λ config keys liars genesis approves given traffic.
    let site = site_of_keys config keys liars genesis approves in
    let settled : IsWorld site (world_given site given) = record {
      serves = refl;
      few = traffic.few;
      honest = traffic.honest;
      life = given_lives site given;
      bytes = traffic.bytes;
      genuine = traffic.genuine;
    } in
    c.worlds_are_sound.ensures config (net_of_keys config keys liars) genesis approves (world_given site given) config.few_shards config.few_liars (keyed_net config keys liars) settled
