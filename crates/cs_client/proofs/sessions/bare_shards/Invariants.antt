use Rattle.std.proofs.Common.{◌≡◌}
use Rattle.std.specs.Prelude.{filter}
use Rattle.cs_client.specs.Sessions.{is_bare}
use Rattle.cs_client.proofs.sessions.bare_shards.Given as goal

abbrev pub invariant-loop-shard : goal.invariant-loop-shard
invariant-loop-shard l = l.bare ≡ filter (is_bare l.config l.session) l.yielded
