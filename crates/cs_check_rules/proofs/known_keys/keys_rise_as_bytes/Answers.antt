use Rattle.std.proofs.Common.{sym, refl}
use Rattle.cs_base.proofs.KeyOrder.{dummies_cmp}
use Rattle.cs_check_rules.proofs.known_keys.keys_rise_as_bytes.Goals as goal

pub returns-clause-objects : goal.returns-clause-objects
returns-clause-objects c a b = refl

pub returns-clause-dummies : goal.returns-clause-dummies
returns-clause-dummies c shard serial shard_b serial_b a b d e = sym (dummies_cmp shard shard_b serial serial_b a d b e)

pub returns-clause-first : goal.returns-clause-first
returns-clause-first c a shard serial = refl

pub returns-clause-last : goal.returns-clause-last
returns-clause-last c a shard serial = refl
