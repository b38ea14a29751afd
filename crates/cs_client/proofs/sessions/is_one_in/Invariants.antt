use Rattle.std.proofs.Common.{◌≡◌, drop}
use Rattle.cs_tx.specs.Uses.{names, is_among}
use Rattle.cs_client.proofs.sessions.is_one_in.Given as goal

abbrev pub invariant-loop-item : goal.invariant-loop-item
invariant-loop-item l =
    is_among l.config l.shard (names (drop l.item-index l.items)) ≡ is_among l.config l.shard (names l.items)
