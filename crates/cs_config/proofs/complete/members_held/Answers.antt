use Rattle.std.proofs.Common.{◌≡◌, false, sym, arith}
use Rattle.cs_config.specs.Complete.{is_held}
use Rattle.cs_config.proofs.Counting.{members_none}
use Rattle.cs_config.proofs.complete.members_held.Goals as goal

pub returns-then-not-is_held : goal.returns-then-not-is_held
returns-then-not-is_held c =
    let none : is_held c.args.me c.args.list.now (record { shard = c.args.shard; index = c.loop-index.index }) ≡ false = cc in
    sym (members_none (is_held c.args.me c.args.list.now) c.args.shard c.loop-index.index c.args.count (omega arith) none)
