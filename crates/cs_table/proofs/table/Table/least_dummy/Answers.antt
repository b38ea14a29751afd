use Rattle.std.proofs.Common.{None, subst}
use Rattle.cs_table.specs.Seen.{seen}
use Rattle.cs_tx.specs.Sessions.{key_seen}
use Rattle.cs_table.specs.Dummies.{IsLeastDummy}
use Rattle.cs_table.proofs.Listed.{or_next, scanned}
use Rattle.cs_table.proofs.table.Table.least_dummy.Goals as goal

pub returns-in-Some : goal.returns-in-Some
returns-in-Some c =
    subst (λ found. IsLeastDummy c.args.self.now.shard (seen c.args.self.now) (key_seen (or_next c.args.self.now.shard c.args.self.now.next found))) c.in-Some.is
    (scanned c.args.self.now c.shard-shard.result c.rows.result.now.entries c.range.result _ _ c.first_active.result c.shard-shard.ensures c.rows.ensures.rows c.new-dummies.ensures.start c.new-dummies.ensures.end (c.range.ensures.between c.new-dummies.ensures.exhausted) c.range.ensures.ordered c.first_active.ensures)

pub returns-in-None : goal.returns-in-None
returns-in-None c =
    let least : IsLeastDummy c.args.self.now.shard (seen c.args.self.now) (key_seen (or_next c.args.self.now.shard c.args.self.now.next None)) =
    subst (λ found. IsLeastDummy c.args.self.now.shard (seen c.args.self.now) (key_seen (or_next c.args.self.now.shard c.args.self.now.next found))) c.in-None.is
    (scanned c.args.self.now c.shard-shard.result c.rows.result.now.entries c.range.result _ _ c.first_active.result c.shard-shard.ensures c.rows.ensures.rows c.new-dummies.ensures.start c.new-dummies.ensures.end (c.range.ensures.between c.new-dummies.ensures.exhausted) c.range.ensures.ordered c.first_active.ensures) in
    rw (c.shard-shard.ensures, c.next.ensures) least
