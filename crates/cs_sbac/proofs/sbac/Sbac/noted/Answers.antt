use Rattle.std.proofs.Common.{◌≡◌, true, subst, rules}
use Rattle.cs_table.specs.Seen.{seen}
use Rattle.cs_node_state.specs.Bench.{noted}
use Rattle.cs_sbac.specs.Held.{Held}
use Rattle.cs_node_pool.specs.Deployed.{deployed_setup}
use Rattle.cs_sbac.proofs.Running.{records}
use Rattle.cs_sbac.proofs.sbac.Sbac.noted.Goals as goal

pub returns : goal.returns
returns c genesis approves =
    let whole : c.self.inside.whole ≡ true = search rules in
    let Says : Held → Type 0 = λ held. c.in_ok-vote.vote ≡ noted (deployed_setup held.config genesis approves) held.me.shard (seen held.table) c.args.session.now in
    subst Says c.self.view_is
    (records c.self.inside.config c.self.inside.me c.self.inside.table (c.self.invariant.placed whole) genesis approves c.args.session.now c.in_ok-vote.vote (c.in_ok-vote.ensures approves))
