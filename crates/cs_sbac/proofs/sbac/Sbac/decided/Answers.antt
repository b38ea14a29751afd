use Rattle.std.proofs.Common.{◌≡◌, ◌∙◌, ap, subst, true, rules}
use Rattle.cs_table.specs.Seen.{seen}
use Rattle.cs_node_state.specs.Bench.{decision_on}
use Rattle.cs_sbac.specs.Held.{Held}
use Rattle.cs_node_pool.specs.Deployed.{deployed_setup}
use Rattle.cs_sbac.specs.Calls.{accepted_by}
use Rattle.cs_sbac.proofs.Running.{stands}
use Rattle.cs_sbac.proofs.sbac.Sbac.decided.Goals as goal

pub returns : goal.returns
returns c genesis approves =
    let whole : c.self.inside.whole ≡ true = search rules in
    let Says : Held → Type 0 = λ held. c.is_accepted.result ≡ decision_on (deployed_setup held.config genesis approves) held.me.shard (seen held.table) c.args.session.now in
    subst Says c.self.view_is
    (c.is_accepted.ensures ∙ ap accepted_by (c.in_ok-standing.ensures approves)
    ∙ stands c.self.inside.config c.self.inside.me c.self.inside.table (c.self.invariant.placed whole) genesis approves c.args.session.now)
