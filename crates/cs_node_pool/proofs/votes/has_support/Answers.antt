use Rattle.std.proofs.Common.{◌∙◌, ◌+◌, ◌*◌, nat_lt, ap}
use Rattle.cs_order.specs.Counts.{count_below}
use Rattle.cs_quorum.specs.Marks.{is_marked}
use Rattle.cs_node_state.specs.Evidence.{has_ballot}
use Rattle.cs_node_pool.proofs.Counting.{count-alike}
use Rattle.cs_node_pool.proofs.votes.has_support.Goals as goal

pub returns : goal.returns
returns c =
    let members = 3 * c.args.f + 1 in
    ap (nat_lt c.args.f)
    (c.count.ensures ∙ ap (λ n. count_below n (is_marked c.supporters.result)) c.supporters.ensures.members
    ∙ count-alike members (is_marked c.supporters.result) (λ index. has_ballot c.args.shard index c.args.vote c.args.ballots.now) c.supporters.ensures.marked)
