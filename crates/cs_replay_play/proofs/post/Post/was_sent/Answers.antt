use Rattle.std.proofs.Common.{bytes_eq, sym, ap, ◌∙◌}
use Rattle.std.specs.Map.{lookup}
use Rattle.cs_node_rules.specs.World.{was_sent}
use Rattle.cs_replay_play.proofs.Tails.{not-sent}
use Rattle.cs_replay_play.proofs.post.Post.was_sent.Goals as goal

pub returns-in-None : goal.returns-in-None
returns-in-None c =
    let numbers = c.self.inside.numbers.entries in
    sym (not-sent numbers c.args.from c.args.to c.args.bytes.now c.self.inside.parcels.items c.self.invariant.noted (c.in-None.ensures.value ∙ ap (λ tail. lookup (bytes_eq tail) numbers) c.tail_of.ensures))
    ∙ ap (λ parcels. was_sent c.args.from c.args.to c.args.bytes.now parcels) c.self.view_is
