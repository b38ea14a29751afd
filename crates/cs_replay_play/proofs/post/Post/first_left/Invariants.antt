use Rattle.std.proofs.Common.{◌≡◌, ◌-◌, length}
use Rattle.cs_replay_play.specs.Post.{IsKeptPost}
use Rattle.cs_replay_play.proofs.post.Post.first_left.Given as goal

abbrev pub invariant-loop-self : goal.invariant-loop-self
invariant-loop-self l =
    (l.self-inside.parcels ≡ l.initial.self-inside.parcels)
    × IsKeptPost l.self-inside.parcels.items l.self-inside.size l.self-inside.delivered l.self-inside.numbers.entries

abbrev pub decreases-loop-self : goal.decreases-loop-self
decreases-loop-self l = length l.self-inside.parcels.items - l.self-inside.delivered
