use Rattle.std.proofs.Common.{◌≡◌, ℕ, ◌<◌}
use Rattle.cs_node_rules.specs.Site.{Site, View}
use Rattle.cs_replay_play.specs.Standing.{EachStands}
use Rattle.cs_replay_play.proofs.cores.place_of.Given as goal

abbrev pub invariant-loop-place : goal.invariant-loop-place
invariant-loop-place g l =
    (site : Site g.row.O-Message.Denot) (views : ℕ → View g.row.O-Message.Denot) → EachStands g.O.Order.stands g.J.Judge.is_approved site l.cores views
    → (i : ℕ) → i < l.place → (views i).me ≡ l.name → ⊥
