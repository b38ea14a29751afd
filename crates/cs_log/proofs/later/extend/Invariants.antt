use Rattle.std.proofs.Common.{◌≡◌, length}
use Rattle.cs_order.specs.Limits.{view_bound}
use Rattle.cs_order_rules.specs.Facts.{Sight}
use Rattle.cs_log.specs.Later.{ShowLater}
use Rattle.cs_log.proofs.later.extend.Given as goal

abbrev pub invariant-loop-place : goal.invariant-loop-place
invariant-loop-place l =
    (length l.later.items ≡ l.place)
    × ((s : Sight) → s.f ≡ l.f → s.me ≡ l.me → s.views ≡ view_bound → ShowLater l.initial.later.items s l.first → ShowLater l.later.items s l.first)
