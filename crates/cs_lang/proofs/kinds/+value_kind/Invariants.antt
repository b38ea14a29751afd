use Rattle.std.proofs.Common.{ℕ}
use Rattle.cs_lang.proofs.kinds.+value_kind.Given as goal

abbrev pub decreases-value_kind : goal.decreases-value_kind
decreases-value_kind l = l.left
