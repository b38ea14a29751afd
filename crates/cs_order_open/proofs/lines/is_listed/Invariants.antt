use Rattle.std.proofs.Common.{◌≡◌, ℕ, List, bytes_eq, drop}
use Rattle.std.specs.List.{list_any}
use Rattle.cs_order_open.proofs.lines.is_listed.Given as goal

abbrev pub invariant-loop-line : goal.invariant-loop-line
invariant-loop-line l = list_any (λ (line : List ℕ × ℕ). bytes_eq line.0 l.digest) (drop l.line-index l.lines) ≡ list_any (λ (line : List ℕ × ℕ). bytes_eq line.0 l.digest) l.lines
