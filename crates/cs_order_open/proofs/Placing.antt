-- Where a line stands among the lines of a change.
use Rattle.std.proofs.Common.{◌≡◌, ℕ, true, false, bytes_eq, List, [], ◌∷◌, ◌++◌, append_assoc, ◌∙◌}
use Rattle.std.specs.Cmp.Lexicographic.{slice_cmp}
use Rattle.std.specs.Ordering.{nat_cmp, is_lt}
use Rattle.cs_order_rules.specs.Rules.{insert_line}

abbrev Line : Type 0
Line = List ℕ × ℕ

pub line_before : (out now rest : List Line) (line other : Line) → now ≡ (out ++ line ∷ []) ++ other ∷ [] → false ≡ bytes_eq line.0 other.0 → true ≡ is_lt (slice_cmp nat_cmp line.0 other.0) → now ++ rest ≡ out ++ insert_line line (other ∷ rest)
line_before out now rest line other is apart before = rw (is, ← apart, ← before) (append_assoc (out ++ line ∷ []) (other ∷ []) rest ∙ append_assoc out (line ∷ []) (other ∷ rest))

pub line_after : (out now rest : List Line) (line other : Line) → now ≡ out ++ other ∷ [] → false ≡ bytes_eq line.0 other.0 → false ≡ is_lt (slice_cmp nat_cmp line.0 other.0) → now ++ insert_line line rest ≡ out ++ insert_line line (other ∷ rest)
line_after out now rest line other is apart after = rw (is, ← apart, ← after) (append_assoc out (other ∷ []) (insert_line line rest))
