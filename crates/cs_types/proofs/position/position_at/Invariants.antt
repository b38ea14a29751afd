use Rattle.std.proofs.Common.{◌≡◌, ◌+◌, ◌≤◌, drop}
use Rattle.cs_types.specs.Positions.{first_position, behind_all}
use Rattle.cs_types.proofs.position.position_at.Given as goal

-- what is left leads from here to where all lead from the beginning
abbrev pub invariant-loop-byte : goal.invariant-loop-byte
invariant-loop-byte l = record {
  on : behind_all l.position (drop l.byte-index l.before) ≡ behind_all first_position l.before;
  line : l.position.line ≤ l.byte-index + 1;
  column : l.position.column ≤ l.byte-index + 1;
}
