use Rattle.std.proofs.Common.{◌≡◌, ◌++◌, drop}
use Rattle.cs_table.specs.Pieces.{dummy_pieces}
use Rattle.cs_table.proofs.pieces.add_dummies.Given as goal

abbrev pub invariant-loop-dummy : goal.invariant-loop-dummy
invariant-loop-dummy l = l.pieces.items ++ dummy_pieces l.shard (drop l.dummy-index l.dummies) ≡ l.initial.pieces.items ++ dummy_pieces l.shard l.dummies
