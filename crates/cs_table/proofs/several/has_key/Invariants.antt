use Rattle.std.proofs.Common.{◌≡◌, drop, map}
use Rattle.cs_ledger.specs.Session.{has_key}
use Rattle.cs_table.specs.Seen.{seen_piece}
use Rattle.cs_tx.specs.Sessions.{key_seen}
use Rattle.cs_table.proofs.several.has_key.Given as goal

abbrev pub invariant-loop-piece : goal.invariant-loop-piece
invariant-loop-piece l = has_key (key_seen l.key) (map seen_piece (drop l.piece-index l.pieces)) ≡ has_key (key_seen l.key) (map seen_piece l.pieces)
