use Rattle.std.proofs.Common.{◌≡◌, drop, false}
use Rattle.cs_explain.specs.Notes.{looked_through}
use Rattle.cs_explain.proofs.mentions.is_looked_at.Given as goal

abbrev pub invariant-loop-token : goal.invariant-loop-token
invariant-loop-token l = looked_through l.low l.high l.name l.looking (drop l.token-index l.tokens) ≡ looked_through l.low l.high l.name (record { skip = 0; looked = false }) l.tokens
