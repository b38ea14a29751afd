use Rattle.std.proofs.Common.{◌≡◌, drop, false}
use Rattle.cs_explain.specs.Notes.{made_through}
use Rattle.cs_explain.proofs.mentions.is_made.Given as goal

abbrev pub invariant-loop-token : goal.invariant-loop-token
invariant-loop-token l = made_through l.low l.high l.name l.making (drop l.token-index l.tokens) ≡ made_through l.low l.high l.name (record { behind = false; made = false }) l.tokens
