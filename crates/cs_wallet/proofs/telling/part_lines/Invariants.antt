use Rattle.std.proofs.Common.{◌≡◌, take}
use Rattle.cs_onetime.specs.Signature.{texts_in}
use Rattle.cs_wallet.specs.Commands.{part_lines}
use Rattle.cs_wallet.proofs.telling.part_lines.Given as goal

abbrev pub invariant-loop-text : goal.invariant-loop-text
invariant-loop-text l = l.lines.items ≡ part_lines (texts_in (take l.text-index l.texts))
