use Rattle.std.proofs.Common.{◌≡◌, ◌+◌, drop}
use Rattle.cs_cli.specs.Words.{texts_of}
use Rattle.cs_cli.specs.Wished.{unasked, all_read}
use Rattle.cs_cli.proofs.wishes.all_read.Given as goal

abbrev pub invariant-loop-i : goal.invariant-loop-i
invariant-loop-i l =
    all_read (l.before + 1 + l.i) (texts_of (drop l.i l.words)) l.asked ≡ all_read (l.before + 1) (texts_of l.words) unasked
