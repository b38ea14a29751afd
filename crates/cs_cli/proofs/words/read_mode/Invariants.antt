use Rattle.std.proofs.Common.{◌≡◌, drop}
use Rattle.cs_cli.specs.Words.{plain_mode, mode_from, texts_of}
use Rattle.cs_cli.proofs.words.read_mode.Given as goal

abbrev pub invariant-loop-option : goal.invariant-loop-option
invariant-loop-option l =
    mode_from l.mode (texts_of (drop l.option-index l.options)) ≡ mode_from plain_mode (texts_of l.options)
