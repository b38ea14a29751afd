use Rattle.std.proofs.Common.{◌≡◌, drop}
use Rattle.cs_cli.specs.Words.{plain_contract, contract_mode_from, texts_of}
use Rattle.cs_cli.proofs.words.read_contract_mode.Given as goal

abbrev pub invariant-loop-option : goal.invariant-loop-option
invariant-loop-option l =
    contract_mode_from l.mode (texts_of (drop l.option-index l.options)) ≡ contract_mode_from plain_contract (texts_of l.options)
