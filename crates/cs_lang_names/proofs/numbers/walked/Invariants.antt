use Rattle.std.proofs.Common.{◌≡◌, drop}
use Rattle.cs_lang_names.specs.Numbering.{number_from, number_of}
use Rattle.cs_lang_names.proofs.numbers.walked.Given as goal

abbrev pub invariant-loop-i : goal.invariant-loop-i
invariant-loop-i l = number_from l.name l.i (drop l.i l.names) ≡ number_of l.name l.names
