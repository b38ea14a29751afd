use Rattle.std.proofs.Common.{◌≡◌, ◌++◌, take}
use Rattle.std.specs.List.{flat_map}
use Rattle.cs_journal.specs.Journal.{counted_text}
use Rattle.cs_journal.proofs.head.journal_id.Given as goal

abbrev pub invariant-loop-text : goal.invariant-loop-text
invariant-loop-text l = l.out ≡ counted_text l.site ++ flat_map counted_text (take l.text-index l.texts)
