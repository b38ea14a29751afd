use Rattle.std.proofs.Common.{◌≡◌, ◌++◌, take, string_bytes}
use Rattle.std.specs.Prelude.{codes}
use Rattle.std.specs.List.{flat_map}
use Rattle.std.specs.Fmt.{decimal}
use Rattle.cs_tx.specs.Lines.{tx_line}
use Rattle.cs_replay_play.proofs.lines.history_text.Given as goal

abbrev pub invariant-loop-digest : goal.invariant-loop-digest
invariant-loop-digest l =
    string_bytes l.text
    ≡ codes "history " ++ (decimal l.count ++ (codes "\n" ++ flat_map tx_line (take l.digest-index l.digests)))
