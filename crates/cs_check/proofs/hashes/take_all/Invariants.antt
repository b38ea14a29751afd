use Rattle.std.proofs.Common.{◌≡◌}
use Rattle.std.specs.Map.{keys_of}
use Rattle.cs_ledger.specs.Session.{Key}
use Rattle.cs_table.specs.Seen.{seen}
use Rattle.cs_check.specs.Leaves.{AreWaiting, hashes_of, leaves_taken}
use Rattle.cs_check.proofs.hashes.take_all.Given as goal

abbrev pub invariant-loop-key : goal.invariant-loop-key
invariant-loop-key l =
    (goal.iterator-loop-key).can_next l.key-iterator
    × (goal.iterator-loop-key).is_finite l.key-iterator
    × AreWaiting l.waiting.entries
    × ((name : Key) → leaves_taken (seen l.table) (keys_of l.key-iterator) (hashes_of l.waiting.entries) name
    ≡ leaves_taken (seen l.table) (keys_of l.table.rows) (hashes_of l.fn.waiting.entries) name)
