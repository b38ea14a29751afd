use Rattle.std.proofs.Common.{List, ap, ◌∙◌}
use Rattle.std.specs.Map.{keys_of}
use Rattle.cs_base.specs.declared.key.Key.{Key}
use Rattle.cs_merkle_kept.specs.declared.leaf.Leaf.{Leaf}
use Rattle.cs_table.specs.Seen.{seen}
use Rattle.cs_check.specs.Leaves.{hashes_of, leaves_taken}
use Rattle.cs_check.proofs.Hashing.{takes_all}
use Rattle.cs_check.proofs.hashes.Hashes.new.Goals as goal

pub returns : goal.returns
returns c =
    let table = c.args.table.now in
    takes_all table (record { tree = c.new.result; waiting = hashes_of c.take_all.new.waiting.entries }) c.new.ensures
    (λ name.
    c.in_ok-take_all.ensures.taken name
    ∙ ap (λ (es : List (Key × Leaf)). leaves_taken (seen table) (keys_of table.rows) (hashes_of es) name) c.new-waiting.ensures.empty)
