use Rattle.std.proofs.Common.{Bool, ◌||◌, ◌&&◌, sym, ap, ◌∙◌}
use Rattle.cs_ledger.specs.Session.{key_eq}
use Rattle.cs_tx.specs.Sessions.{key_seen}
use Rattle.cs_table.specs.Seen.{has_key_named}
use Rattle.cs_table.proofs.Marked.{touched_more}
use Rattle.cs_table.proofs.table.touch.Goals as goal

pub returns-in_ok-insert : goal.returns-in_ok-insert
returns-in_ok-insert c name =
    touched_more c.args.key c.args.touched.now.keys c.insert.new.self.keys c.in_ok-insert.ensures.updates.0 name
    ∙ ap (λ (moved : Bool). has_key_named c.args.touched.now.keys name || (moved && key_eq name (key_seen c.args.key)))
    (sym c.if-moved.true)
