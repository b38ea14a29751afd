use Rattle.std.proofs.Common.{◌∙◌, sym, ap, Option, is_some, true}
use Rattle.cs_ledger.specs.Session.{Key}
use Rattle.cs_table.proofs.Calls.{anchor_is, still_some}
use Rattle.cs_table.proofs.table.Table.has_anchor.Goals as goal

pub returns : goal.returns
returns c = c.is_some.ensures ∙ sym (still_some c.first_key-anchor.result) ∙ ap (λ (o : Option Key). is_some o) (sym (anchor_is c.args.self.now c.args.session.now c.as_slice.result.now (c.as_slice.ensures.value ∙ c.in_ok-uses.ensures.used) (λ tx. true) c.first_key-anchor.result c.first_key-anchor.ensures))
