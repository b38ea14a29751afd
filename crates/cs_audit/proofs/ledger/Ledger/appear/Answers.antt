use Rattle.std.proofs.Common.{◌∙◌, Some, cond, refl, sym, ap}
use Rattle.std.specs.Prelude.{bytes_eq}
use Rattle.std.specs.Map.{lookup}
use Rattle.cs_tx_value.specs.declared.object.Object.{Object}
use Rattle.cs_tx_value.specs.Object.{object_encoding}
use Rattle.cs_audit.specs.declared.ledger.Ledger.{Ledger}
use Rattle.cs_audit.proofs.Shown.{appears, there_stays}
use Rattle.cs_audit.proofs.ledger.Ledger.appear.Goals as goal

pub returns-then-contains_key : goal.returns-then-contains_key
returns-then-contains_key c ledger shows =
    there_stays c.args.self.now ledger c.args.name.now (object_encoding c.args.object.now) shows (sym c.contains_key.ensures ∙ c.if-contains_key.true)

pub returns : goal.returns
returns c ledger shows =
    let old : Ledger = c.args.self.now in
    let new : Ledger = record old { active = c.insert.new.self } in
    appears old new ledger c.args.name.now c.args.object.now shows c.requires (sym c.contains_key.ensures ∙ c.if-contains_key.false)
    (λ q. c.in_ok-insert.ensures.updates.0 q ∙ ap (λ (object : Object). cond (bytes_eq c.args.name.now q) (Some object) (lookup (bytes_eq q) old.active.entries)) c.in_ok-copy.ensures) refl
