use Rattle.std.proofs.Common.{◌≡◌, ◌∙◌, ◌++◌, List, [], ◌∷◌, length, drop, map, refl, sym, ap, subst, append_assoc}
use Rattle.std.specs.List.{AllByRecursion}
use Rattle.cs_tx_value.specs.Object.{ObjectFits}
use Rattle.cs_tx_types.specs.Transaction.{Keyed}
use Rattle.cs_tx.specs.Sessions.{item_of}
use Rattle.cs_audit.specs.declared.ledger.Ledger.{Ledger}
use Rattle.cs_audit.specs.Ledgers.{ShowsLedger, with_objects}
use Rattle.cs_audit.proofs.Shown.{brings, one-brought, popped, recursion-front, recursion-last}
use Rattle.cs_audit.proofs.ledger.Ledger.bring.Goals as goal

pub loop-item-preserved-in_ok-insert : goal.loop-item-preserved-in_ok-insert
loop-item-preserved-in_ok-insert c =
    let old : Ledger = c.loop-item.self in
    let new : Ledger = record old { active = c.insert.new.self } in
    let whole : List Keyed = c.args.outputs.items in
    let left : List Keyed = c.loop-item.outputs.items in
    let shorter : List Keyed = c.pop.new.self.items in
    let item : Keyed = c.in-Some.item in
    let inv = c.loop-item.invariant in
    let cut : left ≡ shorter ++ item ∷ [] = c.in-Some.ensures.items in
    let done : List Keyed = drop (length left) whole in
    let parts : drop (length shorter) whole ≡ item ∷ done = popped left shorter whole item cut inv.all in
    let Fits : Keyed → Type 0 = λ x. ObjectFits x.1 in
    let fit : ObjectFits item.1 = recursion-last Fits shorter item (subst (λ xs. AllByRecursion Fits xs) cut (recursion-front Fits left done (subst (λ xs. AllByRecursion Fits xs) (sym inv.all) c.requires))) in
    record {
      all = ap (λ xs. shorter ++ xs) parts ∙ sym (append_assoc shorter (item ∷ []) done) ∙ ap (λ xs. xs ++ done) (sym cut) ∙ inv.all;
      shows = λ ledger shows.
          subst (λ (xs : List Keyed). ShowsLedger new (with_objects (map item_of xs) ledger)) (sym parts)
          (one-brought ledger new left done item (brings old new (with_objects (map item_of done) ledger) item.0 item.1 (inv.shows ledger shows) fit c.in_ok-insert.ensures.updates.0 refl));
    }

pub loop-item-preserved : goal.loop-item-preserved
loop-item-preserved c =
    let old : Ledger = c.loop-item.self in
    let new : Ledger = record old { active = c.insert.new.self } in
    let whole : List Keyed = c.args.outputs.items in
    let left : List Keyed = c.loop-item.outputs.items in
    let shorter : List Keyed = c.pop.new.self.items in
    let item : Keyed = c.in-Some.item in
    let inv = c.loop-item.invariant in
    let cut : left ≡ shorter ++ item ∷ [] = c.in-Some.ensures.items in
    let done : List Keyed = drop (length left) whole in
    let parts : drop (length shorter) whole ≡ item ∷ done = popped left shorter whole item cut inv.all in
    let Fits : Keyed → Type 0 = λ x. ObjectFits x.1 in
    let fit : ObjectFits item.1 = recursion-last Fits shorter item (subst (λ xs. AllByRecursion Fits xs) cut (recursion-front Fits left done (subst (λ xs. AllByRecursion Fits xs) (sym inv.all) c.requires))) in
    record {
      all = ap (λ xs. shorter ++ xs) parts ∙ sym (append_assoc shorter (item ∷ []) done) ∙ ap (λ xs. xs ++ done) (sym cut) ∙ inv.all;
      shows = λ ledger shows.
          subst (λ (xs : List Keyed). ShowsLedger new (with_objects (map item_of xs) ledger)) (sym parts)
          (one-brought ledger new left done item (brings old new (with_objects (map item_of done) ledger) item.0 item.1 (inv.shows ledger shows) fit c.in_ok-insert.ensures.updates.0 refl));
    }
