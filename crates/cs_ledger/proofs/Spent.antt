-- In a serial history no object is consumed twice.
use Rattle.std.proofs.Common.{◌≡◌, List, [], ◌∷◌, Bool, true, false, ◌⊎◌, inl, inr, Option, Some, None, refl, sym, ap, ◌∙◌, subst}
use Rattle.std.specs.Prelude.{if◌then◌else◌}
use Rattle.cs_base.specs.Lists.{IsIn}
use Rattle.cs_ledger.specs.Ledger.{Bytes, Item, Transaction, Ledger, names, has, object_named, ledger_after, Takes, Serial, IsSpentOnce}
use Rattle.cs_base.specs.Options.{or_else}
use Rattle.cs_ledger.proofs.Basics.{in_left, in_right}
use Rattle.cs_ledger.proofs.Names.{at_none, at_some, item_has, item_named, named_item}

-- what the ledger has was created
abbrev pub IsHeld : Ledger → Type 0
IsHeld ledger = (name object : Bytes) → ledger.active name ≡ Some object → IsIn name ledger.created

no_output : (ledger : Ledger) (tx : Transaction) (name : Bytes) → Takes ledger tx → IsIn name ledger.created → object_named tx.outputs name ≡ None
no_output ledger tx name takes h =
    at_none _ _ (λ i. let o = named_item name tx.outputs i in takes.fresh o.0 o.1 (subst (λ n. IsIn n ledger.created) (sym o.2) h))

both_none : (b : Bool) (o : Option Bytes) → o ≡ None → (if b then None else o) ≡ None
both_none true o e = refl
both_none false o e = e

-- what was created and is gone is never an input again
gone : (name : Bytes) (ledger : Ledger) (txs : List Transaction) → Serial ledger txs → ledger.active name ≡ None → IsIn name ledger.created → (other : Transaction) → IsIn other txs → (again : Item) → IsIn again other.inputs → again.name ≡ name → ⊥
gone name ledger [] s e h other i again j same = i
gone name ledger (tx ∷ later) s e h other (inl is) again j same =
    let q : None ≡ Some again.object = sym e ∙ ap ledger.active (sym same) ∙ s.0.inputs again (subst (λ (z : Transaction). IsIn again z.inputs) is j) in cc
gone name ledger (tx ∷ later) s e h other (inr i) again j same =
    gone name (ledger_after ledger tx) later s.1
    (ap (λ o. or_else o (if has name (names tx.inputs) then None else ledger.active name)) (no_output ledger tx name s.0 h) ∙ both_none (has name (names tx.inputs)) _ e)
    (in_left name ledger.created _ h) other i again j same

unless_none : (b : Bool) (o : Option Bytes) (object : Bytes) → (if b then None else o) ≡ Some object → o ≡ Some object
unless_none true o object e = cc
unless_none false o object e = e

new_or_old : (new old : Option Bytes) (object : Bytes) → or_else new old ≡ Some object → (new ≡ Some object) ⊎ (old ≡ Some object)
new_or_old (Some o) old object e = inl e
new_or_old None old object e = inr e

pub held_after : (ledger : Ledger) (tx : Transaction) → IsHeld ledger → IsHeld (ledger_after ledger tx)
held_after ledger tx held name object e =
    elim (new_or_old (object_named tx.outputs name) _ object e) [
      | inl new ↦
          let o = at_some tx.outputs name object new in
          in_right name ledger.created _ (subst (λ n. IsIn n (names tx.outputs)) o.2 (item_named o.0 tx.outputs o.1))
      | inr old ↦ in_left name ledger.created _ (held name object (unless_none (has name (names tx.inputs)) _ object old))
    ]

pub spent_once : (ledger : Ledger) (txs : List Transaction) → IsHeld ledger → Serial ledger txs → IsSpentOnce txs
spent_once ledger [] held s = tt
spent_once ledger (tx ∷ later) held s = (
  λ item again other i o j same.
      let h = held item.name item.object (s.0.inputs item i) in
      gone item.name (ledger_after ledger tx) later s.1
      (λ k. or_else (no_output ledger tx item.name s.0 h k) (if item_has item tx.inputs i k then None else ledger.active item.name))
      (in_left item.name ledger.created _ h) other o again j (sym same),
  spent_once (ledger_after ledger tx) later (held_after ledger tx held) s.1,
)
