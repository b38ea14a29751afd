-- What was made, slot by slot.
use Rattle.std.proofs.Common.{◌≡◌, List, [], ◌∷◌, ◌++◌, map, refl, sym, ap, ◌∙◌, append_assoc, append-nil}
use Rattle.cs_tx_value.specs.declared.object.Object.{Object}
use Rattle.cs_proc_parts.specs.declared.outputs.Entry.{Entry}
use Rattle.cs_proc_parts.specs.Slots.{created_of}
use Rattle.cs_proc_parts.specs.Creating.{all_made}

pub made_more : (es : List Entry) (e : Entry) (all : List Object) → all ≡ all_made (map created_of es)
    → all ++ e.objects.items ≡ all_made (map created_of (es ++ e ∷ []))
made_more [] e all is = ap (λ (os : List Object). os ++ e.objects.items) is ∙ sym (append-nil e.objects.items)
made_more (d ∷ es) e all is =
    ap (λ (os : List Object). os ++ e.objects.items) is
    ∙ append_assoc d.objects.items (all_made (map created_of es)) e.objects.items
    ∙ ap (λ (os : List Object). d.objects.items ++ os) (made_more es e (all_made (map created_of es)) refl)
