-- Entries that are read one by one.
use Rattle.std.proofs.Common.{◌≡◌, ℕ, ◌+◌, ◌<◌, List, [], ◌∷◌, ◌++◌, length, drop, get_or, Option, Some, None, option_map, option_and_then, refl, sym, ap, ◌∙◌, append_assoc}
use Rattle.toml.specs.Data.{Items}
use Rattle.toml.specs.View.{view, items_view}
use Rattle.toml.specs.declared.value.Value.{Value}
use Rattle.toml.proofs.Views.{items_view-drop}
use Rattle.cs_config.specs.Reading.{each_item}
use Rattle.cs_wallet.specs.File.{entry_in}
use Rattle.cs_wallet.specs.declared.entry.Entry.{Entry}

-- what was read, and what is read of the rest
abbrev pub found_ahead : List Entry → Option (List Entry) → Option (List Entry)
found_ahead found rest = option_map (λ xs. found ++ xs) rest

moved : (found : List Entry) (x : Entry) (rest : Option (List Entry)) → found_ahead found (option_map (λ xs. x ∷ xs) rest) ≡ found_ahead (found ++ x ∷ []) rest
moved found x None = refl
moved found x (Some xs) = ap Some (sym (append_assoc found (x ∷ []) xs))

abbrev step : Option Entry → Items → Option (List Entry)
step first rest = option_and_then (λ x. option_map (λ xs. x ∷ xs) (each_item entry_in rest)) first

-- one more was read
pub entry_more : (items : List Value) (i : ℕ) (d : Value) (found : List Entry) (x : Entry) → i < length items → d ≡ get_or items i d → entry_in (view d) ≡ Some x
    → found_ahead found (each_item entry_in (items_view (drop i items))) ≡ found_ahead (found ++ x ∷ []) (each_item entry_in (items_view (drop (i + 1) items)))
entry_more items i d found x within at reads =
    let rest = items_view (drop (i + 1) items) in
    ap (λ (held : Items). found_ahead found (each_item entry_in held)) (items_view-drop items i d within)
    ∙ (ap (λ (v : Value). found_ahead found (step (entry_in (view v)) rest)) (sym at)
    ∙ (ap (λ (o : Option Entry). found_ahead found (step o rest)) reads ∙ moved found x (each_item entry_in rest)))

-- one can't be read
pub entry_none : (items : List Value) (i : ℕ) (d : Value) (found : List Entry) → i < length items → d ≡ get_or items i d → entry_in (view d) ≡ None
    → found_ahead found (each_item entry_in (items_view (drop i items))) ≡ None
entry_none items i d found within at reads =
    let rest = items_view (drop (i + 1) items) in
    ap (λ (held : Items). found_ahead found (each_item entry_in held)) (items_view-drop items i d within)
    ∙ (ap (λ (v : Value). found_ahead found (step (entry_in (view v)) rest)) (sym at)
    ∙ ap (λ (o : Option Entry). found_ahead found (step o rest)) reads)

pub found_ahead_nil : (rest : Option (List Entry)) → found_ahead [] rest ≡ rest
found_ahead_nil None = refl
found_ahead_nil (Some xs) = refl
