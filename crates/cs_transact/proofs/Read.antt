-- Items that are read one by one.
use Rattle.std.proofs.Common.{◌≡◌, ℕ, ◌+◌, ◌<◌, List, [], ◌∷◌, ◌++◌, length, drop, get_or, Option, Some, None, option_map, option_and_then, refl, sym, ap, ◌∙◌, append_assoc}
use Rattle.toml.specs.Data.{Data, Items, item}
use Rattle.toml.specs.View.{view, items_view}
use Rattle.toml.specs.declared.value.Value.{Value}
use Rattle.toml.proofs.Views.{items_view-drop}

-- what was read, and what is read of the rest
abbrev pub ahead : {A : Type 0} → List A → Option (List A) → Option (List A)
ahead found rest = option_map (λ xs. found ++ xs) rest

-- one way to read lists: an item, and then the rest
pub record IsEach {A : Type 0} (read : Data → Option A) (all : Items → Option (List A)) : Type 0 where
  pub step : (first : Data) (rest : Items) → all (item first rest) ≡ option_and_then (λ x. option_map (λ xs. x ∷ xs) (all rest)) (read first)

module _ {A : Type 0} (read : Data → Option A) (all : Items → Option (List A)) (is : IsEach read all) where
  moved : (found : List A) (x : A) (rest : Option (List A)) → ahead found (option_map (λ xs. x ∷ xs) rest) ≡ ahead (found ++ x ∷ []) rest
  moved found x None = refl
  moved found x (Some xs) = ap Some (sym (append_assoc found (x ∷ []) xs))

  -- one more item was read
  pub each_more : (items : List Value) (i : ℕ) (d : Value) (found : List A) (x : A) → i < length items → d ≡ get_or items i d → read (view d) ≡ Some x
      → ahead found (all (items_view (drop i items))) ≡ ahead (found ++ x ∷ []) (all (items_view (drop (i + 1) items)))
  each_more items i d found x within at reads =
      let rest = items_view (drop (i + 1) items) in
      ap (λ held. ahead found (all held)) (items_view-drop items i d within)
      ∙ ap (λ v. ahead found (all (item (view v) rest))) (sym at)
      ∙ ap (ahead found) (is.step (view d) rest)
      ∙ ap (λ o. ahead found (option_and_then (λ y. option_map (λ xs. y ∷ xs) (all rest)) o)) reads
      ∙ moved found x (all rest)

  -- an item that can't be read
  pub each_none : (items : List Value) (i : ℕ) (d : Value) (found : List A) → i < length items → d ≡ get_or items i d → read (view d) ≡ None
      → ahead found (all (items_view (drop i items))) ≡ None
  each_none items i d found within at reads =
      let rest = items_view (drop (i + 1) items) in
      ap (λ held. ahead found (all held)) (items_view-drop items i d within)
      ∙ ap (λ v. ahead found (all (item (view v) rest))) (sym at)
      ∙ ap (ahead found) (is.step (view d) rest)
      ∙ ap (λ o. ahead found (option_and_then (λ y. option_map (λ xs. y ∷ xs) (all rest)) o)) reads

pub ahead_nil : {A : Type 0} (rest : Option (List A)) → ahead [] rest ≡ rest
ahead_nil None = refl
ahead_nil (Some xs) = refl
