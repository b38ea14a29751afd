-- Where no object has the key of an earlier one the keys differ.
use Rattle.std.proofs.Common.{◌≡◌, ◌≢◌, ℕ, ◌+◌, Bool, true, false, cond, List, [], ◌∷◌, ◌++◌, Some, None, refl, sym, subst, arith, append_assoc, append-nil}
use Rattle.std.specs.List.{AllPairs}
use Rattle.cs_tx_value.specs.declared.object.Object.{Object}
use Rattle.cs_tx.specs.Digest.{name_of_genesis}
use Rattle.cs_tx.specs.GenesisNames.{is_known, genesis_names}
use Rattle.cs_tx.proofs.GenesisNames.{names_differ}
use Rattle.cs_cli.specs.Keys.{first_repeated, repeated_key}

abbrev Differ : List (List ℕ) → Type 0
Differ names = AllPairs (λ a b. a ≢ b) names

-- an object more
unrepeated-more : (names : List (List ℕ)) (place : ℕ) (object : Object) (objects : List Object) (known : Bool) → is_known (name_of_genesis place object) names ≡ known
    → cond known (Some place) (first_repeated (names ++ name_of_genesis place object ∷ []) (place + 1) objects) ≡ None
    → (is_known (name_of_genesis place object) names ≡ false → first_repeated (names ++ name_of_genesis place object ∷ []) (place + 1) objects ≡ None → Differ ((names ++ name_of_genesis place object ∷ []) ++ genesis_names (place + 1) objects))
    → Differ (names ++ genesis_names place (object ∷ objects))
unrepeated-more names place object objects true is found later = absurd (let q : Some place ≡ None = found in cc)
unrepeated-more names place object objects false is none later =
    subst Differ (append_assoc names (name_of_genesis place object ∷ []) (genesis_names (place + 1) objects)) (later is none)

-- where there is none the names differ
unrepeated : (names : List (List ℕ)) (place : ℕ) (objects : List Object) → Differ names → first_repeated names place objects ≡ None → Differ (names ++ genesis_names place objects)
unrepeated names place [] differ none = subst Differ (sym (append-nil names)) differ
unrepeated names place (object ∷ objects) differ none =
    unrepeated-more names place object objects (is_known (name_of_genesis place object) names) refl none
    (λ new more. unrepeated (names ++ name_of_genesis place object ∷ []) (place + 1) objects (names_differ names (name_of_genesis place object) differ new) more)

pub keys-differ : (objects : List Object) → repeated_key objects ≡ None → Differ (genesis_names 0 objects)
keys-differ objects none = unrepeated [] 0 objects (λ i j d less within. absurd (omega arith)) none
