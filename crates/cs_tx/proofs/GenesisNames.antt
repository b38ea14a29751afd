-- The names of genesis objects differ.
use Rattle.std.specs.Prelude.{◌≡◌, ◌≢◌, ℕ, ◌+◌, ◌<◌, Bool, true, false, ◌||◌, List, [], ◌∷◌, ◌++◌, length}
use Rattle.std.specs.List.{AllPairs}
use Rattle.std.specs.Str.{bytes_eq}
use Rattle.std.proofs.Common.{◌∙◌, sym, ap, refl, arith, get_or, zero, suc}
use Rattle.std.proofs.lemmas.Bool.{true≢false}
use Rattle.std.proofs.lemmas.List.Quantifiers.{all_pairs_push}
use Rattle.std.proofs.lemmas.Slice.Eq.{bytes_eq-Decides}
use Rattle.cs_tx_value.specs.declared.object.Object.{Object}
use Rattle.cs_tx.specs.Digest.{name_of_genesis}
use Rattle.cs_tx.specs.GenesisNames.{is_known, genesis_names}

none_of : (test others : Bool) → (test || others) ≡ false → (test ≡ false) × (others ≡ false)
none_of true others none = absurd (true≢false none)
none_of false others none = (refl, none)

-- a name that isn't among these differs from each
pub not_known : (name : List ℕ) (names : List (List ℕ)) → is_known name names ≡ false → (k : ℕ) (d : List ℕ) → k < length names → get_or names k d ≢ name
not_known name [] new k d within same = omega arith
not_known name (first ∷ names) new zero d within same =
    true≢false (sym ((bytes_eq-Decides name first).1 (sym same)) ∙ (none_of (bytes_eq name first) (is_known name names) new).0)
not_known name (first ∷ names) new (suc k) d within same =
    not_known name names (none_of (bytes_eq name first) (is_known name names) new).1 k d (omega arith) same

pub names_differ : (names : List (List ℕ)) (name : List ℕ) → AllPairs (λ a b. a ≢ b) names → is_known name names ≡ false → AllPairs (λ a b. a ≢ b) (names ++ name ∷ [])
names_differ names name differ new = all_pairs_push (λ a b. a ≢ b) names name differ (not_known name names new)

-- the name of one more object
pub genesis_names-append : (place : ℕ) (objects : List Object) (object : Object)
    → genesis_names place (objects ++ object ∷ []) ≡ genesis_names place objects ++ name_of_genesis (place + length objects) object ∷ []
genesis_names-append place [] object = let same : place + 0 ≡ place = omega arith in rw same refl
genesis_names-append place (first ∷ objects) object =
    let same : place + 1 + length objects ≡ place + length (first ∷ objects) = omega arith in
    ap (λ names. name_of_genesis place first ∷ names) (genesis_names-append (place + 1) objects object ∙ rw same refl)
