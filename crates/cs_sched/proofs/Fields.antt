-- What is printed in the fields of a line is read again.
use Rattle.std.specs.Prelude.{◌≡◌, ◌≢◌, ℕ, ◌+◌, ◌<◌, ◌^◌, false, List, [], ◌∷◌, ◌++◌, length, Ok}
use Rattle.std.specs.List.{AllPairs}
use Rattle.std.specs.Str.{bytes_eq}
use Rattle.std.specs.Fmt.{decimal}
use Rattle.std.proofs.Common.{◌∙◌, sym, ap, refl, subst, arith, inl, inr, get_or, suc}
use Rattle.std.proofs.lemmas.Bool.{cases_Bool, lt-ltb}
use Rattle.std.proofs.lemmas.List.{length-append, get_or_append_left}
use Rattle.std.proofs.lemmas.Slice.Eq.{bytes_eq-Decides}
use Rattle.std.proofs.Math.Seq.{get_or-append_seam}
use Rattle.cs_base.specs.Codes.{bytes_text}
use Rattle.cs_base.specs.Config.{configured}
use Rattle.cs_base.specs.Fields.{IsBytes}
use Rattle.cs_base.specs.declared.config.Config.{Config}
use Rattle.cs_base.specs.declared.limits.TheConstants.{MOST_GENESIS, MOST_OBJECT}
use Rattle.cs_lang_token.specs.declared.limits.TheConstants.{MOST_TEXT}
use Rattle.cs_tx_value.specs.Object.{object_encoding, ObjectFits}
use Rattle.cs_tx_value.specs.declared.object.Object.{Object}
use Rattle.cs_tx.specs.Digest.{name_of_genesis}
use Rattle.cs_tx.specs.GenesisNames.{is_known, genesis_names}
use Rattle.cs_sched.specs.declared.limits.TheConstants.{MOST_CONTRACTS}
use Rattle.cs_sched.specs.Playable.{IsContractText}
use Rattle.cs_text.proofs.Back.{number_back, bytes_back}
use Rattle.cs_sched.specs.Said.{shards_said, faulty_said, dummies_said, contract_said, object_said}
use Rattle.cs_sched.specs.Values.{config_in_range}
use Rattle.cs_sched.proofs.Objects.{object_found}

-- ---- fields

pub shards_back : (now next : Config) (shards : ℕ) → shards < 2 ^ 64 → config_in_range (configured shards now.f now.dummies) ≡ Ok next → shards_said now (decimal shards ∷ []) ≡ Ok next
shards_back now next shards small ranged = rw (number_back shards small, ranged) refl

pub faulty_back : (now next : Config) (faulty : ℕ) → faulty < 2 ^ 64 → config_in_range (configured now.shards faulty now.dummies) ≡ Ok next → faulty_said now (decimal faulty ∷ []) ≡ Ok next
faulty_back now next faulty small ranged = rw (number_back faulty small, ranged) refl

pub dummies_back : (now next : Config) (dummies : ℕ) → dummies < 2 ^ 64 → config_in_range (configured now.shards now.f dummies) ≡ Ok next → dummies_said now (decimal dummies ∷ []) ≡ Ok next
dummies_back now next dummies small ranged = rw (number_back dummies small, ranged) refl

pub contract_back : (place : ℕ) (text : List ℕ) → place < MOST_CONTRACTS → IsContractText text → contract_said place (bytes_text text ∷ []) ≡ Ok text
contract_back place text few fits =
    rw (lt-ltb place MOST_CONTRACTS few, bytes_back MOST_TEXT text fits.short fits.in_bytes, fits.accepted) refl

pub object_back : (place : ℕ) (object : Object) → place < MOST_GENESIS → ObjectFits object → IsBytes (object_encoding object)
    → object_said place (bytes_text (object_encoding object) ∷ []) ≡ Ok object
object_back place object few fits encoded =
    rw (lt-ltb place MOST_GENESIS few, bytes_back MOST_OBJECT (object_encoding object) fits.small encoded, object_found (object_encoding object) object fits refl) refl

-- ---- names of objects

not_among : (name : List ℕ) (names : List (List ℕ)) → ((k : ℕ) → k < length names → get_or names k [] ≢ name) → is_known name names ≡ false
not_among name [] differ = refl
not_among name (first ∷ names) differ =
    elim (cases_Bool (bytes_eq name first)) [
      | inl same ↦ absurd (differ 0 (omega arith) (sym ((bytes_eq-Decides name first).0 same)))
      | inr other ↦ rw other (not_among name names (λ k within. differ (suc k) (omega arith)))
    ]

new_name : (before after : List (List ℕ)) (name : List ℕ) → AllPairs (λ a b. a ≢ b) (before ++ name ∷ after) → is_known name before ≡ false
new_name before after name differ =
    not_among name before (λ k within same. differ k (length before) [] within (omega (arith, length-append before (name ∷ after)))
    (get_or_append_left before (name ∷ after) [] k within ∙ same ∙ sym (get_or-append_seam before name after [])))

names-split : (place : ℕ) (before : List Object) (object : Object) (after : List Object)
    → genesis_names place (before ++ object ∷ after) ≡ genesis_names place before ++ name_of_genesis (place + length before) object ∷ genesis_names (place + length before + 1) after
names-split place [] object after = let same : place + 0 ≡ place = omega arith in rw same refl
names-split place (first ∷ before) object after =
    let same : place + 1 + length before ≡ place + length (first ∷ before) = omega arith in
    ap (λ names. name_of_genesis place first ∷ names) (names-split (place + 1) before object after ∙ rw same refl)

-- the next object has a new name
pub next_new : (before : List Object) (object : Object) (after : List Object) → AllPairs (λ a b. a ≢ b) (genesis_names 0 (before ++ object ∷ after))
    → is_known (name_of_genesis (length before) object) (genesis_names 0 before) ≡ false
next_new before object after differ =
    let zero_first : 0 + length before ≡ length before = omega arith in
    let names = subst (AllPairs (λ a b. a ≢ b)) (names-split 0 before object after) differ in
    subst (λ n. is_known (name_of_genesis n object) (genesis_names 0 before) ≡ false) zero_first
    (new_name (genesis_names 0 before) (genesis_names (0 + length before + 1) after) (name_of_genesis (0 + length before) object) names)
