-- The outputs of traces, one after the other.
use Rattle.std.proofs.Common.{◌≡◌, ℕ, zero, suc, ◌+◌, ◌<◌, ◌≤◌, List, [], ◌∷◌, ◌++◌, length, get_or, drop, map, refl, sym, ap, ◌∙◌, append_assoc, add-one, arith, drop_of_length-le}
use Rattle.std.specs.List.{flat_map}
use Rattle.std.proofs.Math.Seq.{drop-cons, drop-nil}
use Rattle.std.proofs.lemmas.List.{append-nil, length-drop, map-append}
use Rattle.cs_base.specs.declared.key.Key.{Key}
use Rattle.cs_base.specs.declared.key.Key.TheVariants as key
use Rattle.cs_tx_value.specs.declared.object.Object.{Object}
use Rattle.cs_tx_types.specs.declared.trace.Trace.{Trace}
use Rattle.cs_tx_types.specs.Transaction.{Keyed}
use Rattle.cs_tx.specs.Digest.{name_of_output, outputs_at, outputs_from, keys}
use Rattle.cs_tx.specs.Uses.{names}

-- what is left after one more
drop-more : {X : Type 0} (xs : List X) (i : ℕ) → drop (i + 1) xs ≡ drop 1 (drop i xs)
drop-more xs zero = refl
drop-more [] (suc i) = drop-nil (suc i + 1) ∙ sym (drop-nil 1)
drop-more (x ∷ xs) (suc i) = let e : suc i + 1 ≡ suc (i + 1) = omega arith in rw e (drop-more xs i)

-- ---- a list that grows by the front of what is left

pub moved : {X : Type 0} (front next left whole : List X) → front ++ (next ++ left) ≡ whole → (front ++ next) ++ left ≡ whole
moved front next left whole e = append_assoc front next left ∙ e

pub all_moved : {X : Type 0} (front left whole : List X) → left ≡ [] → front ++ left ≡ whole → front ≡ whole
all_moved {X} front left whole none e = sym (append-nil front) ∙ ap (λ (l : List X). front ++ l) (sym none) ∙ e

-- ---- the outputs of one trace

first_output : (digest : List ℕ) (trace place : ℕ) (objects : List Object) → 0 < length objects
    → names (outputs_at digest trace place objects) ≡ name_of_output digest trace place ∷ names (outputs_at digest trace (place + 1) (drop 1 objects))
first_output digest trace place [] lt = absurd (omega arith)
first_output digest trace place (object ∷ objects) lt = refl

pub output_more : (digest : List ℕ) (trace : ℕ) (objects : List Object) (i : ℕ) (front whole : List (List ℕ)) → i < length objects
    → front ++ names (outputs_at digest trace i (drop i objects)) ≡ whole
    → (front ++ name_of_output digest trace i ∷ []) ++ names (outputs_at digest trace (i + 1) (drop (i + 1) objects)) ≡ whole
output_more digest trace objects i front whole lt e =
    let some : 0 < length (drop i objects) = omega (arith, length-drop i objects) in
    rw (drop-more objects i) (moved front (name_of_output digest trace i ∷ []) _ whole (rw (← first_output digest trace i (drop i objects) some) e))

pub outputs_done : (digest : List ℕ) (trace : ℕ) (objects : List Object) (i : ℕ) (front whole : List (List ℕ)) → length objects ≤ i
    → front ++ names (outputs_at digest trace i (drop i objects)) ≡ whole → front ≡ whole
outputs_done digest trace objects i front whole le e = all_moved front _ whole (rw (drop_of_length-le objects le) refl) e

-- ---- the outputs of all traces

pub traces_more : (digest : List ℕ) (traces : List Trace) (i : ℕ) (some : Trace) (front whole : List (List ℕ)) → i < length traces
    → front ++ names (flat_map (λ outputs. outputs) (outputs_from digest i (drop i traces))) ≡ whole
    → (front ++ names (outputs_at digest i 0 (get_or traces i some).outputs)) ++ names (flat_map (λ outputs. outputs) (outputs_from digest (i + 1) (drop (i + 1) traces))) ≡ whole
traces_more digest traces i some front whole lt e =
    let left : drop i traces ≡ get_or traces i some ∷ drop (i + 1) traces = rw add-one (drop-cons traces i some lt) in
    let here = outputs_at digest i 0 (get_or traces i some).outputs in
    let later = flat_map (λ (outputs : List Keyed). outputs) (outputs_from digest (i + 1) (drop (i + 1) traces)) in
    let split : names (flat_map (λ outputs. outputs) (outputs_from digest i (drop i traces))) ≡ names here ++ names later = rw left (map-append (λ (item : Keyed). item.0) here later) in
    moved front (names here) (names later) whole (rw (← split) e)

pub traces_done : (digest : List ℕ) (traces : List Trace) (i : ℕ) (front whole : List (List ℕ)) → length traces ≤ i
    → front ++ names (flat_map (λ outputs. outputs) (outputs_from digest i (drop i traces))) ≡ whole → front ≡ whole
traces_done digest traces i front whole le e = all_moved front _ whole (rw (drop_of_length-le traces le) refl) e

-- ---- the keys

first_key : (digest : List ℕ) (trace place : ℕ) (objects : List Object) → 0 < length objects
    → keys (outputs_at digest trace place objects) ≡ key.Object (name_of_output digest trace place) ∷ keys (outputs_at digest trace (place + 1) (drop 1 objects))
first_key digest trace place [] lt = absurd (omega arith)
first_key digest trace place (object ∷ objects) lt = refl

pub keys_more : (digest : List ℕ) (trace : ℕ) (objects : List Object) (i : ℕ) (front whole : List Key) → i < length objects
    → front ++ keys (outputs_at digest trace i (drop i objects)) ≡ whole
    → (front ++ key.Object (name_of_output digest trace i) ∷ []) ++ keys (outputs_at digest trace (i + 1) (drop (i + 1) objects)) ≡ whole
keys_more digest trace objects i front whole lt e =
    let some : 0 < length (drop i objects) = omega (arith, length-drop i objects) in
    rw (drop-more objects i) (moved front (key.Object (name_of_output digest trace i) ∷ []) _ whole (rw (← first_key digest trace i (drop i objects) some) e))

pub key_lists_more : (digest : List ℕ) (traces : List Trace) (i : ℕ) (some : Trace) (front whole : List (List Key)) → i < length traces
    → front ++ map keys (outputs_from digest i (drop i traces)) ≡ whole
    → (front ++ keys (outputs_at digest i 0 (get_or traces i some).outputs) ∷ []) ++ map keys (outputs_from digest (i + 1) (drop (i + 1) traces)) ≡ whole
key_lists_more digest traces i some front whole lt e =
    let left : drop i traces ≡ get_or traces i some ∷ drop (i + 1) traces = rw add-one (drop-cons traces i some lt) in
    let split : map keys (outputs_from digest i (drop i traces)) ≡ keys (outputs_at digest i 0 (get_or traces i some).outputs) ∷ map keys (outputs_from digest (i + 1) (drop (i + 1) traces)) = rw left refl in
    moved front (keys (outputs_at digest i 0 (get_or traces i some).outputs) ∷ []) _ whole (rw (← split) e)
