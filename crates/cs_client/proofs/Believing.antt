-- Objects that are believed of what is kept, and words that are heard one after the other.
use Rattle.std.proofs.Common.{◌≡◌, ℕ, zero, suc, ◌+◌, ◌<◌, true, false, List, [], ◌∷◌, ◌++◌, length, map, take, drop, get_or, Option, Some, None, refl, sym, ap, ◌∙◌, arith}
use Rattle.std.specs.Prelude.{◌&&◌, is_some, option_map, option_and_then, slice_set}
use Rattle.std.specs.List.{AllByRecursion}
use Rattle.std.proofs.lemmas.List.{append_assoc, map-append, length-map, set_at, get_or_at, take_more, drop_more, length-take-le}
use Rattle.cs_tx_value.specs.declared.object.Object.{Object}
use Rattle.cs_tx_types.specs.Transaction.{Keyed}
use Rattle.cs_client.specs.declared.beliefs.Asked.{Asked}
use Rattle.cs_client.specs.declared.beliefs.Objects.{Objects}
use Rattle.cs_client.specs.Objects.{believed_in}
use Rattle.cs_client.specs.Calls.{objects_with}
use Rattle.cs_client.specs.Kept.{WordsTold, FlagsSayWords, ToldMarked, are_settled, objects_believed, objects_kept}

abbrev objects : List Keyed → List Keyed → Objects
objects i r = record { inputs = i; reads = r }

-- ---- where a flag isn't set no object is believed

map-none : {A B : Type 0} (f : A → B) (o : Option A) → o ≡ None → option_map f o ≡ None
map-none f o none = ap (option_map f) none

none-in : (f : ℕ) (asked : List Asked) → AllByRecursion (FlagsSayWords f) asked → are_settled asked ≡ false → objects_believed f asked ≡ None
none-in f [] marked unsettled = let e : true ≡ false = unsettled in absurd cc
none-in f (a ∷ more) marked unsettled = by (believed_in f a.words) marked.0 (none-in f more marked.1) where
  by : (found : Option Object) → a.settled ≡ is_some found → (are_settled more ≡ false → objects_believed f more ≡ None) → objects_with a.name found (objects_believed f more) ≡ None
  by None is rest = refl
  by (Some object) is rest =
      map-none (λ items. (a.name, object) ∷ items) (objects_believed f more) (rest (ap (λ t. t && are_settled more) (sym is) ∙ unsettled))

none-then : {A B : Type 0} (f : A → Option B) (o : Option A) → ((x : A) → f x ≡ None) → option_and_then f o ≡ None
none-then f None h = refl
none-then f (Some x) h = h x

pub inputs-unsettled : (f : ℕ) (told : WordsTold) → ToldMarked f told → are_settled told.inputs ≡ false → None ≡ objects_kept f told
inputs-unsettled f told marked unsettled =
    sym (ap (option_and_then (λ i. option_map (λ r. objects i r) (objects_believed f told.reads))) (none-in f told.inputs marked.inputs unsettled))

pub reads-unsettled : (f : ℕ) (told : WordsTold) → ToldMarked f told → are_settled told.reads ≡ false → None ≡ objects_kept f told
reads-unsettled f told marked unsettled =
    sym (none-then (λ i. option_map (objects i) (objects_believed f told.reads)) (objects_believed f told.inputs)
    (λ i. map-none (objects i) (objects_believed f told.reads) (none-in f told.reads marked.reads unsettled)))

-- ---- one element after the other

pub default-free : {A : Type 0} (xs : List A) (i : ℕ) (d d' : A) → i < length xs → get_or xs i d ≡ get_or xs i d'
default-free [] i d d' less = absurd (omega arith)
default-free (x ∷ xs) zero d d' less = refl
default-free (x ∷ xs) (suc i) d d' less = default-free xs i d d' (omega arith)

module _ {A : Type 0} (F : A → A) (all now : List A) (i : ℕ) (x : A) (less : i < length all) (so_far : now ≡ map F (take i all) ++ drop i all) (here : x ≡ get_or now i x) where
  -- what is left begins with it
  rest-is : drop i all ≡ get_or all i x ∷ drop (i + 1) all
  rest-is = drop_more all i x less

  long : length (map F (take i all)) ≡ i
  long = length-map (take i all) F ∙ length-take-le i all (omega arith)

  now-is : now ≡ map F (take i all) ++ get_or all i x ∷ drop (i + 1) all
  now-is = so_far ∙ ap (λ rest. map F (take i all) ++ rest) rest-is

  element : x ≡ get_or all i x
  element = here ∙ (ap (λ xs. get_or xs i x) now-is ∙ get_or_at (map F (take i all)) (get_or all i x) (drop (i + 1) all) x i long)

  after : (y : A) → map F (take i all) ++ y ∷ drop (i + 1) all ≡ (map F (take i all) ++ y ∷ []) ++ drop (i + 1) all
  after y = sym (append_assoc (map F (take i all)) (y ∷ []) (drop (i + 1) all))

  more : map F (take (i + 1) all) ≡ map F (take i all) ++ F (get_or all i x) ∷ []
  more = ap (map F) (take_more all i x less) ∙ map-append F (take i all) (get_or all i x ∷ [])

  -- it was changed
  pub next-set : (y : A) → y ≡ F x → slice_set now i y ≡ map F (take (i + 1) all) ++ drop (i + 1) all
  next-set y is =
      ap (λ xs. slice_set xs i y) now-is
      ∙ (set_at (map F (take i all)) (get_or all i x) (drop (i + 1) all) y i long
      ∙ (after y ∙ ap (λ xs. xs ++ drop (i + 1) all) (ap (λ z. map F (take i all) ++ z ∷ []) (is ∙ ap F element) ∙ sym more)))

  -- it is one that doesn't change
  pub next-kept : x ≡ F x → now ≡ map F (take (i + 1) all) ++ drop (i + 1) all
  next-kept is =
      now-is ∙ (after (get_or all i x) ∙ ap (λ xs. xs ++ drop (i + 1) all) (ap (λ z. map F (take i all) ++ z ∷ []) (sym element ∙ (is ∙ ap F element)) ∙ sym more))
