-- Whether names of genesis objects stand twice.
use Rattle.std.proofs.Common.{◌≡◌, ◌≢◌, ℕ, suc, ◌+◌, ◌<◌, Bool, true, false, List, [], ◌∷◌, ◌++◌, length, get_or, take, drop, refl, sym, ap, subst, ◌∙◌, arith, drop-cons, add-one}
use Rattle.std.specs.Prelude.{◌||◌, not, if◌then◌else◌}
use Rattle.std.specs.List.{AllPairs}
use Rattle.std.proofs.lemmas.List.{take_more, length-take-le}
use Rattle.cs_tx_value.specs.declared.object.Object.{Object}
use Rattle.cs_tx.specs.Digest.{name_of_genesis}
use Rattle.cs_tx.specs.GenesisNames.{is_known, genesis_names}
use Rattle.cs_tx.proofs.GenesisNames.{names_differ, genesis_names-append}
use Rattle.cs_deploy.specs.Files.{repeats}

-- a name that was added is new
pub added : (name : List ℕ) (old now : List (List ℕ)) (b : Bool) → b ≡ not (is_known name old) → now ≡ (if b then old ++ name ∷ [] else old) → b ≡ true → (is_known name old ≡ false) × (now ≡ old ++ name ∷ [])
added name old now b new is so = (by (is_known name old) (sym so ∙ new), is ∙ ap (λ (b : Bool). if b then old ++ name ∷ [] else old) so)
  where
    by : (known : Bool) → true ≡ not known → known ≡ false
    by true is = absurd cc
    by false is = refl

module _ (objects : List Object) (i : ℕ) (object other : Object) (within : i < length objects) (is : object ≡ get_or objects i other) where
  front : take (i + 1) objects ≡ take i objects ++ object ∷ []
  front = take_more objects i other within ∙ ap (λ (o : Object). take i objects ++ o ∷ []) (sym is)

  rest : drop i objects ≡ object ∷ drop (i + 1) objects
  rest = drop-cons objects i other within ∙ ap (λ (o : Object). o ∷ drop (suc i) objects) (sym is) ∙ ap (λ (j : ℕ). object ∷ drop j objects) (sym (add-one i))

  pub names-more : genesis_names 0 (take i objects) ++ name_of_genesis i object ∷ [] ≡ genesis_names 0 (take (i + 1) objects)
  names-more =
      let same : 0 + length (take i objects) ≡ i = omega (arith, length-take-le i objects (omega arith)) in
      sym (ap (genesis_names 0) front ∙ genesis_names-append 0 (take i objects) object
      ∙ ap (λ (n : ℕ). genesis_names 0 (take i objects) ++ name_of_genesis n object ∷ []) same)

  names-left : genesis_names i (drop i objects) ≡ name_of_genesis i object ∷ genesis_names (i + 1) (drop (i + 1) objects)
  names-left = ap (genesis_names i) rest

  pub repeats-not : (before : List (List ℕ)) → is_known (name_of_genesis i object) before ≡ false
      → repeats before (genesis_names i (drop i objects)) ≡ repeats (before ++ name_of_genesis i object ∷ []) (genesis_names (i + 1) (drop (i + 1) objects))
  repeats-not before new =
      ap (repeats before) names-left ∙ ap (λ (b : Bool). b || repeats (before ++ name_of_genesis i object ∷ []) (genesis_names (i + 1) (drop (i + 1) objects))) new

  -- the names so far, with one more
  module _ (old now : List (List ℕ)) (name : List ℕ) (named : name ≡ name_of_genesis i object) (new : is_known name old ≡ false) (is_now : now ≡ old ++ name ∷ []) where
    pub next-names : old ≡ genesis_names 0 (take i objects) → now ≡ genesis_names 0 (take (i + 1) objects)
    next-names before =
        is_now ∙ ap (λ (l : List (List ℕ)). l ++ name ∷ []) before ∙ ap (λ (n : List ℕ). genesis_names 0 (take i objects) ++ n ∷ []) named ∙ names-more

    pub next-differ : AllPairs (λ a b. a ≢ b) old → AllPairs (λ a b. a ≢ b) now
    next-differ differ = subst (λ (l : List (List ℕ)). AllPairs (λ a b. a ≢ b) l) (sym is_now) (names_differ old name differ new)

    pub next-left : repeats old (genesis_names i (drop i objects)) ≡ repeats now (genesis_names (i + 1) (drop (i + 1) objects))
    next-left =
        repeats-not old (subst (λ (n : List ℕ). is_known n old ≡ false) named new)
        ∙ ap (λ (n : List ℕ). repeats (old ++ n ∷ []) (genesis_names (i + 1) (drop (i + 1) objects))) (sym named)
        ∙ ap (λ (l : List (List ℕ)). repeats l (genesis_names (i + 1) (drop (i + 1) objects))) (sym is_now)
