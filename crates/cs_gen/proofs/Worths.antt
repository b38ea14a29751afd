-- What coins are worth.
use Rattle.std.proofs.Common.{◌≡◌, ℕ, zero, suc, ◌+◌, ◌%◌, ◌<◌, ◌^◌, List, [], ◌∷◌, ◌++◌, length, refl, ap, sym, ◌∙◌, arith, add-one}
use Rattle.std.specs.List.{All, AllByRecursion}
use Rattle.std.proofs.lemmas.List.{length-append}
use Rattle.std.proofs.lemmas.List.Elements.{All-from_recursion}
use Rattle.cs_gen.specs.Draws.{draw}
use Rattle.cs_gen.specs.Coins.{worth_of, worths_below}

pub worths-none : (state : ℕ) → worths_below state 0 ≡ []
unfolding worths_below
worths-none state = refl

-- one more coin
pub worths-more : (state n m : ℕ) → m ≡ n + 1 → worths_below state m ≡ worths_below state n ++ worth_of state n ∷ []
unfolding worths_below
worths-more state n m is = ap (worths_below state) (is ∙ add-one n)

pub length-worths : (state n : ℕ) → length (worths_below state n) ≡ n
unfolding worths_below
length-worths state zero = refl
length-worths state (suc n) = omega (arith, length-append (worths_below state n) (worth_of state n ∷ []), length-worths state n)

each-small : (xs ys : List ℕ) → AllByRecursion (λ worth. worth < 1000) xs → AllByRecursion (λ worth. worth < 1000) ys → AllByRecursion (λ worth. worth < 1000) (xs ++ ys)
each-small [] ys first second = second
each-small (x ∷ xs) ys first second = (first.0, each-small xs ys first.1 second)

worths-low : (state n : ℕ) → AllByRecursion (λ worth. worth < 1000) (worths_below state n)
unfolding worths_below
worths-low state zero = tt
worths-low state (suc n) = each-small (worths_below state n) (worth_of state n ∷ []) (worths-low state n) (omega arith, tt)

-- each is worth less than 1,000
pub worths-small : (state n : ℕ) → All (λ worth. worth < 1000) (worths_below state n)
worths-small state n = All-from_recursion (λ worth. worth < 1000) (worths_below state n) (worths-low state n)

-- one more was drawn and pushed
pub pushed : (state n m : ℕ) (xs ys : List ℕ) (got : ℕ) → ys ≡ xs ++ (100 + got % 900) ∷ [] → xs ≡ worths_below state n → got ≡ draw state n → m ≡ n + 1 → ys ≡ worths_below state m
pushed state n m xs ys got push is drawn more =
    push ∙ ap (λ (zs : List ℕ). zs ++ (100 + got % 900) ∷ []) is ∙ ap (λ (g : ℕ). worths_below state n ++ (100 + g % 900) ∷ []) drawn ∙ sym (worths-more state n m more)

pub worths-fit : (state n : ℕ) → All (λ worth. worth < 2 ^ 63) (worths_below state n)
worths-fit state n k d within = omega (arith, worths-small state n k d within)
