-- The turns of a loop that reads a row.
use Rattle.std.proofs.Common.{◌≡◌, ℕ, zero, suc, ◌-◌, ◌<◌, true, false, List, [], ◌∷◌, refl, sym, ap, ◌∙◌, arith}
use Rattle.std.specs.Prelude.{Result, Ok, Err}
use Rattle.cs_lang_token.specs.declared.token.Token.{Token}
use Rattle.cs_lang_token.specs.declared.kind.Kind.{Kind}
use Rattle.cs_lang_token.specs.declared.cursor.Stop.{Stop}
use Rattle.cs_lang_token.specs.declared.cursor.Stop.TheVariants as reason
use Rattle.cs_lang_token.specs.Kinds.{is}
use Rattle.cs_lang_token.specs.Grammar.{Reader, begins, ◌>>=◌}
use Rattle.cs_lang_token.specs.Answers.{ReaderFails}
use Rattle.cs_cases.specs.Grammar.{closed_at, one_more_at, row_onward}

module _ {X : Type 0} (closing : Kind) (r : Reader X) where
  abbrev on : ℕ → List X → List Token → Result (List X × List Token) (List Token)
  on n xs ts = row_onward closing r n xs ts

  -- the row is closed
  pub row_closed : (n : ℕ) (xs : List X) (ts : List Token) (whole : Result (List X × List Token) (List Token)) → on n xs ts ≡ whole → 0 < n → begins (is (closing ∷ [])) ts ≡ true
      → whole ≡ closed_at closing xs ts
  row_closed zero xs ts whole i lt at = absurd (omega (arith, lt))
  row_closed (suc n) xs ts whole i lt at = sym i ∙ rw at refl

  turned : (n k : ℕ) (xs : List X) (ts : List Token) → 0 < n → k ≡ n - 1 → begins (is (closing ∷ [])) ts ≡ false
      → on n xs ts ≡ (one_more_at r xs ts >>= λ ys. on k ys.0 ys.1)
  turned zero k xs ts lt is at = absurd (omega (arith, lt))
  turned (suc n) k xs ts lt is at =
      let same : k ≡ n = omega (arith, is) in
      rw (at, same) refl

  -- one more stands behind a comma
  pub row_step : (n k : ℕ) (xs ys : List X) (ts us : List Token) (whole : Result (List X × List Token) (List Token)) → on n xs ts ≡ whole → 0 < n → k ≡ n - 1 → begins (is (closing ∷ [])) ts ≡ false
      → one_more_at r xs ts ≡ Ok (ys, us) → on k ys us ≡ whole
  row_step n k xs ys ts us whole i lt is at more =
      sym (turned n k xs ts lt is at ∙ ap (λ (a : Result (List X × List Token) (List Token)). a >>= λ z. on k z.0 z.1) more) ∙ i

  pub row_fails : (n : ℕ) (xs : List X) (ts us : List Token) (whole : Result (List X × List Token) (List Token)) (e : Stop) → on n xs ts ≡ whole → 0 < n → begins (is (closing ∷ [])) ts ≡ false
      → ReaderFails e us (one_more_at r xs ts) → ReaderFails e us whole
  row_fails n xs ts us whole reason.Memory i lt at h = tt
  row_fails n xs ts us whole reason.Syntax i lt at h =
      sym i ∙ turned n (n - 1) xs ts lt refl at ∙ ap (λ (a : Result (List X × List Token) (List Token)). a >>= λ z. on (n - 1) z.0 z.1) h

  pub row_full : (n : ℕ) (xs : List X) (ts : List Token) (whole : Result (List X × List Token) (List Token)) → on n xs ts ≡ whole → n ≡ 0 → whole ≡ Err ts
  row_full zero xs ts whole i is = sym i
  row_full (suc n) xs ts whole i is = absurd (omega (arith, is))
