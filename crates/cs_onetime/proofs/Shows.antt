-- The images of a place in the order that the message's bit chooses.
use Rattle.std.proofs.Common.{◌≡◌, ℕ, Bool, true, false, cond, List, ◌++◌, sym, ap, ◌∙◌, ne_eqb}
use Rattle.std.specs.Prelude.{◌==◌}
use Rattle.cs_onetime.specs.Halves.{image, bit_of}
use Rattle.cs_onetime.specs.Signature.{revealed, given, shown_images}

module _ (message : List ℕ) (texts : List (List ℕ)) (place : ℕ) (shown beside : List ℕ) where
  abbrev ordered : Bool → List ℕ
  ordered early = cond early (image (revealed texts place) ++ given texts place) (given texts place ++ image (revealed texts place))

  -- the bit is 0: what is computed comes first
  pub shows_first : bit_of message place ≡ 0 → shown ≡ image (revealed texts place) → beside ≡ given texts place → shown_images message texts place ≡ shown ++ beside
  shows_first none one two =
      let test : (bit_of message place == 0) ≡ true = ap (λ (n : ℕ). n == 0) none in
      ap ordered test ∙ sym (ap (λ (l : List ℕ). l ++ beside) one ∙ ap (λ (l : List ℕ). image (revealed texts place) ++ l) two)

  -- it is 1: what is given comes first
  pub shows_last : (bit_of message place ≡ 0 → ⊥) → shown ≡ image (revealed texts place) → beside ≡ given texts place → shown_images message texts place ≡ beside ++ shown
  shows_last some one two =
      let test : (bit_of message place == 0) ≡ false = ne_eqb (bit_of message place) 0 some in
      ap ordered test ∙ sym (ap (λ (l : List ℕ). l ++ shown) two ∙ ap (λ (l : List ℕ). given texts place ++ l) one)
