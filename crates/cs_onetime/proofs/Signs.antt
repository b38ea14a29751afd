-- What is signed verifies.
use Rattle.std.proofs.Common.{◌≡◌, ℕ, zero, suc, ◌+◌, ◌-◌, ◌*◌, ◌/◌, ◌%◌, ◌^◌, ◌<◌, Bool, cond, true, false, List, [], ◌++◌, length, get_or, take, refl, ap, ◌∙◌, arith}
use Rattle.std.specs.Prelude.{nat_lt, ◌==◌, slice_index}
use Rattle.std.proofs.lemmas.Bool.{lt-ltb, le-ltb}
use Rattle.std.proofs.lemmas.List.{length-take-le}
use Rattle.std.proofs.Math.Nat.{div-add-mod, mod-lt}
use Rattle.sha2.specs.Sha256.{sha256}
use Rattle.sha2.proofs.Facts256.{length-sha256}
use Rattle.cs_onetime.specs.Halves.{secret, image, both_images, public_key, bit_of}
use Rattle.cs_onetime.specs.Signature.{signed_half, half_of_text, signed_text, signature, AreSized, half_in, revealed, given, shown_images, Verifies}
use Rattle.cs_onetime.proofs.Joins.{length-listed, get_or-listed, length-joined, piece-joined, joined-same}

length-front : (bytes : List ℕ) → length (take 16 (sha256 bytes)) ≡ 16
length-front bytes = let whole = length-sha256 bytes in length-take-le 16 (sha256 bytes) (omega (arith, whole))

length-image : (half : List ℕ) → length (image half) ≡ 16
unfolding image
length-image half = length-front half

length-secret : (seed : List ℕ) (number place bit : ℕ) → length (secret seed number place bit) ≡ 16
unfolding secret
length-secret seed number place bit = length-front _

one_of : (early : Bool) (xs ys : List ℕ) → length xs ≡ 16 → length ys ≡ 16 → length (cond early xs ys) ≡ 16
one_of true xs ys first second = first
one_of false xs ys first second = second

length-signed : (seed : List ℕ) (number : ℕ) (message : List ℕ) (place : ℕ) → length (signed_half seed number message place) ≡ 16
length-signed seed number message place = one_of (nat_lt place 128) _ _ (length-secret _ _ _ _) (length-image _)

-- the half at a column of a text is the one of its place
found : (seed : List ℕ) (number : ℕ) (message : List ℕ) (text column : ℕ) → text < 16 → column < 16
    → half_in (get_or (signature seed number message) text []) column ≡ signed_half seed number message (16 * text + column)
found seed number message text column few narrow =
    ap (λ (t : List ℕ). half_in t column) (get_or-listed (signed_text seed number message) 16 text [] few)
    ∙ piece-joined (half_of_text seed number message text) 16 (λ i. length-signed seed number message (16 * text + i)) 16 column narrow

sized : (seed : List ℕ) (number : ℕ) (message : List ℕ) → AreSized (signature seed number message)
sized seed number message = (
  length-listed (signed_text seed number message) 16,
  λ k few. ap length (get_or-listed (signed_text seed number message) 16 k [] few)
      ∙ length-joined (half_of_text seed number message k) 16 (λ i. length-signed seed number message (16 * k + i)) 16,
)

-- the bit of a place is 0 or 1
bit_small : (message : List ℕ) (place : ℕ) → bit_of message place < 2
bit_small message place = mod-lt (slice_index message (place / 8) / 2 ^ (7 - place % 8)) {m = 2} (omega arith)

-- which of both images is computed, and which one is given
ordered : (seed : List ℕ) (number place bit : ℕ) → bit < 2
    → cond (bit == 0) (image (secret seed number place bit) ++ image (secret seed number place (1 - bit))) (image (secret seed number place (1 - bit)) ++ image (secret seed number place bit)) ≡ both_images seed number place
ordered seed number place zero small = refl
ordered seed number place (suc zero) small = refl
ordered seed number place (suc (suc bit)) small = absurd (omega (arith, small))

early : (seed : List ℕ) (number : ℕ) (message : List ℕ) (place : ℕ) → place < 128 → signed_half seed number message place ≡ secret seed number place (bit_of message place)
early seed number message place within =
    ap (λ (b : Bool). cond b (secret seed number place (bit_of message place)) (image (secret seed number (place - 128) (1 - bit_of message (place - 128))))) (lt-ltb place 128 within)

late : (seed : List ℕ) (number : ℕ) (message : List ℕ) (at place : ℕ) → at ≡ 128 + place → signed_half seed number message at ≡ image (secret seed number place (1 - bit_of message place))
late seed number message at place is =
    let past : nat_lt at 128 ≡ false = le-ltb at 128 (omega (arith, is)) in
    let same : at - 128 ≡ place = omega (arith, is) in
    ap (λ (b : Bool). cond b (secret seed number at (bit_of message at)) (image (secret seed number (at - 128) (1 - bit_of message (at - 128))))) past
    ∙ ap (λ (p : ℕ). image (secret seed number p (1 - bit_of message p))) same

shown : (seed : List ℕ) (number : ℕ) (message : List ℕ) (place : ℕ) → place < 128 → shown_images message (signature seed number message) place ≡ both_images seed number place
shown seed number message place within =
    let texts = signature seed number message in
    let bit = bit_of message place in
    let first_secret = secret seed number place bit in
    let other = image (secret seed number place (1 - bit)) in
    let whole : 16 * (place / 16) + place % 16 ≡ place = div-add-mod place 16 in
    let narrow : place % 16 < 16 = mod-lt place {m = 16} (omega arith) in
    let few : place / 16 < 8 = omega (arith, whole, within) in
    let half : ℕ → List ℕ = signed_half seed number message in
    let one : revealed texts place ≡ first_secret =
    found seed number message (place / 16) (place % 16) (omega (arith, few)) narrow ∙ (ap half whole ∙ early seed number message place within) in
    let two : given texts place ≡ other =
    found seed number message (8 + place / 16) (place % 16) (omega (arith, few)) narrow
    ∙ late seed number message (16 * (8 + place / 16) + place % 16) place (omega (arith, whole)) in
    ap (λ (half : List ℕ). cond (bit == 0) (image half ++ given texts place) (given texts place ++ image half)) one
    ∙ (ap (λ (half : List ℕ). cond (bit == 0) (image first_secret ++ half) (half ++ image first_secret)) two
    ∙ ordered seed number place bit (bit_small message place))

pub signature-verifies : (seed : List ℕ) (number : ℕ) (message : List ℕ) → Verifies (public_key seed number) message (signature seed number message)
signature-verifies seed number message = record {
  sized = sized seed number message;
  shown = ap sha256 (joined-same (shown_images message (signature seed number message)) (both_images seed number) 128 (shown seed number message));
}
