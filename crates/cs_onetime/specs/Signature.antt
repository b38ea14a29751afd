-- Signatures: 16 texts of 16 halves each, first what is revealed at each place, then the images that are given.
use Rattle.std.specs.Prelude.{◌≡◌, ℕ, ◌+◌, ◌-◌, ◌*◌, ◌/◌, ◌%◌, ◌<◌, nat_lt, ◌==◌, List, [], ◌++◌, length, take, drop, map, slice_index_or, Vec, if◌then◌else◌}
use Rattle.std.specs.declared.alloc.Global.{Global}
use Rattle.sha2.specs.Sha256.{sha256}
use Rattle.cs_onetime.specs.Lists.{listed, joined}
use Rattle.cs_onetime.specs.Halves.{secret, image, bit_of}

-- ---- what is signed

-- what a signature has at a place of all its texts: the secret of the message's bit, then the image of the other one
abbrev pub signed_half : List ℕ → ℕ → List ℕ → ℕ → List ℕ
signed_half seed number message place =
    if nat_lt place 128 then secret seed number place (bit_of message place)
    else image (secret seed number (place - 128) (1 - bit_of message (place - 128)))

-- the same at a column of a text
abbrev pub half_of_text : List ℕ → ℕ → List ℕ → ℕ → ℕ → List ℕ
half_of_text seed number message text column = signed_half seed number message (16 * text + column)

abbrev pub signed_text : List ℕ → ℕ → List ℕ → ℕ → List ℕ
signed_text seed number message text = joined (half_of_text seed number message text) 16

-- the signature of a message under the key of a number
abbrev pub signature : List ℕ → ℕ → List ℕ → List (List ℕ)
signature seed number message = listed (signed_text seed number message) 16

-- ---- what is verified

-- 16 texts of 256 bytes
abbrev pub AreSized : List (List ℕ) → Type 0
AreSized texts = (length texts ≡ 16) × ((k : ℕ) → k < 16 → length (slice_index_or texts k []) ≡ 256)

-- 16 bytes of a text, at a column of it
abbrev pub half_in : List ℕ → ℕ → List ℕ
half_in text column = take 16 (drop (16 * column) text)

-- what is revealed of a place, and the image that is given for it
abbrev pub revealed : List (List ℕ) → ℕ → List ℕ
revealed texts place = half_in (slice_index_or texts (place / 16) []) (place % 16)

abbrev pub given : List (List ℕ) → ℕ → List ℕ
given texts place = half_in (slice_index_or texts (8 + place / 16) []) (place % 16)

-- the image of what is revealed and the one that is given, in the order that the message's bit chooses
abbrev pub shown_images : List ℕ → List (List ℕ) → ℕ → List ℕ
shown_images message texts place =
    if bit_of message place == 0 then image (revealed texts place) ++ given texts place
    else given texts place ++ image (revealed texts place)

-- the texts are a signature of the message under the key
pub record Verifies (key message : List ℕ) (texts : List (List ℕ)) : Type 0 where
  pub sized : AreSized texts
  pub shown : sha256 (joined (shown_images message texts) 128) ≡ key

-- the texts of vectors
abbrev pub texts_in : List (Vec ℕ Global) → List (List ℕ)
texts_in vectors = map (λ text. text.items) vectors
