-- The secrets of a one-time key, their images, and the key.
use Rattle.std.specs.Prelude.{ℕ, ◌-◌, ◌/◌, ◌%◌, List, [], ◌∷◌, ◌++◌, take, codes, slice_index}
use Rattle.std.specs.Int.{w64, to_be_bytes, bit_at}
use Rattle.sha2.specs.Sha256.{sha256}
use Rattle.cs_hash.specs.Hash.{hmac}
use Rattle.cs_onetime.specs.Lists.{joined}

-- what is hashed for a secret: the word, the number of the key, the place and the bit
abbrev pub secret_text : ℕ → ℕ → ℕ → List ℕ
secret_text number place bit = codes "half" ++ (to_be_bytes w64 number ++ place ∷ bit ∷ [])

-- the secret that is revealed where the message has this bit at this place
unfoldable pub secret : List ℕ → ℕ → ℕ → ℕ → List ℕ
secret seed number place bit = take 16 (hmac seed (secret_text number place bit))

-- what a key tells of a secret
unfoldable pub image : List ℕ → List ℕ
image half = take 16 (sha256 half)

-- the images of both secrets of a place
abbrev pub both_images : List ℕ → ℕ → ℕ → List ℕ
both_images seed number place = image (secret seed number place 0) ++ image (secret seed number place 1)

-- the key of a number: the hash of the images of all 128 places
abbrev pub public_key : List ℕ → ℕ → List ℕ
public_key seed number = sha256 (joined (both_images seed number) 128)

-- the bit of a message at a place, of each byte the most significant first
abbrev pub bit_of : List ℕ → ℕ → ℕ
bit_of message place = bit_at (slice_index message (place / 8)) (7 - place % 8)
