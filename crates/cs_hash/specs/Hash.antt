-- Digests behind a letter, and tags under a key.
use Rattle.std.specs.Prelude.{ℕ, ◌-◌, nat_lt, bit_xor, List, ◌∷◌, ◌++◌, length, map, replicate, if◌then◌else◌}
use Rattle.sha2.specs.Sha256.{sha256}

-- SHA-256 of a letter and bytes (FIPS 180-4)
abbrev pub tagged_digest : ℕ → List ℕ → List ℕ
tagged_digest letter bytes = sha256 (letter ∷ bytes)

-- ---- HMAC (RFC 2104) with SHA-256, whose blocks have 64 bytes

-- a key that is longer than a block stands for its hash
abbrev pub short_key : List ℕ → List ℕ
short_key key = if nat_lt 64 (length key) then sha256 key else key

-- with zeros behind it, as long as a block
abbrev pub filled_block : List ℕ → List ℕ
filled_block key = key ++ replicate (64 - length key) 0

abbrev pub key_block : List ℕ → List ℕ
key_block key = filled_block (short_key key)

-- each byte xor the pad
abbrev pub masked : ℕ → List ℕ → List ℕ
masked pad block = map (λ byte. bit_xor byte pad) block

-- the hash of the block under the outer pad and of the hash of the block under the inner pad and the bytes
abbrev pub hmac : List ℕ → List ℕ → List ℕ
hmac key bytes = sha256 (masked 92 (key_block key) ++ sha256 (masked 54 (key_block key) ++ bytes))
