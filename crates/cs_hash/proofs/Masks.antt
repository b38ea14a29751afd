-- A block that is masked byte by byte.
use Rattle.std.proofs.Common.{add-one, ◌≡◌, ℕ, zero, suc, ◌+◌, ◌-◌, ◌<◌, ◌≤◌, List, [], ◌∷◌, ◌++◌, length, set, get_or, take, replicate, refl, ap, arith}
use Rattle.std.specs.Prelude.{bit_xor}
use Rattle.std.proofs.lemmas.List.{take_all}
use Rattle.cs_hash.specs.Hash.{masked, filled_block}

-- the first i bytes are masked
abbrev pub masked_up : ℕ → ℕ → List ℕ → List ℕ
masked_up pad zero block = block
masked_up pad (suc i) [] = []
masked_up pad (suc i) (byte ∷ block) = bit_xor byte pad ∷ masked_up pad i block

pub masked_more : (pad i : ℕ) (block : List ℕ) → i < length block → set (masked_up pad i block) i (bit_xor (get_or (masked_up pad i block) i 0) pad) ≡ masked_up pad (suc i) block
masked_more pad zero [] lt = absurd (omega (arith, lt))
masked_more pad (suc i) [] lt = absurd (omega (arith, lt))
masked_more pad zero (byte ∷ block) lt = refl
masked_more pad (suc i) (byte ∷ block) lt = ap (λ (rest : List ℕ). bit_xor byte pad ∷ rest) (masked_more pad i block (omega (arith, lt)))

pub masked_all : (pad i : ℕ) (block : List ℕ) → length block ≤ i → masked_up pad i block ≡ masked pad block
masked_all pad zero [] le = refl
masked_all pad (suc i) [] le = refl
masked_all pad zero (byte ∷ block) le = absurd (omega (arith, le))
masked_all pad (suc i) (byte ∷ block) le = ap (λ (rest : List ℕ). bit_xor byte pad ∷ rest) (masked_all pad i block (omega (arith, le)))

-- the first i bytes of the key, and so many zeros
filled_on : (key : List ℕ) (i m : ℕ) → i < length key → set (take i key ++ replicate (suc m) 0) i (get_or key i 0) ≡ take (suc i) key ++ replicate m 0
filled_on [] i m lt = absurd (omega (arith, lt))
filled_on (k ∷ key) zero m lt = refl
filled_on (k ∷ key) (suc i) m lt = ap (λ (rest : List ℕ). k ∷ rest) (filled_on key i m (omega (arith, lt)))

pub filled_more : (key : List ℕ) (i n : ℕ) → i < length key → i < n → set (take i key ++ replicate (n - i) 0) i (get_or key i 0) ≡ take (i + 1) key ++ replicate (n - (i + 1)) 0
filled_more key i n lt small =
    let left : n - i ≡ suc (n - (i + 1)) = omega (arith, small) in
    rw (left, add-one) (filled_on key i (n - suc i) lt)

pub masked_on : (pad i : ℕ) (block now : List ℕ) → i < length block → now ≡ masked_up pad i block → set now i (bit_xor (get_or now i 0) pad) ≡ masked_up pad (i + 1) block
masked_on pad i block now lt is = rw (is, add-one) (masked_more pad i block lt)

pub filled_whole : (key block : List ℕ) (i : ℕ) → block ≡ take i key ++ replicate (64 - i) 0 → length key ≤ i → i ≤ length key → block ≡ filled_block key
filled_whole key block i is long short =
    let all : take i key ≡ key = take_all i key long in
    let so_many : i ≡ length key = omega (arith, long, short) in
    rw (is, all, so_many) refl
