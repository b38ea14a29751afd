-- What stands at a place of a file, by what was read there.
use Rattle.std.proofs.Common.{◌≡◌, ◌≢◌, Bool, true, false, ℕ, suc, ◌+◌, ◌<◌, ◌≤◌, List, [], ◌∷◌, ◌++◌, length, get_or, take, drop, refl, sym, subst, ◌∙◌, ap, arith, take-append-drop}
use Rattle.std.specs.Prelude.{not}
use Rattle.std.specs.Str.{bytes_eq}
use Rattle.std.proofs.lemmas.Bool.{false≢true}
use Rattle.std.proofs.lemmas.Slice.Eq.{bytes_eq-Decides}
use Rattle.std.specs.Int.{w32, to_be_bytes, from_be_bytes}
use Rattle.std.proofs.lemmas.List.{take_at, drop_more, drop-drop}
use Rattle.std.proofs.lemmas.Nat.{be_bytes_4}

-- one byte
pub one_byte : (file buf : List ℕ) (at : ℕ) → at + 1 ≤ length file → buf ≡ take 1 (drop at file) → drop at file ≡ get_or buf 0 0 ∷ drop (at + 1) file
one_byte file buf at within read =
    let here : drop at file ≡ get_or file at 0 ∷ drop (at + 1) file = drop_more file at 0 (omega arith) in
    let first : buf ≡ get_or file at 0 ∷ [] = read ∙ ap (take 1) here in
    here ∙ ap (λ b. b ∷ drop (at + 1) file) (sym (ap (λ l. get_or l 0 0) first))

-- so many bytes, and what stands behind them
pub some_bytes : (file buf : List ℕ) (at n : ℕ) → buf ≡ take n (drop at file) → drop at file ≡ buf ++ drop (at + n) file
some_bytes file buf at n read =
    sym (take-append-drop n (drop at file)) ∙ ap (λ l. l ++ drop n (drop at file)) (sym read) ∙ ap (λ l. buf ++ l) (drop-drop n at file)

-- a kind, and a number in four bytes
pub kind_and_count : (buf : List ℕ) (count : ℕ) → length buf ≡ 5 → ((i : ℕ) → get_or buf i 0 < 256) → count ≡ from_be_bytes w32 (get_or buf 1 0 ∷ get_or buf 2 0 ∷ get_or buf 3 0 ∷ get_or buf 4 0 ∷ [])
    → buf ≡ get_or buf 0 0 ∷ to_be_bytes w32 count
kind_and_count [] count size fit is = absurd (omega arith)
kind_and_count (kind ∷ []) count size fit is = absurd (omega arith)
kind_and_count (kind ∷ a ∷ []) count size fit is = absurd (omega arith)
kind_and_count (kind ∷ a ∷ b ∷ []) count size fit is = absurd (omega arith)
kind_and_count (kind ∷ a ∷ b ∷ c ∷ []) count size fit is = absurd (omega arith)
kind_and_count (kind ∷ a ∷ b ∷ c ∷ d ∷ []) count size fit is = ap (λ l. kind ∷ l) (sym (be_bytes_4 (a ∷ b ∷ c ∷ d ∷ []) count refl (λ i. fit (suc i)) is))
kind_and_count (kind ∷ a ∷ b ∷ c ∷ d ∷ e ∷ more) count size fit is = absurd (omega arith)

-- which stand behind a gate
pub behind_gate : (file buf : List ℕ) (at kind count : ℕ) → length buf ≡ 5 → buf ≡ take (length buf) (drop (at + 1) file) → buf ≡ kind ∷ to_be_bytes w32 count → drop (at + 1) file ≡ kind ∷ to_be_bytes w32 count ++ drop (at + 6) file
behind_gate file buf at kind count size read is =
    let five : buf ≡ take 5 (drop (at + 1) file) = subst (λ n. buf ≡ take n (drop (at + 1) file)) size read in
    let place : at + 1 + 5 ≡ at + 6 = omega arith in
    some_bytes file buf (at + 1) 5 five ∙ ap (λ l. l ++ drop (at + 1 + 5) file) is ∙ ap (λ n. kind ∷ to_be_bytes w32 count ++ drop n file) place

-- the bytes of a datagram, which stand in the front of a longer buffer
pub front_bytes : (file front back buf : List ℕ) (start n : ℕ) → buf ≡ front ++ back → length front ≡ n → front ≡ take n (drop start file) → drop start file ≡ take n buf ++ drop (start + n) file
front_bytes file front back buf start n parts size read =
    let same : take n buf ≡ front = ap (take n) parts ∙ take_at front back n size in
    some_bytes file front start n read ∙ ap (λ l. l ++ drop (start + n) file) (sym same)

-- two texts that were compared
not_false : (t : Bool) → not t ≡ false → t ≡ true
not_false true is = refl
not_false false is = absurd (false≢true (sym is))

pub texts_differ : (a b : List ℕ) (differ : Bool) → differ ≡ not (bytes_eq a b) → differ ≡ true → a ≢ b
texts_differ a b differ is so same = false≢true (sym (ap not ((bytes_eq-Decides a b).1 same)) ∙ sym is ∙ so)

pub texts_same : (a b : List ℕ) (differ : Bool) → differ ≡ not (bytes_eq a b) → differ ≡ false → a ≡ b
texts_same a b differ is so = (bytes_eq-Decides a b).0 (not_false (bytes_eq a b) (sym is ∙ so))
