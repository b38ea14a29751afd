-- Parts of lists that are read from the front.
use Rattle.std.specs.Prelude.{◌≡◌, ℕ, ◌+◌, List, ◌++◌, take, drop}
use Rattle.std.proofs.Common.{sym}
use Rattle.std.proofs.lemmas.List.{take-append-drop, drop-drop}

-- what is left is its first n items, as a buffer holds them, and what is left after them
pub front_taken : (bytes buf : List ℕ) (at n : ℕ) → take n buf ≡ take n (drop at bytes) → drop at bytes ≡ take n buf ++ drop (at + n) bytes
front_taken bytes buf at n is = rw (is, ← drop-drop n at bytes) (sym (take-append-drop n (drop at bytes)))
