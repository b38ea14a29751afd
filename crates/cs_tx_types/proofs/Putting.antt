-- What is written behind its length.
use Rattle.std.proofs.Common.{◌≡◌, ℕ, List, ◌++◌, length, Result, Ok, Err, OnOk, ap, ◌∙◌, append_assoc}
use Rattle.std.specs.Int.{w32, to_be_bytes}
use Rattle.cs_tx_types.specs.Sized.{sized}

pub put-sized : {X T E : Type 0} (r : Result T E) (encoding : X → List ℕ) (x : X) (old between new : List ℕ) (n : ℕ)
    → n ≡ length (encoding x) → between ≡ old ++ to_be_bytes w32 n → OnOk r (new ≡ between ++ encoding x) → OnOk r (new ≡ old ++ sized encoding x)
unfolding sized
put-sized {X} {T} {E} (Ok done) encoding x old between new n size is all =
    all
    ∙ ap (λ (front : List ℕ). front ++ encoding x) (is ∙ ap (λ (k : ℕ). old ++ to_be_bytes w32 k) size)
    ∙ append_assoc old (to_be_bytes w32 (length (encoding x))) (encoding x)
put-sized {X} {T} {E} (Err e) encoding x old between new n size is all = tt
