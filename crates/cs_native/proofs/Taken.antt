-- Parts that are taken in one after the other are taken in as one.
use Rattle.std.proofs.Common.{◌≡◌, ℕ, ◌+◌, ◌<◌, List, [], ◌∷◌, ◌++◌, length, take, get_or, refl, sym, ap, subst, ◌∙◌, append_assoc, add-one}
use Rattle.std.proofs.lemmas.List.{append-nil}
use Rattle.std.proofs.Math.Seq.{take-suc}
use Rattle.sha2.specs.Hashers.{Holds256}
use Rattle.sha2.specs.declared.Sha256.{Sha256}
use Rattle.cs_base.specs.Fields.{each}
use Rattle.cs_base.proofs.Written.{each-append}
use Rattle.cs_native.specs.Taking.{Takes}

pub none_taken : (hasher : Sha256) → Takes hasher hasher []
none_taken hasher held holds = subst (λ (bytes : List ℕ). Holds256 hasher bytes) (sym (append-nil held)) holds

pub two_taken : (old mid new : Sha256) (front back whole : List ℕ) → whole ≡ front ++ back
    → Takes old mid front → Takes mid new back → Takes old new whole
two_taken old mid new front back whole parts first second held holds =
    subst (λ (bytes : List ℕ). Holds256 new bytes)
    (append_assoc held front back ∙ ap (λ (bytes : List ℕ). held ++ bytes) (sym parts))
    (second (held ++ front) (first held holds))

-- one more turn of a loop
pub each_taken : {X : Type 0} (write : X → List ℕ) (xs : List X) (i : ℕ) (x : X) (old mid new : Sha256)
    → i < length xs → x ≡ get_or xs i x → Takes old mid (each write (take i xs)) → Takes mid new (write x)
    → Takes old new (each write (take (i + 1) xs))
each_taken {X} write xs i x old mid new lt is so_far one =
    let taken : take (i + 1) xs ≡ take i xs ++ x ∷ [] =
    rw add-one (take-suc xs i x lt ∙ ap (λ (y : X). take i xs ++ y ∷ []) (sym is)) in
    let parts : each write (take (i + 1) xs) ≡ each write (take i xs) ++ write x =
    rw taken (each-append write (take i xs) (x ∷ []) ∙ ap (λ (t : List ℕ). each write (take i xs) ++ t) (append-nil (write x))) in
    two_taken old mid new (each write (take i xs)) (write x) (each write (take (i + 1) xs)) parts so_far one

-- bytes are their own encoding
pub each_byte : (bytes : List ℕ) → each (λ n. n ∷ []) bytes ≡ bytes
each_byte [] = refl
each_byte (n ∷ bytes) = ap (λ (rest : List ℕ). n ∷ rest) (each_byte bytes)
