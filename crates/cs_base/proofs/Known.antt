-- What several writes append, and what several reads take.
use Rattle.std.specs.Prelude.{◌≡◌, ℕ, ◌+◌, List, ◌∷◌, ◌++◌, take, drop, Option, Result, Ok, Err, OnErr, flat_map, length, ◌<◌}
use Rattle.std.specs.Io.KnownBytes.{Appends}
use Rattle.std.proofs.Common.{sym, ◌∙◌, ap, refl, append_assoc, get_or}
use Rattle.std.proofs.lemmas.List.{take-append-drop, drop_more}
use Rattle.std.proofs.lemmas.Grind.{flat_map-append}
use Rattle.std.proofs.KnownBytes.{Appends-trans}
use Rattle.cs_base.specs.Answers.{AppendsFront}

-- after a write of the first n bytes of the rest, what was written is longer, and the rest is shorter
pub front_grown : (text front rest : List ℕ) (n : ℕ) → text ≡ front ++ rest → text ≡ (front ++ take n rest) ++ drop n rest
front_grown text front rest n whole = whole ∙ rw (append_assoc front (take n rest) (drop n rest), take-append-drop n rest) refl

-- a whole text, and then a front of the next one, is a front of both
pub AppendsFront-after : (a b c : Option (List ℕ)) (one two rest : List ℕ) → Appends a b one → AppendsFront b c two → AppendsFront a c (one ++ two ++ rest)
AppendsFront-after a b c one two rest first_done (front, more, whole, second) =
    (one ++ front, more ++ rest, rw whole (simp append_assoc refl), Appends-trans a b c one front first_done second)

-- nothing was written after a whole text
pub AppendsFront-whole : (a b : Option (List ℕ)) (one rest : List ℕ) → Appends a b one → AppendsFront a b (one ++ rest)
AppendsFront-whole a b one rest done = (one, rest, refl, done)

pub on_err : {T E : Type 0} {P : Type 0} (r : Result T E) → P → OnErr r P
on_err (Ok x) p = tt
on_err (Err e) p = p

-- the pieces before one, that piece, and the pieces after it
pub flat_map_at : {X : Type 0} (f : X → List ℕ) (xs : List X) (i : ℕ) (x : X) → i < length xs → x ≡ get_or xs i x → flat_map f xs ≡ flat_map f (take i xs) ++ f x ++ flat_map f (drop (i + 1) xs)
flat_map_at f xs i x within is =
    ap (λ ys. flat_map f ys) (sym (take-append-drop i xs)) ∙ rw (drop_more xs i x within, ← is, flat_map-append f (take i xs) (x ∷ drop (i + 1) xs)) (sym (append_assoc (flat_map f (take i xs)) (f x) (flat_map f (drop (i + 1) xs))))

-- the pieces before one were written, and no more
pub stopped_before : {X : Type 0} (f : X → List ℕ) (xs : List X) (i : ℕ) (a b : Option (List ℕ)) → Appends a b (flat_map f (take i xs)) → AppendsFront a b (flat_map f xs)
stopped_before f xs i a b done =
    (flat_map f (take i xs), flat_map f (drop i xs), ap (λ ys. flat_map f ys) (sym (take-append-drop i xs)) ∙ flat_map-append f (take i xs) (drop i xs), done)

-- the pieces before one were written, and a front of that one
pub stopped_within : {X : Type 0} (f : X → List ℕ) (xs : List X) (i : ℕ) (x : X) (a b c : Option (List ℕ)) → i < length xs → x ≡ get_or xs i x
    → Appends a b (flat_map f (take i xs)) → AppendsFront b c (f x) → AppendsFront a c (flat_map f xs)
stopped_within f xs i x a b c within is done front =
    rw (flat_map_at f xs i x within is) (AppendsFront-after a b c (flat_map f (take i xs)) (f x) (flat_map f (drop (i + 1) xs)) done front)
