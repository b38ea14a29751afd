-- Reading several things one after the other, as a loop does.
use Rattle.std.proofs.Common.{◌≡◌, ℕ, suc, ◌-◌, ◌+◌, ◌≤◌, ◌<◌, List, [], ◌∷◌, ◌++◌, Option, Some, None, refl, sym, ap, ◌∙◌, append_assoc, arith}
use Rattle.std.proofs.lemmas.List.{append-nil}
use Rattle.cs_base.specs.Fields.{Found, ◌>>=◌, ◌<$>◌, many_at, pair_at, behind}

-- what was read before, and what is still read
abbrev pub with_front : {X : Type 0} → List X → Found (List X) → Found (List X)
with_front front found = found >>= λ x. Some (front ++ x.0, x.1)

regroup : {X : Type 0} (front : List X) (n : X) (found : Found (List X)) → with_front front (found >>= λ x. Some (n ∷ x.0, x.1)) ≡ with_front (front ++ n ∷ []) found
regroup {X} front n (Some x) = ap (λ (ns : List X). Some (ns, x.1)) (simp append_assoc)
regroup front n None = refl

pub begins : {X : Type 0} (found : Found (List X)) → with_front [] found ≡ found
begins (Some x) = refl
begins None = refl

pub goes_on : {X : Type 0} (read : List ℕ → Found X) (front : List X) (count i : ℕ) (bytes : List ℕ) (n : X) (after : List ℕ) (total : Found (List X)) → i < count → read bytes ≡ Some (n, after)
    → with_front front (many_at read (count - i) bytes) ≡ total → with_front (front ++ n ∷ []) (many_at read (count - (i + 1)) after) ≡ total
unfolding many_at
goes_on read front count i bytes n after total lt h so_far =
    let k : count - i ≡ suc (count - (i + 1)) = omega arith in
    let one : with_front front (many_at read (count - i) bytes) ≡ with_front (front ++ n ∷ []) (many_at read (count - (i + 1)) after) = rw (k, h) (regroup front n (many_at read (count - (i + 1)) after)) in
    sym one ∙ so_far

pub stops : {X : Type 0} (read : List ℕ → Found X) (front : List X) (count i : ℕ) (bytes : List ℕ) (total : Found (List X)) → i < count → read bytes ≡ None
    → with_front front (many_at read (count - i) bytes) ≡ total → total ≡ None
unfolding many_at
stops read front count i bytes total lt h so_far =
    let k : count - i ≡ suc (count - (i + 1)) = omega arith in
    let one : with_front front (many_at read (count - i) bytes) ≡ None = rw (k, h) refl in
    sym so_far ∙ one

pub is_done : {X : Type 0} (read : List ℕ → Found X) (front : List X) (count i : ℕ) (bytes : List ℕ) (total : Found (List X)) → count ≤ i → with_front front (many_at read (count - i) bytes) ≡ total → total ≡ Some (front, bytes)
unfolding many_at
is_done {X} read front count i bytes total le so_far =
    let k : count - i ≡ 0 = omega arith in
    let one : with_front front (many_at read (count - i) bytes) ≡ Some (front, bytes) = rw k (ap (λ (ns : List X). Some (ns, bytes)) (append-nil front)) in
    sym so_far ∙ one

-- ---- the same without the values

pub behind_map : {A B : Type 0} (f : A → B) (found : Found A) → behind (f <$> found) ≡ behind found
behind_map f (Some x) = refl
behind_map f None = refl

abbrev pairing : {X : Type 0} → X → Option (List ℕ) → Found X
pairing x (Some rest) = Some (x, rest)
pairing x None = None

pub behind_some : {X : Type 0} (found : Found X) (rest : List ℕ) → behind found ≡ Some rest → (x : X) × (found ≡ Some (x, rest))
behind_some {X} (Some x) rest e = (x.0, ap (λ (r : Option (List ℕ)). pairing x.0 r) e)
behind_some None rest e = absurd cc

pub behind_none : {X : Type 0} (found : Found X) → behind found ≡ None → found ≡ None
behind_none (Some x) e = absurd cc
behind_none None e = refl

behind_more : {X : Type 0} (x : X) (found : Found (List X)) → behind (found >>= λ others. Some (x ∷ others.0, others.1)) ≡ behind found
behind_more x (Some xs) = refl
behind_more x None = refl

pub passes_on : {X : Type 0} (read : List ℕ → Found X) (count i : ℕ) (bytes after : List ℕ) (total : Option (List ℕ)) → i < count → behind (read bytes) ≡ Some after
    → behind (many_at read (count - i) bytes) ≡ total → behind (many_at read (count - (i + 1)) after) ≡ total
unfolding many_at
passes_on read count i bytes after total lt h so_far =
    let k : count - i ≡ suc (count - (i + 1)) = omega arith in
    let x = behind_some (read bytes) after h in
    let one : behind (many_at read (count - i) bytes) ≡ behind (many_at read (count - (i + 1)) after) = rw (k, x.1) (behind_more x.0 (many_at read (count - (i + 1)) after)) in
    sym one ∙ so_far

pub passes_not : {X : Type 0} (read : List ℕ → Found X) (count i : ℕ) (bytes : List ℕ) (total : Option (List ℕ)) → i < count → behind (read bytes) ≡ None
    → behind (many_at read (count - i) bytes) ≡ total → total ≡ None
unfolding many_at
passes_not read count i bytes total lt h so_far =
    let k : count - i ≡ suc (count - (i + 1)) = omega arith in
    let x = behind_none (read bytes) h in
    let one : behind (many_at read (count - i) bytes) ≡ None = rw (k, x) refl in
    sym so_far ∙ one

pub passed_all : {X : Type 0} (read : List ℕ → Found X) (count i : ℕ) (bytes : List ℕ) (total : Option (List ℕ)) → count ≤ i → behind (many_at read (count - i) bytes) ≡ total → total ≡ Some bytes
unfolding many_at
passed_all read count i bytes total le so_far =
    let k : count - i ≡ 0 = omega arith in
    let one : behind (many_at read (count - i) bytes) ≡ Some bytes = rw k refl in
    sym so_far ∙ one

behind_second : {X Y : Type 0} (x : X) (found : Found Y) → behind {X = X × Y} (found >>= λ second. Some ((x, second.0), second.1)) ≡ behind found
behind_second x (Some y) = refl
behind_second x None = refl

behind_after : {X Y : Type 0} (found : Found X) (read : List ℕ → Found Y) → behind {X = X × Y} (found >>= λ first. read first.1 >>= λ second. Some ((first.0, second.0), second.1)) ≡ (behind found >>= λ rest. behind (read rest))
behind_after (Some x) read = behind_second x.0 (read x.1)
behind_after None read = refl

pub behind_pair : {X Y : Type 0} (read : List ℕ → Found X) (read2 : List ℕ → Found Y) (bytes : List ℕ) → behind (pair_at read read2 bytes) ≡ (behind (read bytes) >>= λ rest. behind (read2 rest))
unfolding pair_at
behind_pair read read2 bytes = behind_after (read bytes) read2
