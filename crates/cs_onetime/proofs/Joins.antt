-- Lists that are made place by place.
use Rattle.std.proofs.Common.{add-one, ◌≡◌, ℕ, zero, suc, ◌+◌, ◌-◌, ◌*◌, ◌<◌, ◌≤◌, List, [], ◌∷◌, ◌++◌, length, length-append, append_assoc, get_or, take, drop, refl, sym, ap, subst, ◌∙◌, inl, inr, arith}
use Rattle.std.proofs.lemmas.Bool.{cases_lt}
use Rattle.std.proofs.lemmas.List.{take-append-le, drop-append-le, length-drop, take_all, get_or_append_left}
use Rattle.std.proofs.Math.Seq.{drop-append_seam, get_or-append_seam}
use Rattle.std.proofs.Math.Nat.{mul-suc, mul-zero, mul-le-mul_left}
use Rattle.sha2.specs.Hashers.{Holds256}
use Rattle.sha2.specs.declared.Sha256.{Sha256}
use Rattle.cs_onetime.specs.Lists.{listed, joined}

pub listed_none : {A : Type 0} (at : ℕ → A) → listed at 0 ≡ []
unfolding listed
listed_none at = refl

pub joined_none : (at : ℕ → List ℕ) → joined at 0 ≡ []
unfolding joined
joined_none at = refl

pub listed_more : {A : Type 0} (at : ℕ → A) (n : ℕ) → listed at (n + 1) ≡ listed at n ++ at n ∷ []
unfolding listed
listed_more at n = rw add-one refl

pub joined_more : (at : ℕ → List ℕ) (n : ℕ) → joined at (n + 1) ≡ joined at n ++ at n
unfolding joined
joined_more at n = rw add-one refl

pub length-listed : {A : Type 0} (at : ℕ → A) (n : ℕ) → length (listed at n) ≡ n
unfolding listed
length-listed at zero = refl
length-listed at (suc n) = length-append (listed at n) (at n ∷ []) ∙ (let so_far = length-listed at n in omega arith)

pub get_or-listed : {A : Type 0} (at : ℕ → A) (n k : ℕ) (d : A) → k < n → get_or (listed at n) k d ≡ at k
unfolding listed
get_or-listed at zero k d lt = absurd (omega (arith, lt))
get_or-listed {A} at (suc n) k d lt =
    let count : length (listed at n) ≡ n = length-listed at n in
    elim (cases_lt k n) [
      | inl below ↦ get_or_append_left (listed at n) (at n ∷ []) d k (omega (arith, count, below)) ∙ get_or-listed at n k d below
      | inr past ↦
          let same : k ≡ length (listed at n) = omega (arith, count, past, lt) in
          let last : k ≡ n = omega (arith, past, lt) in
          ap (λ (i : ℕ). get_or (listed at n ++ at n ∷ []) i d) same ∙ (get_or-append_seam (listed at n) (at n) [] d ∙ ap at (sym last))
    ]

rooms : (k n size : ℕ) → k < n → size * k + size ≤ size * n
rooms k n size lt = let le : suc k ≤ n = omega (arith, lt) in subst (λ (i : ℕ). i ≤ size * n) (mul-suc size k) (mul-le-mul_left size le)

pub length-joined : (at : ℕ → List ℕ) (size : ℕ) → ((k : ℕ) → length (at k) ≡ size) → (n : ℕ) → length (joined at n) ≡ size * n
unfolding joined
length-joined at size each zero = sym (mul-zero size)
length-joined at size each (suc n) =
    let so_far = length-joined at size each n in
    let here = each n in
    length-append (joined at n) (at n) ∙ (let last : size * suc n ≡ size * n + size = mul-suc size n in omega (arith, so_far, here, last))

-- of pieces of one size, each is found at its place
pub piece-joined : (at : ℕ → List ℕ) (size : ℕ) → ((k : ℕ) → length (at k) ≡ size) → (n k : ℕ) → k < n → take size (drop (size * k) (joined at n)) ≡ at k
unfolding joined
piece-joined at size each zero k lt = absurd (omega (arith, lt))
piece-joined at size each (suc n) k lt =
    let count : length (joined at n) ≡ size * n = length-joined at size each n in
    elim (cases_lt k n) [
      | inl below ↦
          let room : size * k + size ≤ size * n = rooms k n size below in
          let inside : size * k ≤ length (joined at n) = omega (arith, room, count) in
          let behind : length (drop (size * k) (joined at n)) ≡ length (joined at n) - size * k = length-drop (size * k) (joined at n) in
          let enough : size ≤ length (drop (size * k) (joined at n)) = omega (arith, room, count, behind) in
          ap (λ (l : List ℕ). take size l) (drop-append-le (size * k) (joined at n) (at n) inside)
          ∙ (take-append-le size (drop (size * k) (joined at n)) (at n) enough ∙ piece-joined at size each n k below)
      | inr past ↦
          let last : k ≡ n = omega (arith, past, lt) in
          let same : size * k ≡ length (joined at n) = ap (λ (i : ℕ). size * i) last ∙ sym count in
          ap (λ (i : ℕ). take size (drop i (joined at n ++ at n))) same
          ∙ (ap (λ (l : List ℕ). take size l) (drop-append_seam (joined at n) (at n))
          ∙ (take_all size (at n) (let here = each n in omega (arith, here)) ∙ ap at (sym last)))
    ]

-- what is alike at each place is alike
pub joined-same : (one other : ℕ → List ℕ) (n : ℕ) → ((k : ℕ) → k < n → one k ≡ other k) → joined one n ≡ joined other n
unfolding joined
joined-same one other zero each = refl
joined-same one other (suc n) each =
    rw (joined-same one other n (λ k lt. each k (omega (arith, lt))), each n (omega arith)) refl

-- ---- a hasher that holds them

pub holds_none : (hasher : Sha256) (at : ℕ → List ℕ) → Holds256 hasher [] → Holds256 hasher (joined at 0)
holds_none hasher at = subst (λ (bytes : List ℕ). Holds256 hasher bytes) (sym (joined_none at))

-- one more piece, in two parts
pub holds_more : (hasher : Sha256) (at : ℕ → List ℕ) (n : ℕ) (front back : List ℕ) → at n ≡ front ++ back → Holds256 hasher ((joined at n ++ front) ++ back) → Holds256 hasher (joined at (n + 1))
holds_more hasher at n front back parts =
    subst (λ (bytes : List ℕ). Holds256 hasher bytes) (append_assoc (joined at n) front back ∙ (ap (λ (l : List ℕ). joined at n ++ l) (sym parts) ∙ sym (joined_more at n)))
