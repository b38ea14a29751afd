-- Keys are ordered as the bytes that they are encoded by.
use Rattle.std.specs.Prelude.{◌≡◌, ℕ, zero, suc, ◌+◌, ◌*◌, ◌/◌, ◌%◌, ◌^◌, ◌<◌, ◌≤◌, List, [], ◌∷◌, ◌++◌, length}
use Rattle.std.specs.Ordering.{nat_cmp, ordering_then}
use Rattle.std.specs.Cmp.{nat_cmp_is}
use Rattle.std.specs.Cmp.Lexicographic.{slice_cmp}
use Rattle.std.specs.Int.{w16, w64, bytes_high_first, byte_at, to_be_bytes}
use Rattle.std.proofs.Common.{Ordering, Less, Equal, Greater, sym, ◌∙◌, ap, refl, arith, inl, inr}
use Rattle.std.proofs.lemmas.Bool.{cases_lt}
use Rattle.std.proofs.Math.Arith.{mod-mul}
use Rattle.std.proofs.Math.Nat.{mod-lt, mod-one, mod-eq_of_lt, div-one, mul-le-mul_right, pow-succ'}
use Rattle.cs_base.specs.Key.{key_bytes}
use Rattle.cs_base.specs.declared.key.Key.TheVariants.{Dummy}

pub nat_cmp-less : (x y : ℕ) → x < y → nat_cmp x y ≡ Less
nat_cmp-less x y less = sym (nat_cmp_is x y Less less)

pub nat_cmp-equal : (x y : ℕ) → x ≡ y → nat_cmp x y ≡ Equal
nat_cmp-equal x y same = sym (nat_cmp_is x y Equal same)

pub nat_cmp-greater : (x y : ℕ) → y < x → nat_cmp x y ≡ Greater
nat_cmp-greater x y more = sym (nat_cmp_is x y Greater more)

-- ---- of two numbers of two digits the high ones decide, and then the low ones

high_digits : (a b x y base : ℕ) → a < b → x < base → a * base + x < b * base + y
high_digits a b x y base less small =
    let next : a + 1 ≤ b = omega arith in
    let above : (a + 1) * base ≤ b * base = mul-le-mul_right base next in
    let grown : (a + 1) * base ≡ a * base + base = omega arith in
    omega arith

nat_cmp-add : (k l x y : ℕ) → k ≡ l → nat_cmp x y ≡ nat_cmp (k + x) (l + y)
nat_cmp-add k l x y same =
    elim (cases_lt x y) [
      | inl less ↦ rw (nat_cmp-less x y less) (nat_cmp_is (k + x) (l + y) Less (omega arith))
      | inr at_least ↦ elim (cases_lt y x) [
        | inl more ↦ rw (nat_cmp-greater x y more) (nat_cmp_is (k + x) (l + y) Greater (omega arith))
        | inr at_most ↦
            let level : x ≡ y = omega arith in
            rw (nat_cmp-equal x y level) (nat_cmp_is (k + x) (l + y) Equal (omega arith))
      ]
    ]

digits_cmp : (a b x y base : ℕ) → x < base → y < base → ordering_then (nat_cmp a b) (nat_cmp x y) ≡ nat_cmp (a * base + x) (b * base + y)
digits_cmp a b x y base low low' =
    elim (cases_lt a b) [
      | inl less ↦ rw (nat_cmp-less a b less) (nat_cmp_is (a * base + x) (b * base + y) Less (high_digits a b x y base less low))
      | inr at_least ↦ elim (cases_lt b a) [
        | inl more ↦ rw (nat_cmp-greater a b more) (nat_cmp_is (a * base + x) (b * base + y) Greater (high_digits b a y x base more low'))
        | inr at_most ↦
            let level : a ≡ b = omega arith in
            rw (nat_cmp-equal a b level) (nat_cmp-add (a * base) (b * base) x y (ap (λ n. n * base) level))
      ]
    ]

-- ---- the bytes of numbers, the highest first, are ordered as the numbers

byte_at-div : (k n : ℕ) → byte_at k n ≡ n / 256 ^ k % 256
byte_at-div zero n = sym (ap (λ m. m % 256) (div-one n))
byte_at-div (suc k) n = refl

above_zero : (k : ℕ) → 0 < 256 ^ k
above_zero zero = omega arith
above_zero (suc k) = let before = above_zero k in rw (pow-succ' 256 k) (omega arith)

more_digits : (k n : ℕ) → n % 256 ^ suc k ≡ byte_at k n * 256 ^ k + n % 256 ^ k
more_digits k n = rw (pow-succ' 256 k, byte_at-div k n) (mod-mul n (omega arith) (above_zero k))

bytes_cmp : (k n m : ℕ) → slice_cmp nat_cmp (bytes_high_first k n) (bytes_high_first k m) ≡ nat_cmp (n % 256 ^ k) (m % 256 ^ k)
bytes_cmp zero n m = nat_cmp_is _ _ Equal (mod-one n ∙ sym (mod-one m))
bytes_cmp (suc k) n m =
    rw (bytes_cmp k n m, more_digits k n, more_digits k m)
    (digits_cmp (byte_at k n) (byte_at k m) (n % 256 ^ k) (m % 256 ^ k) (256 ^ k) (mod-lt n (above_zero k)) (mod-lt m (above_zero k)))

to_be_bytes-16 : (n m : ℕ) → n < 2 ^ 16 → m < 2 ^ 16 → slice_cmp nat_cmp (to_be_bytes w16 n) (to_be_bytes w16 m) ≡ nat_cmp n m
to_be_bytes-16 n m small small' = bytes_cmp 2 n m ∙ rw (mod-eq_of_lt small, mod-eq_of_lt small') refl

to_be_bytes-64 : (n m : ℕ) → n < 2 ^ 64 → m < 2 ^ 64 → slice_cmp nat_cmp (to_be_bytes w64 n) (to_be_bytes w64 m) ≡ nat_cmp n m
to_be_bytes-64 n m small small' = bytes_cmp 8 n m ∙ rw (mod-eq_of_lt small, mod-eq_of_lt small') refl

ordering_then-assoc : (a b c : Ordering) → ordering_then (ordering_then a b) c ≡ ordering_then a (ordering_then b c)
ordering_then-assoc Less b c = refl
ordering_then-assoc Equal b c = refl
ordering_then-assoc Greater b c = refl

-- of lists of one length the fronts decide, and then the rests
slice_cmp-append : (a b c d : List ℕ) → length a ≡ length b → slice_cmp nat_cmp (a ++ c) (b ++ d) ≡ ordering_then (slice_cmp nat_cmp a b) (slice_cmp nat_cmp c d)
slice_cmp-append [] [] c d long = refl
slice_cmp-append [] (y ∷ ys) c d long = absurd (omega arith)
slice_cmp-append (x ∷ xs) [] c d long = absurd (omega arith)
slice_cmp-append (x ∷ xs) (y ∷ ys) c d long =
    ap (λ o. ordering_then (nat_cmp x y) o) (slice_cmp-append xs ys c d (omega arith)) ∙ sym (ordering_then-assoc (nat_cmp x y) (slice_cmp nat_cmp xs ys) (slice_cmp nat_cmp c d))

pub dummies_cmp : (shard shard' serial serial' : ℕ) → shard < 2 ^ 16 → shard' < 2 ^ 16 → serial < 2 ^ 64 → serial' < 2 ^ 64
    → slice_cmp nat_cmp (key_bytes (Dummy shard serial)) (key_bytes (Dummy shard' serial')) ≡ ordering_then (nat_cmp shard shard') (nat_cmp serial serial')
dummies_cmp shard shard' serial serial' a b c d =
    slice_cmp-append (to_be_bytes w16 shard) (to_be_bytes w16 shard') (to_be_bytes w64 serial) (to_be_bytes w64 serial') refl
    ∙ rw (to_be_bytes-16 shard shard' a b, to_be_bytes-64 serial serial' c d) refl
