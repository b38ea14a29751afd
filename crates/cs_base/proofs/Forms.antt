-- What a reader finds is what was written, and what was written is found again.
use Rattle.std.proofs.Common.{◌≡◌, ℕ, zero, suc, ◌+◌, ◌-◌, ◌^◌, ◌<◌, ◌≤◌, Bool, true, false, cond, ltb, leb, eqb, List, [], ◌∷◌, ◌++◌, length, take, drop, Option, Some, None, refl, sym, ap, subst, ◌∙◌, append_assoc, arith, inl, inr}
use Rattle.std.specs.List.{AllByRecursion}
use Rattle.std.specs.Int.{Width, w8, w16, w32, w64, byte_len, from_be_bytes, to_be_bytes}
use Rattle.std.proofs.lemmas.Bool.{eqb-true, cases_lt, ltb-false, le-ltb, leb-true, le-leb}
use Rattle.std.proofs.lemmas.List.{append-nil, nil_from_length, take_at, drop_at, take-append-drop, length-append, length-take, get_or-drop, get_or-take, get_or_past}
use Rattle.std.proofs.lemmas.Nat.{be_bytes_2, be_bytes_4, be_bytes_8, from_be_bytes-to_be_bytes_2, from_be_bytes-to_be_bytes_4, from_be_bytes-to_be_bytes_8}
use Rattle.cs_base.specs.Fields.{IsBytes, each, counted, Found, ◌>>=◌, ◌<$>◌, bytes_at, number_at, upto_at, many_at, counted_at, some_at, pair_at, tested_at, within_at, Splits, IsForm, whole_at}

pub IsBytes-drop : (n : ℕ) (bytes : List ℕ) → IsBytes bytes → IsBytes (drop n bytes)
IsBytes-drop n bytes h i = rw get_or-drop (h (n + i))

pub IsBytes-take : (n : ℕ) (bytes : List ℕ) → IsBytes bytes → IsBytes (take n bytes)
IsBytes-take n bytes h i =
    elim (cases_lt i n) [
      | inl lt ↦ rw (get_or-take n bytes i 0 lt) (h i)
      | inr le ↦ rw (get_or_past (take n bytes) i 0 (omega (arith, length-take n bytes))) (omega arith)
    ]

-- ---- steps that find something

pub bind_some : {A B : Type 0} (r : Option A) (f : A → Option B) (y : B) → (r >>= f) ≡ Some y → (x : A) × (r ≡ Some x) × (f x ≡ Some y)
bind_some (Some x) f y e = (x, refl, e)
bind_some None f y e = absurd cc

abbrev there : {A : Type 0} → A → Option A
there x = Some x

pub some_is : {A : Type 0} (x y : A) → there x ≡ there y → x ≡ y
some_is x y e = cc

pub map_some : {A B : Type 0} (f : A → B) (r : Found A) (y : B × List ℕ) → (f <$> r) ≡ Some y → (x : A × List ℕ) × (r ≡ Some x) × ((f x.0, x.1) ≡ y)
map_some f (Some x) y e = (x, refl, some_is _ _ e)
map_some f None y e = absurd cc

pub unless_some : {A : Type 0} (b : Bool) (x y : A) → cond b None (Some x) ≡ Some y → (b ≡ false) × (x ≡ y)
unless_some true x y e = absurd cc
unless_some false x y e = (refl, cc)

pub when_some : {A : Type 0} (b : Bool) (r : Option A) (y : A) → cond b r None ≡ Some y → (b ≡ true) × (r ≡ Some y)
when_some true r y e = (refl, e)
when_some false r y e = absurd cc

-- ---- forms

pub Takes-then : (a x b y c : List ℕ) → Splits a x b → Splits b y c → Splits a (x ++ y) c
Takes-then a x b y c p q = record { parts = p.parts ∙ ap (λ (t : List ℕ). x ++ t) q.parts ∙ sym (append_assoc x y c); rest_fits = q.rest_fits }

-- ---- numbers

pub record IsWide (w : Width) (limit : ℕ) : Type 0 where
  pub len : (n : ℕ) → length (to_be_bytes w n) ≡ byte_len w
  pub back : (bytes : List ℕ) → length bytes ≡ byte_len w → IsBytes bytes → to_be_bytes w (from_be_bytes w bytes) ≡ bytes
  pub again : (n : ℕ) → n < limit → from_be_bytes w (to_be_bytes w n) ≡ n
  pub below : (bytes : List ℕ) → IsBytes bytes → from_be_bytes w bytes < limit

pub wide16 : IsWide w16 (2 ^ 16)
wide16 = record {
  len = λ n. refl;
  back = λ bytes len fits. be_bytes_2 bytes _ len fits refl;
  again = λ n lt. from_be_bytes-to_be_bytes_2 n lt;
  below = λ bytes fits. omega (arith, fits 0, fits 1);
}

pub wide32 : IsWide w32 (2 ^ 32)
wide32 = record {
  len = λ n. refl;
  back = λ bytes len fits. be_bytes_4 bytes _ len fits refl;
  again = λ n lt. from_be_bytes-to_be_bytes_4 n lt;
  below = λ bytes fits. omega (arith, fits 0, fits 1, fits 2, fits 3);
}

pub wide64 : IsWide w64 (2 ^ 64)
wide64 = record {
  len = λ n. refl;
  back = λ bytes len fits. be_bytes_8 bytes _ len fits refl;
  again = λ n lt. from_be_bytes-to_be_bytes_8 n lt;
  below = λ bytes fits. omega (arith, fits 0, fits 1, fits 2, fits 3, fits 4, fits 5, fits 6, fits 7);
}

number-takes : (w : Width) (limit : ℕ) (wide : IsWide w limit) (bytes : List ℕ) (n : ℕ) (rest : List ℕ) → IsBytes bytes → number_at w bytes ≡ Some (n, rest) → Splits bytes (to_be_bytes w n) rest × (n < limit)
number-takes w limit wide bytes n rest fits e =
    let g = unless_some (ltb (length bytes) (byte_len w)) (from_be_bytes w (take (byte_len w) bytes), drop (byte_len w) bytes) (n, rest) e in
    let long : byte_len w ≤ length bytes = ltb-false _ _ g.0 in
    let n-is : from_be_bytes w (take (byte_len w) bytes) ≡ n = ap (λ (p : ℕ × List ℕ). p.0) g.1 in
    let rest-is : drop (byte_len w) bytes ≡ rest = ap (λ (p : ℕ × List ℕ). p.1) g.1 in
    let front : to_be_bytes w n ≡ take (byte_len w) bytes = rw (← n-is) (wide.back (take (byte_len w) bytes) (omega (arith, length-take (byte_len w) bytes)) (IsBytes-take (byte_len w) bytes fits)) in
    (record { parts = rw (front, ← rest-is) (sym (take-append-drop (byte_len w) bytes)); rest_fits = rw (← rest-is) (IsBytes-drop (byte_len w) bytes fits) }, rw (← n-is) (wide.below (take (byte_len w) bytes) (IsBytes-take (byte_len w) bytes fits)))

number-again : (w : Width) (limit : ℕ) (wide : IsWide w limit) (n : ℕ) (rest : List ℕ) → n < limit → number_at w (to_be_bytes w n ++ rest) ≡ Some (n, rest)
number-again w limit wide n rest lt =
    let len = wide.len n in
    let long : ltb (length (to_be_bytes w n ++ rest)) (byte_len w) ≡ false = le-ltb _ _ (omega (arith, length-append (to_be_bytes w n) rest)) in
    rw (long, take_at (to_be_bytes w n) rest (byte_len w) len, drop_at (to_be_bytes w n) rest (byte_len w) len, wide.again n lt) refl

pub number_form : (w : Width) (limit : ℕ) → IsWide w limit → IsForm (to_be_bytes w) (λ n. n < limit) (number_at w)
number_form w limit wide = record { takes = number-takes w limit wide; again = number-again w limit wide }

byte-takes : (bytes : List ℕ) (n : ℕ) (rest : List ℕ) → IsBytes bytes → number_at w8 bytes ≡ Some (n, rest) → Splits bytes (n ∷ []) rest × (n < 256)
byte-takes [] n rest fits e = absurd cc
byte-takes (b ∷ bytes) n rest fits e =
    let g = unless_some (ltb (suc (length bytes)) 1) (b, bytes) (n, rest) e in
    subst (λ (p : ℕ × List ℕ). Splits (b ∷ bytes) (p.0 ∷ []) p.1 × (p.0 < 256)) g.1 (record { parts = refl; rest_fits = λ i. fits (suc i) }, fits 0)

byte-again : (n : ℕ) (rest : List ℕ) → n < 256 → number_at w8 (n ∷ rest) ≡ Some (n, rest)
byte-again n rest lt =
    let long : ltb (suc (length rest)) 1 ≡ false = le-ltb _ _ (omega arith) in
    rw long refl

pub byte_form : IsForm (λ n. n ∷ []) (λ n. n < 256) (number_at w8)
byte_form = record { takes = byte-takes; again = byte-again }

-- ---- so many bytes

bytes-takes : (n : ℕ) (bytes text rest : List ℕ) → IsBytes bytes → bytes_at n bytes ≡ Some (text, rest) → Splits bytes text rest × ((length text ≡ n) × IsBytes text)
bytes-takes n bytes text rest fits e =
    let g = unless_some (ltb (length bytes) n) (take n bytes, drop n bytes) (text, rest) e in
    let long : n ≤ length bytes = ltb-false _ _ g.0 in
    subst (λ (p : List ℕ × List ℕ). Splits bytes p.0 p.1 × ((length p.0 ≡ n) × IsBytes p.0)) g.1
    (record { parts = sym (take-append-drop n bytes); rest_fits = IsBytes-drop n bytes fits }, (omega (arith, length-take n bytes), IsBytes-take n bytes fits))

bytes-again : (n : ℕ) (text rest : List ℕ) → (length text ≡ n) × IsBytes text → bytes_at n (text ++ rest) ≡ Some (text, rest)
bytes-again n text rest fits =
    let len : length text ≡ n = fits.0 in
    let long : ltb (length (text ++ rest)) n ≡ false = le-ltb _ _ (omega (arith, length-append text rest, fits.0)) in
    rw (long, take_at text rest n len, drop_at text rest n len) refl

pub bytes_form : (n : ℕ) → IsForm (λ text. text) (λ text. (length text ≡ n) × IsBytes text) (bytes_at n)
bytes_form n = record { takes = bytes-takes n; again = bytes-again n }

-- ---- forms made of forms

module _ {X : Type 0} (write : X → List ℕ) (Fits : X → Type 0) (read : List ℕ → Found X) (form : IsForm write Fits read) where
  many-takes : (n : ℕ) (bytes : List ℕ) (xs : List X) (rest : List ℕ) → IsBytes bytes → many_at read n bytes ≡ Some (xs, rest) → Splits bytes (each write xs) rest × ((length xs ≡ n) × AllByRecursion Fits xs)
  unfolding many_at
  many-takes zero bytes xs rest fits e =
      subst (λ (p : List X × List ℕ). Splits bytes (each write p.0) p.1 × ((length p.0 ≡ 0) × AllByRecursion Fits p.0)) (some_is ([], bytes) (xs, rest) e) (record { parts = refl; rest_fits = fits }, (refl, tt))
  many-takes (suc n) bytes xs rest fits e =
      let a = bind_some (read bytes) (λ first. many_at read n first.1 >>= λ others. Some (first.0 ∷ others.0, others.1)) (xs, rest) e in
      let b = bind_some (many_at read n a.0.1) (λ others. Some (a.0.0 ∷ others.0, others.1)) (xs, rest) a.2 in
      let first = form.takes bytes a.0.0 a.0.1 fits a.1 in
      let others = many-takes n a.0.1 b.0.0 b.0.1 first.0.rest_fits b.1 in
      let both = Takes-then bytes (write a.0.0) a.0.1 (each write b.0.0) b.0.1 first.0 others.0 in
      subst (λ (p : List X × List ℕ). Splits bytes (each write p.0) p.1 × ((length p.0 ≡ suc n) × AllByRecursion Fits p.0)) (some_is (a.0.0 ∷ b.0.0, b.0.1) (xs, rest) b.2) (both, (ap suc others.1.0, (first.1, others.1.1)))

  many-again : (n : ℕ) (xs : List X) (rest : List ℕ) → (length xs ≡ n) × AllByRecursion Fits xs → many_at read n (each write xs ++ rest) ≡ Some (xs, rest)
  unfolding many_at
  many-again zero [] rest fits = refl
  many-again zero (x ∷ xs) rest fits = absurd (omega (arith, fits.0))
  many-again (suc n) [] rest fits = absurd (omega (arith, fits.0))
  many-again (suc n) (x ∷ xs) rest fits =
      let regrouped : each write (x ∷ xs) ++ rest ≡ write x ++ (each write xs ++ rest) = append_assoc (write x) (each write xs) rest in
      ap (many_at read (suc n)) regrouped ∙ rw (form.again x (each write xs ++ rest) fits.1.0, many-again n xs rest (omega (arith, fits.0), fits.1.1)) refl

  pub many_form : (n : ℕ) → IsForm (each write) (λ xs. (length xs ≡ n) × AllByRecursion Fits xs) (many_at read n)
  many_form n = record { takes = many-takes n; again = many-again n }

  pub tested_form : (test : X → Bool) → IsForm write (λ x. Fits x × (test x ≡ true)) (tested_at test read)
  unfolding tested_at
  tested_form test = record {
    takes = λ bytes x rest fits e.
        let a = bind_some (read bytes) (λ found. cond (test found.0) (Some found) None) (x, rest) e in
        let g = when_some (test a.0.0) (Some a.0) (x, rest) a.2 in
        let t = form.takes bytes a.0.0 a.0.1 fits a.1 in
        subst (λ (p : X × List ℕ). Splits bytes (write p.0) p.1 × (Fits p.0 × (test p.0 ≡ true))) (some_is a.0 (x, rest) g.1) (t.0, (t.1, g.0));
    again = λ x rest fits. rw (form.again x rest fits.0, fits.1) refl;
  }

  pub within_form : (most : ℕ) → IsForm write (λ x. Fits x × (length (write x) ≤ most)) (within_at most read)
  unfolding within_at
  within_form most = record {
    takes = λ bytes x rest fits e.
        let a = bind_some (read bytes) (λ found. cond (leb (length bytes - length found.1) most) (Some found) None) (x, rest) e in
        let g = when_some (leb (length bytes - length a.0.1) most) (Some a.0) (x, rest) a.2 in
        let t = form.takes bytes a.0.0 a.0.1 fits a.1 in
        let small : length bytes - length a.0.1 ≤ most = leb-true _ _ g.0 in
        let whole : length bytes ≡ length (write a.0.0) + length a.0.1 = ap (λ (b : List ℕ). length b) t.0.parts ∙ length-append (write a.0.0) a.0.1 in
        subst (λ (p : X × List ℕ). Splits bytes (write p.0) p.1 × (Fits p.0 × (length (write p.0) ≤ most))) (some_is a.0 (x, rest) g.1) (t.0, (t.1, omega (arith, small, whole)));
    again = λ x rest fits.
        let small : leb (length (write x ++ rest) - length rest) most ≡ true = le-leb _ _ (omega (arith, length-append (write x) rest, fits.1)) in
        rw (form.again x rest fits.0, small) refl;
  }

  pub mapped_form : {Y : Type 0} (to : X → Y) (from : Y → X) (FitsY : Y → Type 0) → ((x : X) → Fits x → (from (to x) ≡ x) × FitsY (to x)) → ((y : Y) → FitsY y → (to (from y) ≡ y) × Fits (from y))
      → IsForm (λ y. write (from y)) FitsY (λ bytes. to <$> read bytes)
  mapped_form {Y} to from FitsY there back = record {
    takes = λ bytes y rest fits e.
        let a = map_some to (read bytes) (y, rest) e in
        let t = form.takes bytes a.0.0 a.0.1 fits a.1 in
        let h = there a.0.0 t.1 in
        subst (λ (p : Y × List ℕ). Splits bytes (write (from p.0)) p.1 × FitsY p.0) a.2 (rw h.0 t.0, h.1);
    again = λ y rest fits.
        let h = back y fits in
        rw (form.again (from y) rest h.1) (ap (λ (z : Y). Some (z, rest)) h.0);
  }

module _ {X Y : Type 0} (write : X → List ℕ) (Fits : X → Type 0) (read : List ℕ → Found X) (form : IsForm write Fits read) (write2 : Y → List ℕ) (Fits2 : Y → Type 0) (read2 : List ℕ → Found Y) (form2 : IsForm write2 Fits2 read2) where
  pub pair_form : IsForm (λ p. write p.0 ++ write2 p.1) (λ p. Fits p.0 × Fits2 p.1) (pair_at read read2)
  unfolding pair_at
  pair_form = record {
    takes = λ bytes x rest fits e.
        let a = bind_some (read bytes) (λ first. read2 first.1 >>= λ second. Some ((first.0, second.0), second.1)) (x, rest) e in
        let b = bind_some (read2 a.0.1) (λ second. Some ((a.0.0, second.0), second.1)) (x, rest) a.2 in
        let first = form.takes bytes a.0.0 a.0.1 fits a.1 in
        let second = form2.takes a.0.1 b.0.0 b.0.1 first.0.rest_fits b.1 in
        let both = Takes-then bytes (write a.0.0) a.0.1 (write2 b.0.0) b.0.1 first.0 second.0 in
        subst (λ (p : (X × Y) × List ℕ). Splits bytes (write p.0.0 ++ write2 p.0.1) p.1 × (Fits p.0.0 × Fits2 p.0.1)) (some_is ((a.0.0, b.0.0), b.0.1) (x, rest) b.2) (both, (first.1, second.1));
    again = λ x rest fits.
        let regrouped : (write x.0 ++ write2 x.1) ++ rest ≡ write x.0 ++ (write2 x.1 ++ rest) = append_assoc (write x.0) (write2 x.1) rest in
        ap (pair_at read read2) regrouped ∙ rw (form.again x.0 (write2 x.1 ++ rest) fits.0, form2.again x.1 rest fits.1) refl;
  }

module _ {X : Type 0} (w : Width) (limit : ℕ) (number : ℕ → List ℕ) (numbers : IsForm number (λ n. n < limit) (number_at w)) (most : ℕ) (below : most < limit) (size : X → ℕ) (write : X → List ℕ) (Fits : X → Type 0) (then_at : ℕ → List ℕ → Found X) (form : (n : ℕ) → IsForm write (λ x. (size x ≡ n) × Fits x) (then_at n)) where
  pub upto_form : IsForm (λ x. number (size x) ++ write x) (λ x. (size x ≤ most) × Fits x) (upto_at w most then_at)
  unfolding upto_at
  upto_form = record {
    takes = λ bytes x rest fits e.
        let a = bind_some (number_at w bytes) (λ n. cond (leb n.0 most) (then_at n.0 n.1) None) (x, rest) e in
        let g = when_some (leb a.0.0 most) (then_at a.0.0 a.0.1) (x, rest) a.2 in
        let first = numbers.takes bytes a.0.0 a.0.1 fits a.1 in
        let second = (form a.0.0).takes a.0.1 x rest first.0.rest_fits g.1 in
        let small : a.0.0 ≤ most = leb-true _ _ g.0 in
        let both = Takes-then bytes (number a.0.0) a.0.1 (write x) rest first.0 second.0 in
        (rw second.1.0 both, (rw second.1.0 small, second.1.1));
    again = λ x rest fits.
        let regrouped : (number (size x) ++ write x) ++ rest ≡ number (size x) ++ (write x ++ rest) = append_assoc (number (size x)) (write x) rest in
        let small : leb (size x) most ≡ true = le-leb _ _ fits.0 in
        ap (upto_at w most then_at) regrouped ∙ rw (numbers.again (size x) (write x ++ rest) (omega (arith, fits.0, below)), small, (form (size x)).again x rest (refl, fits.1)) refl;
  }

-- ---- all of the bytes

module _ {X : Type 0} (write : X → List ℕ) (Fits : X → Type 0) (read : List ℕ → Found X) (form : IsForm write Fits read) where
  pub whole-takes : (bytes : List ℕ) (x : X) → IsBytes bytes → whole_at read bytes ≡ Some x → Fits x × (bytes ≡ write x)
  whole-takes bytes x fits e =
      let a = bind_some (read bytes) (λ found. cond (eqb (length found.1) 0) (Some found.0) None) x e in
      let g = when_some (eqb (length a.0.1) 0) (Some a.0.0) x a.2 in
      let t = form.takes bytes a.0.0 a.0.1 fits a.1 in
      let nothing : a.0.1 ≡ [] = nil_from_length a.0.1 (eqb-true _ _ g.0) in
      let whole : bytes ≡ write a.0.0 = t.0.parts ∙ ap (λ (r : List ℕ). write a.0.0 ++ r) nothing ∙ append-nil (write a.0.0) in
      subst (λ (y : X). Fits y × (bytes ≡ write y)) (some_is a.0.0 x g.1) (t.1, whole)

  pub whole-again : (x : X) → Fits x → whole_at read (write x) ≡ Some x
  whole-again x fits =
      let found : read (write x) ≡ Some (x, []) = ap read (sym (append-nil (write x))) ∙ form.again x [] fits in
      rw found refl

-- the same form, where what fits is said in another way
pub weaker_form : {X : Type 0} (write : X → List ℕ) (Fits : X → Type 0) (read : List ℕ → Found X) → IsForm write Fits read → (Also : X → Type 0) → ((x : X) → Fits x → Also x) → ((x : X) → Also x → Fits x) → IsForm write Also read
weaker_form write Fits read form Also to from = record {
  takes = λ bytes x rest fits e. let t = form.takes bytes x rest fits e in (t.0, to x t.1);
  again = λ x rest fits. form.again x rest (from x fits);
}

-- ---- the same, where antt reads the parts off the forms

pub pair_of : {X Y : Type 0} {write : X → List ℕ} {Fits : X → Type 0} {read : List ℕ → Found X} {write2 : Y → List ℕ} {Fits2 : Y → Type 0} {read2 : List ℕ → Found Y}
    → IsForm write Fits read → IsForm write2 Fits2 read2 → IsForm (λ p. write p.0 ++ write2 p.1) (λ p. Fits p.0 × Fits2 p.1) (pair_at read read2)
pair_of {write = write} {Fits = Fits} {read = read} {write2 = write2} {Fits2 = Fits2} {read2 = read2} form form2 = pair_form write Fits read form write2 Fits2 read2 form2

pub counted_of : {X : Type 0} {write : X → List ℕ} {Fits : X → Type 0} {read : List ℕ → Found X} → IsForm write Fits read → (most : ℕ) → most < 256
    → IsForm (counted write) (λ xs. (length xs ≤ most) × AllByRecursion Fits xs) (counted_at most read)
counted_of {write = write} {Fits = Fits} {read = read} form most lt = upto_form w8 256 (λ n. n ∷ []) byte_form most lt length (each write) (AllByRecursion Fits) (many_at read) (many_form write Fits read form)

pub tested_of : {X : Type 0} {write : X → List ℕ} {Fits : X → Type 0} {read : List ℕ → Found X} → IsForm write Fits read → (test : X → Bool) → IsForm write (λ x. Fits x × (test x ≡ true)) (tested_at test read)
tested_of {write = write} {Fits = Fits} {read = read} form test = tested_form write Fits read form test

pub within_of : {X : Type 0} {write : X → List ℕ} {Fits : X → Type 0} {read : List ℕ → Found X} → IsForm write Fits read → (most : ℕ) → IsForm write (λ x. Fits x × (length (write x) ≤ most)) (within_at most read)
within_of {write = write} {Fits = Fits} {read = read} form most = within_form write Fits read form most

pub mapped_of : {X Y : Type 0} {write : X → List ℕ} {Fits : X → Type 0} {read : List ℕ → Found X} → IsForm write Fits read → (to : X → Y) (from : Y → X) (FitsY : Y → Type 0)
    → ((x : X) → Fits x → (from (to x) ≡ x) × FitsY (to x)) → ((y : Y) → FitsY y → (to (from y) ≡ y) × Fits (from y)) → IsForm (λ y. write (from y)) FitsY (λ bytes. to <$> read bytes)
mapped_of {write = write} {Fits = Fits} {read = read} form to from FitsY there back = mapped_form write Fits read form to from FitsY there back

pub some_of : {X : Type 0} {write : X → List ℕ} {Fits : X → Type 0} {read : List ℕ → Found X} → IsForm write Fits read → (most : ℕ) → most < 256
    → IsForm (counted write) (λ xs. (1 ≤ length xs) × ((length xs ≤ most) × AllByRecursion Fits xs)) (some_at most read)
unfolding some_at
some_of {X} {write = write} {Fits = Fits} {read = read} form most lt = record {
  takes = λ bytes xs rest fits e.
      let a = bind_some (number_at w8 bytes) (λ n. cond (leb 1 n.0) (cond (leb n.0 most) (many_at read n.0 n.1) None) None) (xs, rest) e in
      let g = when_some (leb 1 a.0.0) (cond (leb a.0.0 most) (many_at read a.0.0 a.0.1) None) (xs, rest) a.2 in
      let h = when_some (leb a.0.0 most) (many_at read a.0.0 a.0.1) (xs, rest) g.1 in
      let first = byte_form.takes bytes a.0.0 a.0.1 fits a.1 in
      let second = (many_form write Fits read form a.0.0).takes a.0.1 xs rest first.0.rest_fits h.1 in
      let large : 1 ≤ a.0.0 = leb-true _ _ g.0 in
      let small : a.0.0 ≤ most = leb-true _ _ h.0 in
      let both = Takes-then bytes (a.0.0 ∷ []) a.0.1 (each write xs) rest first.0 second.0 in
      (subst (λ (n : ℕ). Splits bytes ((n ∷ []) ++ each write xs) rest) (sym second.1.0) both, (rw second.1.0 large, (rw second.1.0 small, second.1.1)));
  again = λ xs rest fits.
      let large : leb 1 (length xs) ≡ true = le-leb _ _ fits.0 in
      let small : leb (length xs) most ≡ true = le-leb _ _ fits.1.0 in
      rw (byte_form.again (length xs) (each write xs ++ rest) (omega (arith, fits.1.0, lt)), large, small, (many_form write Fits read form (length xs)).again xs rest (refl, fits.1.1)) refl;
}
