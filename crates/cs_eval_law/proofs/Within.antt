-- What is spent is within a cost that was told, where sums of costs stop at 2^64 - 1.
use Rattle.std.proofs.Common.{◌≡◌, ℕ, ◌+◌, ◌≤◌, ◌*◌, min, max, Bool, true, false, cond, Option, None, Some, Result, Ok, Err, List, [], ◌∷◌, length, refl, sym, ap, ◌∙◌, arith, add-zero}
use Rattle.std.specs.Prelude.{unwrap_or}
use Rattle.cs_lang_token.specs.Grammar.{◌>>=◌ as ◌then◌}
use Rattle.cs_types_kinds.specs.declared.fault.TypeError.{TypeError}
use Rattle.cs_types_kinds.specs.Told.{Told, mistyped, plus}
use Rattle.cs_eval_values.specs.declared.stop.Cause.{Cause}
use Rattle.cs_eval_values.specs.Runs.{Run, Gave, Answered, Trapped, gives, traps, spend, ◌>>=◌, or_trap, spent}

abbrev pub Within : ℕ → ℕ → Type 0
Within n c = min n 18446744073709551615 ≤ c

pub within_less : (m n c : ℕ) → m ≤ n → Within n c → Within m c
within_less m n c le w = omega (arith, le, w)

pub within_plus : (n m a b : ℕ) → Within n a → Within m b → Within (n + m) (plus a b)
within_plus n m a b v w = omega (arith, v, w)

pub within_left : (n a b : ℕ) → Within n a → Within n (max a b)
within_left n a b w = omega (arith, w)

pub within_right : (n a b : ℕ) → Within n b → Within n (max a b)
within_right n a b w = omega (arith, w)

-- ---- what runs spend

pub spent_spend : {X : Type 0} (n : ℕ) (r : Run X) → spent (spend n r) ≡ n + spent r
spent_spend n (Gave x m) = refl
spent_spend n (Answered b m) = refl
spent_spend n (Trapped why place m) = refl

pub spent_bind : {A B : Type 0} (r : Run A) (f : A → Run B) (b : ℕ) → ((x : A) → spent (f x) ≤ b) → spent (r >>= f) ≤ spent r + b
spent_bind (Gave x n) f b h = omega (arith, spent_spend n (f x), h x)
spent_bind (Answered c n) f b h = omega arith
spent_bind (Trapped why place n) f b h = omega arith

pub within_bind : {A B : Type 0} (x0 : A) (r : Run A) (f : A → Run B) (n c : ℕ) → ((x : A) → Within (n + spent r + spent (f x)) c) → Within (n + spent (r >>= f)) c
within_bind x0 (Gave x m) f n c h = omega (arith, spent_spend m (f x), h x)
within_bind x0 (Answered b m) f n c h = omega (arith, h x0)
within_bind x0 (Trapped why place m) f n c h = omega (arith, h x0)

-- ---- runs that spend nothing

pub free_bind : {A B : Type 0} (r : Run A) (f : A → Run B) → spent r ≡ 0 → ((x : A) → spent (f x) ≡ 0) → spent (r >>= f) ≡ 0
free_bind (Gave x n) f free h = omega (arith, spent_spend n (f x), free, h x)
free_bind (Answered b n) f free h = free
free_bind (Trapped why place n) f free h = free

pub free_or : {X : Type 0} (why : Cause) (place : ℕ) (o : Option X) → spent (or_trap why place o) ≡ 0
free_or why place None = refl
free_or why place (Some x) = refl

pub free_cond : {X : Type 0} (b : Bool) (r s : Run X) → spent r ≡ 0 → spent s ≡ 0 → spent (cond b r s) ≡ 0
free_cond true r s one other = one
free_cond false r s one other = other

-- ---- what is told

value_in : {A : Type 0} → A → Told A → A
value_in d (Ok x) = x
value_in d (Err e) = d

pub ok_is : {A : Type 0} (x y : A) (t : Told A) → t ≡ Ok x → t ≡ Ok y → x ≡ y
unfolding value_in
ok_is x y t is that = ap (value_in x) (sym is) ∙ ap (value_in x) that

-- ---- what a run gives

-- it has this property, if it gives something
abbrev pub After : {X : Type 0} → (X → Type 0) → Run X → Type 0
After P (Gave x n) = P x
After P (Answered b n) = Unit {0}
After P (Trapped why place n) = Unit {0}

pub after_spend : {X : Type 0} (P : X → Type 0) (n : ℕ) (r : Run X) → After P r → After P (spend n r)
after_spend P n (Gave x m) h = h
after_spend P n (Answered b m) h = tt
after_spend P n (Trapped why place m) h = tt

pub after_bind : {A B : Type 0} (P : A → Type 0) (Q : B → Type 0) (r : Run A) (f : A → Run B) → After P r → ((x : A) → P x → After Q (f x)) → After Q (r >>= f)
after_bind P Q (Gave x n) f h g = after_spend Q n (f x) (g x h)
after_bind P Q (Answered b n) f h g = tt
after_bind P Q (Trapped why place n) f h g = tt

pub after_any : {X : Type 0} (r : Run X) → After (λ x. Unit {0}) r
after_any (Gave x n) = tt
after_any (Answered b n) = tt
after_any (Trapped why place n) = tt

pub within_after : {A B : Type 0} (P : A → Type 0) (r : Run A) (f : A → Run B) (n c : ℕ) → After P r → Within (n + spent r) c
    → ((x : A) → P x → Within (n + spent r + spent (f x)) c) → Within (n + spent (r >>= f)) c
within_after P (Gave x m) f n c h base g = omega (arith, spent_spend m (f x), g x h)
within_after P (Answered b m) f n c h base g = omega (arith, base)
within_after P (Trapped why place m) f n c h base g = omega (arith, base)

pub within_then : {A B : Type 0} (P : A → Type 0) (r : Run A) (f : A → Run B) (c : ℕ) → After P r → Within (spent r) c
    → ((x : A) → P x → Within (spent r + spent (f x)) c) → Within (spent (r >>= f)) c
within_then P (Gave x m) f c h base g = omega (arith, spent_spend m (f x), g x h)
within_then P (Answered b m) f c h base g = base
within_then P (Trapped why place m) f c h base g = base

pub some_is : {A : Type 0} (x y : A) → Some x ≡ Some y → x ≡ y
some_is x y is = ap (λ o. unwrap_or o x) is
