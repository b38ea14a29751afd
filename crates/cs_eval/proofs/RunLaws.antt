-- Laws of runs.
use Rattle.std.proofs.Common.{◌≡◌, ℕ, ◌+◌, Bool, List, [], ◌∷◌, refl, sym, ap, ◌∙◌, arith}
use Rattle.cs_eval_values.specs.declared.stop.Cause.{Cause}
use Rattle.cs_eval_values.specs.Runs.{Run, Gave, Answered, Trapped, gives, spend, ◌>>=◌}

pub spend_spend : {X : Type 0} (n m : ℕ) (r : Run X) → spend n (spend m r) ≡ spend (n + m) r
spend_spend n m (Gave x k) = ap (λ (j : ℕ). Gave x j) (omega arith)
spend_spend n m (Answered b k) = ap (λ (j : ℕ). Answered b j) (omega arith)
spend_spend n m (Trapped why place k) = ap (λ (j : ℕ). Trapped why place j) (omega arith)

pub spend_none : {X : Type 0} (r : Run X) → spend 0 r ≡ r
spend_none (Gave x k) = ap (λ (j : ℕ). Gave x j) (omega arith)
spend_none (Answered b k) = ap (λ (j : ℕ). Answered b j) (omega arith)
spend_none (Trapped why place k) = ap (λ (j : ℕ). Trapped why place j) (omega arith)

pub spend_bind : {A B : Type 0} (n : ℕ) (r : Run A) (f : A → Run B) → (spend n r >>= f) ≡ spend n (r >>= f)
spend_bind n (Gave x m) f = sym (spend_spend n m (f x))
spend_bind n (Answered b m) f = refl
spend_bind n (Trapped why place m) f = refl

pub bind_bind : {A B C : Type 0} (r : Run A) (f : A → Run B) (g : B → Run C) → ((r >>= f) >>= g) ≡ (r >>= λ x. f x >>= g)
bind_bind (Gave x n) f g = spend_bind n (f x) g
bind_bind (Answered b n) f g = refl
bind_bind (Trapped why place n) f g = refl

pub gives_bind : {A B : Type 0} (x : A) (f : A → Run B) → (gives x >>= f) ≡ f x
gives_bind x f = spend_none (f x)

pub under : {A B : Type 0} (r : Run A) (f g : A → Run B) → ((x : A) → f x ≡ g x) → (r >>= f) ≡ (r >>= g)
under (Gave x n) f g same = ap (spend n) (same x)
under (Answered b n) f g same = refl
under (Trapped why place n) f g same = refl
