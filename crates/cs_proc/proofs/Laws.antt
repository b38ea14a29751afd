-- Laws of courses.
use Rattle.std.proofs.Common.{◌≡◌, ℕ, ◌+◌, Result, Ok, Err, refl, sym, ap, ◌∙◌, subst, arith}
use Rattle.cs_eval_values.specs.Runs.{Run, Gave, Answered, Trapped, ◌>>=◌ as ◌then◌}
use Rattle.cs_proc_parts.specs.declared.ending.Halt.{Halt}
use Rattle.cs_proc_parts.specs.declared.ending.Halt.TheVariants as halt
use Rattle.cs_proc_parts.specs.Courses.{ProcedureCourse, Went, Ended, goes, spending, ◌>>=◌, evaluated, Halts, CourseComes}

pub spending_spending : {X : Type 0} (n m : ℕ) (c : ProcedureCourse X) → spending n (spending m c) ≡ spending (n + m) c
spending_spending n m (Went x k) = ap (λ (j : ℕ). Went x j) (omega arith)
spending_spending n m (Ended why k) = ap (λ (j : ℕ). Ended why j) (omega arith)

pub spending_none : {X : Type 0} (c : ProcedureCourse X) → spending 0 c ≡ c
spending_none (Went x k) = ap (λ (j : ℕ). Went x j) (omega arith)
spending_none (Ended why k) = ap (λ (j : ℕ). Ended why j) (omega arith)

pub spending_bind : {A B : Type 0} (n : ℕ) (c : ProcedureCourse A) (f : A → ProcedureCourse B) → (spending n c >>= f) ≡ spending n (c >>= f)
spending_bind n (Went x m) f = sym (spending_spending n m (f x))
spending_bind n (Ended why m) f = refl

pub bind_bind : {A B C : Type 0} (c : ProcedureCourse A) (f : A → ProcedureCourse B) (g : B → ProcedureCourse C) → ((c >>= f) >>= g) ≡ (c >>= λ x. f x >>= g)
bind_bind (Went x n) f g = spending_bind n (f x) g
bind_bind (Ended why n) f g = refl

pub under : {A B : Type 0} (c : ProcedureCourse A) (f g : A → ProcedureCourse B) → ((x : A) → f x ≡ g x) → (c >>= f) ≡ (c >>= g)
under (Went x n) f g same = ap (spending n) (same x)
under (Ended why n) f g same = refl

pub bind_goes : {A : Type 0} (c : ProcedureCourse A) → (c >>= λ x. goes x) ≡ c
bind_goes (Went x n) = ap (λ (j : ℕ). Went x j) (omega arith)
bind_goes (Ended why n) = refl

-- ---- what was given goes on

pub went_bind : {A B : Type 0} (c : ProcedureCourse A) (x : A) (n : ℕ) (f : A → ProcedureCourse B) → c ≡ Went x n → (c >>= f) ≡ spending n (f x)
went_bind c x n f is = ap (λ d. d >>= f) is

pub went_on : {A B C : Type 0} (c : ProcedureCourse A) (x : A) (n : ℕ) (f : A → ProcedureCourse B) (g : B → ProcedureCourse C) → c ≡ Went x n → ((c >>= f) >>= g) ≡ spending n (f x >>= g)
went_on c x n f g is = ap (λ d. d >>= g) (went_bind c x n f is) ∙ spending_bind n (f x) g

pub went_last : {A B : Type 0} (c : ProcedureCourse A) (x : A) (n : ℕ) (f : A → ProcedureCourse B) (y : B) → c ≡ Went x n → f x ≡ goes y → (c >>= f) ≡ Went y n
went_last c x n f y is gave = went_bind c x n f is ∙ ap (spending n) gave ∙ ap (λ (j : ℕ). Went y j) (omega arith)

-- ---- what ends, ends all behind it

pub halts_is : {A : Type 0} (e : Halt) (n : ℕ) (c d : ProcedureCourse A) → c ≡ d → Halts e n d → Halts e n c
halts_is {A} e n c d is h = let P : ProcedureCourse A → Type 0 = λ x. Halts e n x in subst P (sym is) h

pub halts_bind : {A B : Type 0} (e : Halt) (n : ℕ) (c : ProcedureCourse A) (f : A → ProcedureCourse B) → Halts e n c → Halts e n (c >>= f)
halts_bind (halt.End why) n c f is = ap (λ d. d >>= f) is
halts_bind halt.Memory n c f is = tt

-- so much is spent before
pub halts_spent : {A : Type 0} (e : Halt) (k m n : ℕ) (c d : ProcedureCourse A) → n ≡ k + m → c ≡ spending k d → Halts e m d → Halts e n c
halts_spent (halt.End why) k m n c d more is h = is ∙ ap (spending k) h ∙ ap (λ (j : ℕ). Ended why j) (sym more)
halts_spent halt.Memory k m n c d more is h = tt

-- ---- runs of expressions

pub evaluated_gave : {A : Type 0} (r : Run A) (x : A) (n : ℕ) → r ≡ Gave x n → evaluated r ≡ Went x n
evaluated_gave r x n is = ap (λ s. evaluated s) is

-- what ends a part of a run, ends the run
pub halts_part : {A B : Type 0} (e : Halt) (m : ℕ) (r : Run A) (f : A → Run B) → Halts e m (evaluated r) → Halts e m (evaluated (r then f))
halts_part (halt.End why) m (Gave x n) f is = absurd cc
halts_part (halt.End why) m (Answered b n) f is = cc
halts_part (halt.End why) m (Trapped cause place n) f is = cc
halts_part halt.Memory m r f is = tt

-- so much was spent before what comes
pub comes_spent : {A : Type 0} (answer : Result A Halt) (k m n : ℕ) (c d : ProcedureCourse A) → n ≡ k + m → c ≡ spending k d → CourseComes answer m d → CourseComes answer n c
comes_spent (Ok x) k m n c d more is h = is ∙ ap (spending k) h ∙ ap (λ (j : ℕ). Went x j) (sym more)
comes_spent (Err e) k m n c d more is h = halts_spent e k m n c d more is h
