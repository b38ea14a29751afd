-- What an evaluation comes to, and what it spends.
use Rattle.std.specs.Prelude.{ℕ, ◌+◌, Bool, List, [], ◌∷◌, Option, Some, None}
use Rattle.cs_eval_values.specs.declared.stop.Cause.{Cause}

-- It gives something, ends with an answer, or traps at a place; and so much was spent.
pub data Run (X : Type 0) : Type 0 where
  Gave : X → ℕ → Run X
  Answered : Bool → ℕ → Run X
  Trapped : Cause → ℕ → ℕ → Run X

abbrev pub gives : {X : Type 0} → X → Run X
gives x = Gave x 0

abbrev pub answers : {X : Type 0} → Bool → Run X
answers b = Answered b 0

abbrev pub traps : {X : Type 0} → Cause → ℕ → Run X
traps why place = Trapped why place 0

-- so much is spent first
abbrev pub spend : {X : Type 0} → ℕ → Run X → Run X
spend n (Gave x m) = Gave x (n + m)
spend n (Answered b m) = Answered b (n + m)
spend n (Trapped why place m) = Trapped why place (n + m)

-- one thing, and then another with what it gave
infixl 10 ◌>>=◌
abbrev pub ◌>>=◌ : {A B : Type 0} → Run A → (A → Run B) → Run B
(Gave x n) >>= f = spend n (f x)
(Answered b n) >>= f = Answered b n
(Trapped why place n) >>= f = Trapped why place n

-- one after the other
abbrev pub through : {A X : Type 0} → (A → X → Run A) → A → List X → Run A
through step a [] = gives a
through step a (x ∷ xs) = step a x >>= λ b. through step b xs

-- what there is, or a trap
abbrev pub or_trap : {X : Type 0} → Cause → ℕ → Option X → Run X
or_trap why place None = traps why place
or_trap why place (Some x) = gives x

-- what was spent
abbrev pub spent : {X : Type 0} → Run X → ℕ
spent (Gave x n) = n
spent (Answered b n) = n
spent (Trapped why place n) = n
