-- What a check comes to, and where.
use Rattle.std.specs.Prelude.{ℕ, Bool, List, [], ◌∷◌}
use Rattle.cs_eval_values.specs.Runs.{Run, Gave, Answered, Trapped}

-- It goes on with something, ends with an answer at a place, or traps at a place.
pub data Located (X : Type 0) : Type 0 where
  Onward : X → Located X
  AnsweredAt : Bool → ℕ → Located X
  TrappedAt : ℕ → Located X

-- a run without what it spends; no expression answers
abbrev pub located : {X : Type 0} → Run X → Located X
located (Gave x n) = Onward x
located (Answered b n) = AnsweredAt b 0
located (Trapped why place n) = TrappedAt place

-- one thing, and then another with what it gave
infixl 10 ◌>>=◌
abbrev pub ◌>>=◌ : {A B : Type 0} → Located A → (A → Located B) → Located B
(Onward x) >>= f = f x
(AnsweredAt b place) >>= f = AnsweredAt b place
(TrappedAt place) >>= f = TrappedAt place

-- one after the other
abbrev pub located_through : {A X : Type 0} → (A → X → Located A) → A → List X → Located A
located_through step a [] = Onward a
located_through step a (x ∷ xs) = step a x >>= λ b. located_through step b xs
