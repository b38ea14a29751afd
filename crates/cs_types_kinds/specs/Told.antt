-- What is told of a part of a contract: a value of it, or the first place at fault.
use Rattle.std.specs.Prelude.{ℕ, ◌+◌, min, List, [], ◌∷◌, Result, Ok, Err}
use Rattle.cs_lang_token.specs.Grammar.{◌>>=◌}
use Rattle.cs_types_kinds.specs.declared.fault.TypeError.{TypeError}
use Rattle.cs_types_kinds.specs.declared.fault.TypeError.TheVariants as error

abbrev pub Told : Type 0 → Type 0
Told X = Result X TypeError

-- a rule is broken at this place
abbrev pub mistyped : {X : Type 0} → ℕ → Told X
mistyped place = Err (error.Mistyped place)

-- the name at this place isn't in sight, or isn't declared
abbrev pub unbound : {X : Type 0} → ℕ → Told X
unbound place = Err (error.Unbound place)

-- one after the other, up to the first fault
abbrev pub told_through : {A X : Type 0} → (A → X → Told A) → A → List X → Told A
told_through step a [] = Ok a
told_through step a (x ∷ xs) = step a x >>= λ b. told_through step b xs

-- sums of costs stop at 2^64 - 1
abbrev pub plus : ℕ → ℕ → ℕ
plus a b = min (a + b) 18446744073709551615
