-- Steps that may refuse a text.
use Rattle.std.specs.Prelude.{◌≡◌, Result, Ok, Err}
use Rattle.cs_transact.specs.declared.refusal.Refusal.{Refusal}
use Rattle.cs_transact.specs.declared.refusal.TextError.{TextError}
use Rattle.cs_transact.specs.declared.refusal.TextError.TheVariants.{Refused, Memory}

-- what a call answered is so, unless memory ran out
abbrev pub Unless : {A : Type 0} → (Result A Refusal → Type 0) → Result A TextError → Type 0
Unless IsSo (Ok x) = IsSo (Ok x)
Unless IsSo (Err (Refused refusal)) = IsSo (Err refusal)
Unless IsSo (Err Memory) = Unit {0}

-- what it answered is this, unless memory ran out
abbrev pub ReadsAs : {A : Type 0} → Result A TextError → Result A Refusal → Type 0
ReadsAs (Ok x) meant = meant ≡ Ok x
ReadsAs (Err (Refused refusal)) meant = meant ≡ Err refusal
ReadsAs (Err Memory) meant = Unit {0}

-- a step, and the next one with what it gave; the first refusal decides
infixl 10 ◌>>=◌
abbrev pub ◌>>=◌ : {A B : Type 0} → Result A Refusal → (A → Result B Refusal) → Result B Refusal
(Ok x) >>= f = f x
(Err refusal) >>= f = Err refusal
