-- What a procedure comes to, and what it spends.
use Rattle.std.specs.Prelude.{◌≡◌, ℕ, ◌+◌, List, [], ◌∷◌, Option, Some, None, Result, Ok, Err}
use Rattle.cs_eval_values.specs.declared.stop.Cause.TheVariants as cause
use Rattle.cs_eval_values.specs.Runs.{Run, Gave, Answered, Trapped}
use Rattle.cs_proc_parts.specs.declared.ending.Ending.{Ending}
use Rattle.cs_proc_parts.specs.declared.ending.Ending.TheVariants as ending
use Rattle.cs_proc_parts.specs.declared.ending.Halt.{Halt}
use Rattle.cs_proc_parts.specs.declared.ending.Halt.TheVariants as halt

-- It goes through and gives something, or ends before; and so much was spent.
pub data ProcedureCourse (X : Type 0) : Type 0 where
  Went : X → ℕ → ProcedureCourse X
  Ended : Ending → ℕ → ProcedureCourse X

abbrev pub goes : {X : Type 0} → X → ProcedureCourse X
goes x = Went x 0

abbrev pub ends : {X : Type 0} → Ending → ProcedureCourse X
ends why = Ended why 0

-- so much is spent first
abbrev pub spending : {X : Type 0} → ℕ → ProcedureCourse X → ProcedureCourse X
spending n (Went x m) = Went x (n + m)
spending n (Ended why m) = Ended why (n + m)

-- one thing, and then another with what it gave
infixl 10 ◌>>=◌
abbrev pub ◌>>=◌ : {A B : Type 0} → ProcedureCourse A → (A → ProcedureCourse B) → ProcedureCourse B
(Went x n) >>= f = spending n (f x)
(Ended why n) >>= f = Ended why n

-- one after the other
abbrev pub course_through : {A X : Type 0} → (A → X → ProcedureCourse A) → A → List X → ProcedureCourse A
course_through step a [] = goes a
course_through step a (x ∷ xs) = step a x >>= λ b. course_through step b xs

-- what there is, or an end
abbrev pub or_ends : {X : Type 0} → Ending → Option X → ProcedureCourse X
or_ends why None = ends why
or_ends why (Some x) = goes x

-- what the evaluation of an expression is to a procedure; it answers nothing
abbrev pub evaluated : {X : Type 0} → Run X → ProcedureCourse X
evaluated (Gave x n) = Went x n
evaluated (Answered b n) = Ended (ending.Trap cause.Misfit 0) n
evaluated (Trapped why place n) = Ended (ending.Trap why place) n

-- what was spent
abbrev pub course_spent : {X : Type 0} → ProcedureCourse X → ℕ
course_spent (Went x n) = n
course_spent (Ended why n) = n

-- ---- what a call answers that is a part of a procedure

-- it ended as this course does; memory may run out
abbrev pub Halts : {X : Type 0} → Halt → ℕ → ProcedureCourse X → Type 0
Halts (halt.End why) n course = course ≡ Ended why n
Halts halt.Memory n course = Unit {0}

-- so much was spent, and this is what the course comes to
abbrev pub CourseComes : {X : Type 0} → Result X Halt → ℕ → ProcedureCourse X → Type 0
CourseComes (Ok x) n course = course ≡ Went x n
CourseComes (Err e) n course = Halts e n course

-- so much was spent, and this is what there is behind it
abbrev pub MakesCourse : {X : Type 0} → Result Unit Halt → ℕ → ProcedureCourse X → X → Type 0
MakesCourse (Ok done) n course x = course ≡ Went x n
MakesCourse (Err e) n course x = Halts e n course
