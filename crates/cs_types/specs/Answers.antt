-- What a function answers that is told something.
use Rattle.std.specs.Prelude.{◌≡◌, Result, Ok, Err}
use Rattle.cs_types_kinds.specs.declared.fault.TypeError.{TypeError}
use Rattle.cs_types_kinds.specs.declared.fault.TypeError.TheVariants as error
use Rattle.cs_types_kinds.specs.Told.{Told}

-- a fault that is told; memory may run out
abbrev pub Fails : {X : Type 0} → TypeError → Told X → Type 0
Fails error.Memory told = Unit {0}
Fails (error.Mistyped place) told = told ≡ Err (error.Mistyped place)
Fails (error.Unbound place) told = told ≡ Err (error.Unbound place)
Fails (error.Cost n) told = told ≡ Err (error.Cost n)

abbrev pub AnswersTold : {X : Type 0} → Result X TypeError → Told X → Type 0
AnswersTold (Ok x) told = told ≡ Ok x
AnswersTold (Err e) told = Fails e told
