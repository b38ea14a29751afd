-- A refusal stays what it is through the steps that follow.
use Rattle.std.proofs.Common.{ap, Result, Err}
use Rattle.cs_transact.specs.Refusing.{ReadsAs, ◌>>=◌}
use Rattle.cs_transact.specs.declared.refusal.Refusal.{Refusal}
use Rattle.cs_transact.specs.declared.refusal.TextError.{TextError}
use Rattle.cs_transact.specs.declared.refusal.TextError.TheVariants.{Refused, Memory}

pub gives_then : {A B : Type 0} (e : TextError) (m : Result A Refusal) (f : A → Result B Refusal) → ReadsAs {A = A} (Err e) m → ReadsAs {A = B} (Err e) (m >>= f)
gives_then (Refused refusal) m f is = ap (λ r. r >>= f) is
gives_then Memory m f is = tt
