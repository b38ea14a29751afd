-- A file that is read.
use Rattle.std.proofs.Common.{Result, Err, ap}
use Rattle.cs_wallet.specs.File.{FileGives, ◌>>=◌}
use Rattle.cs_wallet.specs.declared.error.FileError.{FileError}
use Rattle.cs_wallet.specs.declared.error.FileError.TheVariants.{Toml, Seed, Used, LimitUsed, Memory}

-- a refusal stays what it is through the steps that follow
pub gives_then : {A B : Type 0} (e : FileError) (m : Result A FileError) (f : A → Result B FileError) → FileGives {A = A} (Err e) m → FileGives {A = B} (Err e) (m >>= f)
gives_then Toml m f is = ap (λ r. r >>= f) is
gives_then Seed m f is = ap (λ r. r >>= f) is
gives_then Used m f is = ap (λ r. r >>= f) is
gives_then LimitUsed m f is = ap (λ r. r >>= f) is
gives_then Memory m f is = tt
