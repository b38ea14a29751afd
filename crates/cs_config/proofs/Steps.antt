-- A refusal stays what it is through the steps that follow.
use Rattle.std.proofs.Common.{ap, Result, Err}
use Rattle.cs_config.specs.Reading.{FileGives, ◌>>=◌}
use Rattle.cs_config.specs.declared.error.ConfigError.{ConfigError}
use Rattle.cs_config.specs.declared.error.ConfigError.TheVariants.{Toml, Field, Limit, Memory}

pub gives_then : {A B : Type 0} (e : ConfigError) (m : Result A ConfigError) (f : A → Result B ConfigError) → FileGives {A = A} (Err e) m → FileGives {A = B} (Err e) (m >>= f)
gives_then Toml m f is = ap (λ r. r >>= f) is
gives_then (Field x) m f is = ap (λ r. r >>= f) is
gives_then (Limit x) m f is = ap (λ r. r >>= f) is
gives_then Memory m f is = tt
