-- What is held, as it is stored.
use Rattle.cs_eval_values.specs.declared.held.Inner.{Inner}
use Rattle.cs_eval_values.specs.declared.held.Inner.TheVariants as inner
use Rattle.cs_eval_values.specs.Datums.{Datum, Plain, One, Many}

abbrev pub datum_in : Inner → Datum
datum_in (inner.Plain v) = Plain v
datum_in (inner.One o) = One o
datum_in (inner.Many os) = Many os.value
