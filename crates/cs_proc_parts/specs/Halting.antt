-- What an evaluation that stops means for a procedure.
use Rattle.cs_eval_values.specs.declared.stop.Cause.TheVariants as cause
use Rattle.cs_eval_values.specs.declared.stop.Stop.{Stop}
use Rattle.cs_eval_values.specs.declared.stop.Stop.TheVariants as stop
use Rattle.cs_proc_parts.specs.declared.ending.Ending.TheVariants as ending
use Rattle.cs_proc_parts.specs.declared.ending.Halt.{Halt}
use Rattle.cs_proc_parts.specs.declared.ending.Halt.TheVariants as halt

-- no expression answers anything
abbrev pub halt_of : Stop → Halt
halt_of (stop.Answer b) = halt.End (ending.Trap cause.Misfit 0)
halt_of (stop.Trap why place) = halt.End (ending.Trap why place)
halt_of stop.Memory = halt.Memory
