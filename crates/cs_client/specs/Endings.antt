-- How a client ends whose method gave no transaction.
use Rattle.cs_proc.specs.declared.error.ProcError.{ProcError}
use Rattle.cs_proc.specs.declared.error.ProcError.TheVariants as refusal
use Rattle.cs_client.specs.declared.error.ClientError.{ClientError}
use Rattle.cs_client.specs.declared.error.ClientError.TheVariants.{Refused, Memory}

-- for want of memory, or since the method is refused for this cause
abbrev pub ending_of : ProcError → ClientError
ending_of refusal.Memory = Memory
ending_of cause = Refused cause
