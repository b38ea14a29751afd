-- The tests of a session that need no configuration.
use Rattle.std.specs.Prelude.{◌==◌, length, [], Option, Some, None, option_map, if◌then◌else◌}
use Rattle.cs_base.specs.Options.{or_else}
use Rattle.cs_base.specs.declared.key.Key.TheVariants as key
use Rattle.cs_tx_types.specs.declared.transaction.Tx.{Tx}
use Rattle.cs_tx.specs.Uses.{inputs_of, references_of, names}
use Rattle.cs_tx.specs.WellFormed.{first_twice, first_failing, has_own_objects, has_earlier_deps}
use Rattle.cs_tx.specs.declared.malformed.Malformed.{Malformed}
use Rattle.cs_tx.specs.declared.malformed.Malformed.TheVariants as malformed
use Rattle.cs_transact.specs.declared.refusal.Refusal.{Refusal}
use Rattle.cs_transact.specs.declared.refusal.Refusal.TheVariants.{NoInput, Twice, Foreign, Dep}

-- the first of them that the transaction fails
abbrev pub first_failed : Tx → Option Refusal
first_failed tx =
    or_else (if length (names (inputs_of tx)) == 0 then Some NoInput else None)
    (or_else (option_map Twice (first_twice (names (references_of tx)) [] (names (inputs_of tx))))
    (or_else (option_map Foreign (first_failing has_own_objects 0 tx.traces))
    (option_map Dep (first_failing has_earlier_deps 0 tx.traces))))

-- what is told of a session that isn't well formed, but for its dummies
abbrev pub told_refusal : Malformed → Option Refusal
told_refusal malformed.NoInput = Some NoInput
told_refusal (malformed.TwiceUsed (key.Object name)) = Some (Twice name)
told_refusal (malformed.TwiceUsed (key.Dummy shard serial)) = None
told_refusal (malformed.Foreign trace) = Some (Foreign trace)
told_refusal (malformed.Dep trace) = Some (Dep trace)
told_refusal malformed.Dummies = None
told_refusal malformed.Memory = None
