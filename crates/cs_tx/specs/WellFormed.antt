-- The tests of a session, in their order.
use Rattle.std.specs.Prelude.{◌≡◌, ℕ, ◌+◌, length, Bool, true, false, not, ◌&&◌, ◌||◌, ◌==◌, nat_lt, bytes_eq, List, [], ◌∷◌, ◌++◌, Option, Some, None, Result, Ok, Err, if◌then◌else◌}
use Rattle.std.specs.List.{list_any, list_all}
use Rattle.cs_base.specs.declared.config.Config.{Config}
use Rattle.cs_base.specs.declared.key.Key.TheVariants as key
use Rattle.cs_base.specs.Key.{shard_of_key}
use Rattle.cs_base.specs.Options.{or_else}
use Rattle.cs_tx_value.specs.declared.object.Object.{Object}
use Rattle.cs_tx_types.specs.declared.trace.Trace.{Trace}
use Rattle.cs_tx_types.specs.declared.session.Session.{Session}
use Rattle.cs_tx.specs.declared.malformed.Malformed.{Malformed}
use Rattle.cs_tx.specs.declared.malformed.Malformed.TheVariants as malformed
use Rattle.cs_tx.specs.Uses.{inputs_of, references_of, names, used_names, is_among}

-- ---- the transaction has an input

abbrev pub no_input : List (List ℕ) → Option Malformed
no_input inputs = if length inputs == 0 then Some malformed.NoInput else None

-- ---- no key is an input twice, or an input and a reference

abbrev pub has : List ℕ → List (List ℕ) → Bool
has name others = list_any (λ other. bytes_eq other name) others

-- the first of these inputs that is an earlier one, or a reference
abbrev pub first_twice : List (List ℕ) → List (List ℕ) → List (List ℕ) → Option (List ℕ)
first_twice references earlier [] = None
first_twice references earlier (name ∷ later) =
    if has name earlier || has name references then Some name else first_twice references (earlier ++ name ∷ []) later

abbrev pub used_twice : Option (List ℕ) → Option Malformed
used_twice (Some name) = Some (malformed.TwiceUsed (key.Object name))
used_twice None = None

-- ---- every input and output of a trace is of its contract

-- the first of these traces that fails a test; the first of them has this number
abbrev pub first_failing : (ℕ → Trace → Bool) → ℕ → List Trace → Option ℕ
first_failing test number [] = None
first_failing test number (trace ∷ traces) =
    if test number trace then first_failing test (number + 1) traces else Some number

abbrev pub is_object_of : List ℕ → Object → Bool
is_object_of contract object = bytes_eq object.contract contract

abbrev pub has_own_objects : ℕ → Trace → Bool
has_own_objects number trace =
    list_all (λ item. is_object_of trace.contract item.1) trace.inputs && list_all (is_object_of trace.contract) trace.outputs

abbrev pub foreign : Option ℕ → Option Malformed
foreign (Some trace) = Some (malformed.Foreign trace)
foreign None = None

-- ---- every dep is an earlier trace

abbrev pub has_earlier_deps : ℕ → Trace → Bool
has_earlier_deps number trace = list_all (λ dep. nat_lt dep number) trace.deps

abbrev pub late_dep : Option ℕ → Option Malformed
late_dep (Some trace) = Some (malformed.Dep trace)
late_dep None = None

-- ---- exactly one dummy for each concerned shard without an input, in rising order of shards

abbrev pub rising_from : ℕ → List (ℕ × ℕ) → Bool
rising_from shard [] = true
rising_from shard (dummy ∷ dummies) = nat_lt shard dummy.0 && rising_from dummy.0 dummies

abbrev pub are_rising : List (ℕ × ℕ) → Bool
are_rising [] = true
are_rising (dummy ∷ dummies) = rising_from dummy.0 dummies

-- a name that is used is of the shard, and no input is
abbrev pub wants_dummy : Config → List (List ℕ) → List (List ℕ) → ℕ → Bool
wants_dummy config inputs used shard = is_among config shard used && not (is_among config shard inputs)

-- a name's shard has an input or a dummy
abbrev pub is_served : Config → List (List ℕ) → List (ℕ × ℕ) → List ℕ → Bool
is_served config inputs dummies name =
    is_among config (shard_of_key config.shards (key.Object name)) inputs
    || list_any (λ dummy. dummy.0 == shard_of_key config.shards (key.Object name)) dummies

abbrev pub are_right : Config → List (List ℕ) → List (List ℕ) → List (ℕ × ℕ) → Bool
are_right config inputs used dummies =
    are_rising dummies
    && (list_all (λ dummy. wants_dummy config inputs used dummy.0) dummies
    && list_all (is_served config inputs dummies) used)

abbrev pub wrong_dummies : Bool → Option Malformed
wrong_dummies true = None
wrong_dummies false = Some malformed.Dummies

-- ---- the tests

-- the first test that fails
abbrev pub fault_of : Config → Session → Option Malformed
fault_of config x =
    or_else (no_input (names (inputs_of x.tx)))
    (or_else (used_twice (first_twice (names (references_of x.tx)) [] (names (inputs_of x.tx))))
    (or_else (foreign (first_failing has_own_objects 0 x.tx.traces))
    (or_else (late_dep (first_failing has_earlier_deps 0 x.tx.traces))
    (wrong_dummies (are_right config (names (inputs_of x.tx)) (used_names x.tx) x.dummies)))))

abbrev pub IsWellFormed : Config → Session → Type 0
IsWellFormed config x = fault_of config x ≡ None

-- a call names the first fault, unless memory ran out
abbrev pub FindsFault : Result Unit Malformed → Option Malformed → Type 0
FindsFault (Ok done) fault = fault ≡ None
FindsFault (Err malformed.Memory) fault = Unit {0}
FindsFault (Err malformed.NoInput) fault = fault ≡ Some malformed.NoInput
FindsFault (Err (malformed.TwiceUsed key)) fault = fault ≡ Some (malformed.TwiceUsed key)
FindsFault (Err (malformed.Foreign trace)) fault = fault ≡ Some (malformed.Foreign trace)
FindsFault (Err (malformed.Dep trace)) fault = fault ≡ Some (malformed.Dep trace)
FindsFault (Err malformed.Dummies) fault = fault ≡ Some malformed.Dummies
