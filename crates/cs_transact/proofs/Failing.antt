-- The tests of a session that need no configuration.
use Rattle.std.proofs.Common.{◌≡◌, ℕ, Bool, true, false, List, [], length, Option, Some, None, Err, refl, sym, ap, ◌∙◌}
use Rattle.std.specs.Prelude.{◌==◌, option_map, option_and_then, if◌then◌else◌}
use Rattle.cs_base.specs.Options.{or_else}
use Rattle.cs_base.specs.declared.config.Config.{Config}
use Rattle.cs_tx_types.specs.declared.session.Session.{Session}
use Rattle.cs_tx.specs.Uses.{inputs_of, references_of, used_names, names}
use Rattle.cs_tx.specs.WellFormed.{first_twice, used_twice, first_failing, has_own_objects, foreign, has_earlier_deps, late_dep, are_right, wrong_dummies, fault_of, FindsFault}
use Rattle.cs_tx.specs.declared.malformed.Malformed.{Malformed}
use Rattle.cs_tx.specs.declared.malformed.Malformed.TheVariants as malformed
use Rattle.cs_transact.specs.Formed.{first_failed, told_refusal}
use Rattle.cs_transact.specs.declared.refusal.Refusal.TheVariants.{NoInput, Twice, Foreign, Dep}

by-tests : (none : Bool) (twice : Option (List ℕ)) (other late : Option ℕ) (right : Bool)
    → option_and_then told_refusal (or_else (if none then Some malformed.NoInput else None) (or_else (used_twice twice) (or_else (foreign other) (or_else (late_dep late) (wrong_dummies right)))))
    ≡ or_else (if none then Some NoInput else None) (or_else (option_map Twice twice) (or_else (option_map Foreign other) (option_map Dep late)))
by-tests true twice other late right = refl
by-tests false (Some name) other late right = refl
by-tests false None (Some trace) late right = refl
by-tests false None None (Some trace) right = refl
by-tests false None None None true = refl
by-tests false None None None false = refl

-- the first test that the transaction fails is told of the first fault of the session
pub failed-told : (config : Config) (x : Session) → option_and_then told_refusal (fault_of config x) ≡ first_failed x.tx
failed-told config x =
    by-tests (length (names (inputs_of x.tx)) == 0) (first_twice (names (references_of x.tx)) [] (names (inputs_of x.tx)))
    (first_failing has_own_objects 0 x.tx.traces) (first_failing has_earlier_deps 0 x.tx.traces)
    (are_right config (names (inputs_of x.tx)) (used_names x.tx) x.dummies)

pub none-failed : (config : Config) (x : Session) → fault_of config x ≡ None → None ≡ first_failed x.tx
none-failed config x is = sym (ap (λ (fault : Option Malformed). option_and_then told_refusal fault) is) ∙ failed-told config x

told : (config : Config) (x : Session) (m : Malformed) → fault_of config x ≡ Some m → told_refusal m ≡ first_failed x.tx
told config x m is = sym (ap (λ (fault : Option Malformed). option_and_then told_refusal fault) is) ∙ failed-told config x

-- the fault that is found is the first that is told
pub found-failed : (config : Config) (x : Session) (m : Malformed) → (m ≡ malformed.Memory → ⊥) → FindsFault (Err m) (fault_of config x) → told_refusal m ≡ first_failed x.tx
found-failed config x malformed.Memory other found = absurd (other refl)
found-failed config x malformed.NoInput other found = told config x malformed.NoInput found
found-failed config x (malformed.TwiceUsed k) other found = told config x (malformed.TwiceUsed k) found
found-failed config x (malformed.Foreign trace) other found = told config x (malformed.Foreign trace) found
found-failed config x (malformed.Dep trace) other found = told config x (malformed.Dep trace) found
found-failed config x malformed.Dummies other found = told config x malformed.Dummies found
