-- What is known of the values of lines that are taken.
use Rattle.std.specs.Prelude.{◌≡◌, ℕ, ◌<◌, nat_lt, List, [], ◌∷◌, Option, Some, None, Ok, Err, if◌then◌else◌}
use Rattle.std.specs.Option.{ok_or}
use Rattle.std.proofs.Common.{sym, ap, subst, ◌∙◌, arith}
use Rattle.std.proofs.lemmas.Bool.{ltb-true}
use Rattle.cs_base.specs.Config.{first_out, config_of, unless_out, configured}
use Rattle.cs_base.specs.declared.config.Config.{Config}
use Rattle.cs_base.specs.declared.config.ConfigField.{ConfigField}
use Rattle.cs_base.specs.Fields.{IsBytes}
use Rattle.cs_base.specs.declared.limits.TheConstants.{MOST_GENESIS, MOST_OBJECT}
use Rattle.cs_lang_token.specs.declared.limits.TheConstants.{MOST_TEXT}
use Rattle.cs_types.specs.Accepting.{is_refused}
use Rattle.cs_tx_value.specs.declared.object.Object.{Object}
use Rattle.cs_tx_value.specs.Object.{object_encoding, ObjectFits}
use Rattle.cs_text.specs.declared.cause.Cause.TheVariants as cause
use Rattle.cs_text.specs.Values.{bytes_within, number_said}
use Rattle.cs_text.proofs.Steps.{step_ok, ok_same, when_ok, unless_ok, some_ok}
use Rattle.cs_text.proofs.Taken.{bytes_within-ok}
use Rattle.cs_sched.specs.Values.{config_in_range, contract_in, encoded_object, object_in}
use Rattle.cs_sched.specs.declared.limits.TheConstants.{MOST_CONTRACTS}
use Rattle.cs_sched.specs.Playable.{IsContractText}
use Rattle.cs_sched.specs.Said.{shards_said, faulty_said, dummies_said, contract_said, object_said}
use Rattle.cs_sched.proofs.Objects.{found_fits}

pub contract_said-ok : (place : ℕ) (fields : List (List ℕ)) (text : List ℕ) → contract_said place fields ≡ Ok text → (place < MOST_CONTRACTS) × IsContractText text
contract_said-ok place [] text is = absurd cc
contract_said-ok place (field ∷ []) text is =
    let (few, read) = when_ok (nat_lt place MOST_CONTRACTS) (contract_in field) cause.Limit text is in
    let (bytes, within, after) = step_ok (bytes_within MOST_TEXT field) (λ bytes. if is_refused bytes then Err cause.Contract else Ok bytes) text read in
    let (taken, done) = unless_ok (is_refused bytes) (Ok bytes) cause.Contract text after in
    let (short, fits) = bytes_within-ok MOST_TEXT field bytes within in
    (ltb-true place MOST_CONTRACTS few, subst IsContractText (ok_same bytes text done) (record { in_bytes = fits; short = short; accepted = taken }))
contract_said-ok place (field ∷ another ∷ more) text is = absurd cc

pub object_said-ok : (place : ℕ) (fields : List (List ℕ)) (object : Object) → object_said place fields ≡ Ok object → (place < MOST_GENESIS) × (ObjectFits object × IsBytes (object_encoding object))
object_said-ok place [] object is = absurd cc
object_said-ok place (field ∷ []) object is =
    let (few, read) = when_ok (nat_lt place MOST_GENESIS) (object_in field) cause.Limit object is in
    let (bytes, within, encoded) = step_ok (bytes_within MOST_OBJECT field) (λ bytes. ok_or (encoded_object bytes) cause.Object) object read in
    let fits = (bytes_within-ok MOST_OBJECT field bytes within).1 in
    let found = found_fits bytes object fits (some_ok (encoded_object bytes) cause.Object object encoded) in
    (ltb-true place MOST_GENESIS few, (found.0, subst IsBytes found.1 fits))
object_said-ok place (field ∷ another ∷ more) object is = absurd cc

-- ---- the configuration, which is of version 1

config_first : (shards f dummies : ℕ) (config : Config) → config_in_range (configured shards f dummies) ≡ Ok config → config.version ≡ 1
config_first shards f dummies config is = by (first_out shards f dummies) is
  where
    first : (config_of shards f dummies).version ≡ 1
    first = omega arith

    by : (out : Option ConfigField) → config_in_range (unless_out (config_of shards f dummies) out) ≡ Ok config → config.version ≡ 1
    by None is = sym (ap (λ (c : Config). c.version) (ok_same (config_of shards f dummies) config is)) ∙ first
    by (Some field) is = absurd cc

pub shards_first : (now config : Config) (fields : List (List ℕ)) → shards_said now fields ≡ Ok config → config.version ≡ 1
shards_first now config fields is =
    let (number, said, within) = step_ok (number_said fields) (λ shards. config_in_range (configured shards now.f now.dummies)) config is in
    config_first number now.f now.dummies config within

pub faulty_first : (now config : Config) (fields : List (List ℕ)) → faulty_said now fields ≡ Ok config → config.version ≡ 1
faulty_first now config fields is =
    let (number, said, within) = step_ok (number_said fields) (λ faulty. config_in_range (configured now.shards faulty now.dummies)) config is in
    config_first now.shards number now.dummies config within

pub dummies_first : (now config : Config) (fields : List (List ℕ)) → dummies_said now fields ≡ Ok config → config.version ≡ 1
dummies_first now config fields is =
    let (number, said, within) = step_ok (number_said fields) (λ dummies. config_in_range (configured now.shards now.f dummies)) config is in
    config_first now.shards now.f number config within
