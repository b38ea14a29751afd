-- The first fault of a session, by the names that it uses.
use Rattle.std.proofs.Common.{◌≡◌, ℕ, ◌<◌, Bool, List, [], ◌++◌, length, Option, Some, None, refl, sym, ap, ◌∙◌, arith}
use Rattle.cs_base.specs.Options.{or_else}
use Rattle.cs_base.specs.declared.config.Config.{Config}
use Rattle.cs_base.specs.declared.key.Key.TheVariants as key
use Rattle.cs_tx.specs.declared.malformed.Malformed.{Malformed}
use Rattle.cs_tx.specs.declared.malformed.Malformed.TheVariants as malformed
use Rattle.cs_tx_types.specs.declared.session.Session.{Session}
use Rattle.cs_tx.specs.Uses.{inputs_of, references_of, outputs_of, names}
use Rattle.cs_tx.specs.WellFormed.{no_input, used_twice, first_twice, foreign, late_dep, first_failing, has_own_objects, has_earlier_deps, are_right, wrong_dummies, fault_of}

here : (test later : Option Malformed) (fault : Malformed) → test ≡ Some fault → or_else test later ≡ Some fault
here test later fault e = ap (λ (t : Option Malformed). or_else t later) e

further : (test later answer : Option Malformed) → test ≡ None → later ≡ answer → or_else test later ≡ answer
further test later answer e rest = ap (λ (t : Option Malformed). or_else t later) e ∙ rest

module _ (config : Config) (x : Session) (inputs references outputs : List (List ℕ))
    (i : inputs ≡ names (inputs_of x.tx)) (r : references ≡ names (references_of x.tx)) (o : outputs ≡ names (outputs_of x.tx)) where
  abbrev by_names : Option Malformed
  by_names =
      or_else (no_input inputs)
      (or_else (used_twice (first_twice references [] inputs))
      (or_else (foreign (first_failing has_own_objects 0 x.tx.traces))
      (or_else (late_dep (first_failing has_earlier_deps 0 x.tx.traces))
      (wrong_dummies (are_right config inputs (inputs ++ (references ++ outputs)) x.dummies)))))

  is_by_names : fault_of config x ≡ by_names
  is_by_names = rw (i, r, o) refl

  pub at_input : length inputs ≡ 0 → fault_of config x ≡ Some malformed.NoInput
  at_input none = is_by_names ∙ here (no_input inputs) _ malformed.NoInput (rw none refl)

  some_input : 0 < length inputs → no_input inputs ≡ None
  some_input some = grind arith

  pub at_use : 0 < length inputs → (name : List ℕ) → first_twice references [] inputs ≡ Some name → fault_of config x ≡ Some (malformed.TwiceUsed (key.Object name))
  at_use some name twice = is_by_names ∙ further _ _ _ (some_input some) (here _ _ (malformed.TwiceUsed (key.Object name)) (ap used_twice twice))

  module _ (some : 0 < length inputs) (once : first_twice references [] inputs ≡ None) where
    pub at_owner : (trace : ℕ) → first_failing has_own_objects 0 x.tx.traces ≡ Some trace → fault_of config x ≡ Some (malformed.Foreign trace)
    at_owner trace found = is_by_names ∙ further _ _ _ (some_input some) (further _ _ _ (ap used_twice once) (here _ _ (malformed.Foreign trace) (ap foreign found)))

    module _ (own : first_failing has_own_objects 0 x.tx.traces ≡ None) where
      pub at_dep : (trace : ℕ) → first_failing has_earlier_deps 0 x.tx.traces ≡ Some trace → fault_of config x ≡ Some (malformed.Dep trace)
      at_dep trace found = is_by_names ∙ further _ _ _ (some_input some) (further _ _ _ (ap used_twice once) (further _ _ _ (ap foreign own) (here _ _ (malformed.Dep trace) (ap late_dep found))))

      pub at_dummies : (right : Bool) → first_failing has_earlier_deps 0 x.tx.traces ≡ None → right ≡ are_right config inputs (inputs ++ (references ++ outputs)) x.dummies → fault_of config x ≡ wrong_dummies right
      at_dummies right earlier is = is_by_names ∙ further _ _ _ (some_input some) (further _ _ _ (ap used_twice once) (further _ _ _ (ap foreign own) (further _ _ _ (ap late_dep earlier) (ap wrong_dummies (sym is)))))
