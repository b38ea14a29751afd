-- The check of an accepted contract meets no value of a wrong kind.
use Rattle.std.proofs.Common.{◌≡◌, ℕ, Bool, true, Option, None, Some, List, [], ◌∷◌, zero, suc, refl, subst}
use Rattle.std.specs.Prelude.{slice_get}
use Rattle.cs_lang.specs.declared.tree.ContractTree.{ContractTree}
use Rattle.cs_lang.specs.declared.tree.Method.{Method}
use Rattle.cs_lang.specs.Fits.{every, block_fits, method_fits}
use Rattle.cs_types_kinds.specs.Scopes.{InSight}
use Rattle.cs_types_kinds.specs.Lookups.{method_number}
use Rattle.cs_types.specs.Stating.{takes_many}
use Rattle.cs_types.specs.Declaring.{method_names}
use Rattle.cs_types.specs.Accepted.{Accepted, IsAccepted}
use Rattle.cs_eval_values.specs.declared.view.View.{View}
use Rattle.cs_eval_values.specs.Runs.{Run, Gave, Answered, Trapped}
use Rattle.cs_eval_values.specs.Namings.{Named}
use Rattle.cs_eval_values.specs.Filling.{filled}
use Rattle.cs_eval_law.specs.Acting.{block_run}
use Rattle.cs_eval_law.specs.Checks.{method_at, fitted_run, method_run, check_run, IsKinded}
use Rattle.cs_eval_law.proofs.Within.{some_is}
use Rattle.cs_eval_law.proofs.ExprFits.{told_bind}
use Rattle.cs_eval_law.proofs.MethodFits.{filled_alike, CheckTold, accepted_check}
use Rattle.cs_eval_law.proofs.MethodSound.{filled_kinded}
use Rattle.cs_eval_law.proofs.Sound.{Sound}
use Rattle.cs_eval_law.proofs.Kinded.{true_and}
use Rattle.cs_eval_law.proofs.BlockSound.{block_yields}
use Rattle.cs_eval_law.proofs.Bounds.{spends_within}
use Rattle.cs_eval_law.proofs.Roomy.{places_within}

sound_kinded : {X : Type 0} (P : X → Type 0) (r : Run X) → Sound P r → IsKinded r
sound_kinded P (Gave x n) h = tt
sound_kinded P (Answered b n) h = tt
sound_kinded P (Trapped why place n) h = h

method_kept : (ms : List Method) (i : ℕ) (m : Method) → every method_fits ms ≡ true → slice_get ms i ≡ Some m → block_fits m.check ≡ true
method_kept [] i m all at = absurd cc
method_kept (n ∷ ns) zero m all at =
    let here = true_and (method_fits n) (every method_fits ns) all in
    let P : Method → Type 0 = λ x. block_fits x.check ≡ true in
    subst P (some_is n m at) (true_and (block_fits n.procedure) (block_fits n.check) here.0).1
method_kept (n ∷ ns) (suc i) m all at = method_kept ns i m (true_and (method_fits n) (every method_fits ns) all).1 at

told_kinded : (contract : ContractTree) (m : Method) (view : View) (names : List Named) (c : ℕ) → block_fits m.check ≡ true → CheckTold contract m c → filled contract m view ≡ Some names
    → IsKinded (block_run contract view m.check names)
told_kinded contract m view names c fit told is =
    let named = told_bind (method_names contract.types true m) _ c told.1 in
    let sight : InSight = record { contract = contract; costs = told.0; starred = takes_many m; in_check = true; names = named.0 } in
    sound_kinded _ (block_run contract view m.check names)
    (block_yields m.check fit view sight refl names (filled_alike contract m view named.0 names named.1 is, filled_kinded contract m view names is) c named.2)

module _ (a : Accepted) (is : IsAccepted a) (view : View) where
  fitted_kinded : (m : Method) (c : ℕ) → block_fits m.check ≡ true → CheckTold a.contract m c → (o : Option (List Named)) → filled a.contract m view ≡ o
      → IsKinded (fitted_run a.contract m view o)
  fitted_kinded m c fit told None fits = tt
  fitted_kinded m c fit told (Some names) fits = told_kinded a.contract m view names c fit told fits

  method_kinded : (i : ℕ) (o : Option Method) → slice_get a.contract.methods i ≡ o → IsKinded (method_run a.contract view o)
  method_kinded i None at = tt
  method_kinded i (Some m) at =
      let found = accepted_check a is i m at in
      fitted_kinded m found.0.check (method_kept a.contract.methods i m is.fits at) found.3 (filled a.contract m view) refl

  number_kinded : (o : Option ℕ) → IsKinded (method_run a.contract view (method_at a.contract.methods o))
  number_kinded None = tt
  number_kinded (Some i) = method_kinded i (slice_get a.contract.methods i) refl

  pub check_kinded : (method : List ℕ) → IsKinded (check_run a.contract method view)
  check_kinded method = number_kinded (method_number method a.contract.methods)

pub ruleset lawful = (spends_within, check_kinded, places_within)
