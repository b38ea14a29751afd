-- What holds of a well-formed session.
use Rattle.std.proofs.Common.{◌≡◌, ℕ, Bool, true, false, [], Option, Some, None, refl}
use Rattle.std.specs.List.{list_all}
use Rattle.std.proofs.lemmas.Bool.{and_parts}
use Rattle.cs_base.specs.Options.{or_else}
use Rattle.cs_base.specs.declared.config.Config.{Config}
use Rattle.cs_tx.specs.declared.malformed.Malformed.{Malformed}
use Rattle.cs_tx_types.specs.declared.session.Session.{Session}
use Rattle.cs_tx.specs.Uses.{inputs_of, references_of, names, used_names}
use Rattle.cs_tx.specs.WellFormed.{IsWellFormed, wrong_dummies, are_rising, wants_dummy, is_served, are_right, no_input, used_twice, first_twice, foreign, late_dep, first_failing, has_own_objects, has_earlier_deps}

neither : (a b : Option Malformed) → or_else a b ≡ None → (a ≡ None) × (b ≡ None)
neither (Some fault) b e = absurd cc
neither None b e = (refl, e)

right_dummies : (b : Bool) → wrong_dummies b ≡ None → b ≡ true
right_dummies true e = refl
right_dummies false e = absurd cc

-- no test fails
pub record Passed (config : Config) (x : Session) : Type 0 where
  pub input : no_input (names (inputs_of x.tx)) ≡ None
  pub once : used_twice (first_twice (names (references_of x.tx)) [] (names (inputs_of x.tx))) ≡ None
  pub own : foreign (first_failing has_own_objects 0 x.tx.traces) ≡ None
  pub earlier : late_dep (first_failing has_earlier_deps 0 x.tx.traces) ≡ None
  pub rising : are_rising x.dummies ≡ true
  pub wanted : list_all (λ dummy. wants_dummy config (names (inputs_of x.tx)) (used_names x.tx) dummy.0) x.dummies ≡ true
  pub served : list_all (is_served config (names (inputs_of x.tx)) x.dummies) (used_names x.tx) ≡ true

pub passed : (config : Config) (x : Session) → IsWellFormed config x → Passed config x
passed config x e =
    let a = neither _ _ e in
    let b = neither _ _ a.1 in
    let c = neither _ _ b.1 in
    let d = neither _ _ c.1 in
    let right : are_right config (names (inputs_of x.tx)) (used_names x.tx) x.dummies ≡ true = right_dummies _ d.1 in
    let f = and_parts (are_rising x.dummies) _ right in
    let g = and_parts (list_all (λ (dummy : ℕ × ℕ). wants_dummy config (names (inputs_of x.tx)) (used_names x.tx) dummy.0) x.dummies) _ f.1 in
    record { input = a.0; once = b.0; own = c.0; earlier = d.0; rising = f.0; wanted = g.0; served = g.1 }
