-- The calls of an object in memory that are to fail.
use Rattle.std.specs.Prelude.{◌≡◌, ◌↔◌, ℕ, ◌+◌, ◌-◌, ◌^◌, ◌==◌, min, List, [], Bool, IsTrue}
use Rattle.std.specs.List.{list_any}
use Rattle.cs_base.specs.declared.failures.Failures.{Failures}

-- before the first call
abbrev pub uncalled : List ℕ → Failures
uncalled numbers = record { numbers = numbers; calls = 0; faults = 0 }

-- whether the next call is listed among those that are to fail
abbrev pub call_is_listed : Failures → Bool
call_is_listed failures = list_any (λ number. number == failures.calls) failures.numbers

-- a call was counted, and failed exactly where it is listed; with an empty list the count of faults stays
pub record CountsCall (old new : Failures) (Fails : Type 0) : Type 0 where
  pub listed : Fails ↔ IsTrue (call_is_listed old)
  pub numbers : new.numbers ≡ old.numbers
  pub calls : new.calls ≡ min (old.calls + 1) (2 ^ 64 - 1)
  pub steady : old.numbers ≡ [] → new.faults ≡ old.faults
