-- The book of a schedule's contracts is made, since they are accepted.
use Rattle.std.proofs.Common.{◌≡◌, ℕ, ◌+◌, cond, List, [], ◌∷◌, Some, None, refl, sym, ap, ◌∙◌}
use Rattle.std.specs.List.{AllByRecursion, position_from}
use Rattle.std.proofs.lemmas.List.Elements.{recursion_from_All}
use Rattle.cs_types.specs.Accepting.{is_refused}
use Rattle.cs_sched.specs.declared.schedule.Schedule.{Schedule}
use Rattle.cs_sched.specs.Playable.{IsContractText, IsPlayable}
use Rattle.cs_approve.specs.Books.{first_refused}

none_refused : (place : ℕ) (texts : List (List ℕ)) → AllByRecursion IsContractText texts → position_from is_refused place texts ≡ None
none_refused place [] all = refl
none_refused place (text ∷ texts) all =
    ap (λ b. cond b (Some place) (position_from is_refused (place + 1) texts)) all.0.accepted ∙ none_refused (place + 1) texts all.1

-- no contract of a schedule is refused
pub never_refused : (schedule : Schedule) (place : ℕ) → IsPlayable schedule → first_refused schedule.contracts ≡ Some place → ⊥
never_refused schedule place playable refused =
    let none : first_refused schedule.contracts ≡ None =
    none_refused 0 schedule.contracts (recursion_from_All IsContractText schedule.contracts playable.contracts) in
    let same : None ≡ Some place = sym none ∙ refused in cc
