-- How texts are refused.
use Rattle.std.specs.Prelude.{◌≡◌, ℕ, List, [], get_or, Option, Some, None, Result, Ok, Err}
use Rattle.cs_types.specs.declared.judging.Unjudged.{Unjudged}
use Rattle.cs_types.specs.declared.judging.Unjudged.TheVariants as unjudged
use Rattle.cs_types.specs.Faults.{IsFault}
use Rattle.cs_types.specs.Accepting.{accepted_of}
use Rattle.cs_types.specs.Judging.{HasFault}
use Rattle.cs_types.specs.Accepted.{Accepted}
use Rattle.cs_approve.specs.Books.{Contracts, with_text, first_refused}
use Rattle.cs_approve.specs.declared.book.BookError.{BookError}
use Rattle.cs_approve.specs.declared.book.BookError.TheVariants as error

abbrev pub refusal_at : ℕ → Unjudged → BookError
refusal_at place unjudged.Memory = error.Memory
refusal_at place (unjudged.Faulty fault) = error.Refused place fault

-- unless memory ran out, the text at this place is the first that is refused, and this is its fault
abbrev pub IsFirstRefused : List (List ℕ) → BookError → Type 0
IsFirstRefused texts error.Memory = Unit {0}
IsFirstRefused texts (error.Refused place fault) =
    (first_refused texts ≡ Some place) × IsFault (get_or texts place []) fault

-- a text that has a fault isn't accepted, and adds nothing
abbrev pub AddsNothing : List ℕ → Unjudged → Type 0
AddsNothing text unjudged.Memory = Unit {0}
AddsNothing text (unjudged.Faulty fault) = IsFault text fault × (accepted_of text ≡ None)

-- a text that is accepted adds its contract
pub record AddsText (text : List ℕ) (before after : Contracts) : Type 0 where
  pub contract : Accepted
  pub accepted : accepted_of text ≡ Some contract
  pub added : after ≡ with_text before text

abbrev pub AddsContract : List ℕ → Contracts → Contracts → Result Unit Unjudged → Type 0
AddsContract text before after (Ok done) = AddsText text before after
AddsContract text before after (Err e) = AddsNothing text e
