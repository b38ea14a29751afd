-- What is told last.
use Rattle.std.specs.Prelude.{◌≡◌, ◌≢◌, ℕ, ◌≤◌, List, Option, Some, None, Result, OnOk, OnErr}
use Rattle.std.specs.Io.KnownBytes.{Keeps, Appends}
use Rattle.std.proofs.Common.{refl, sym, subst, ◌∙◌, arith}
use Rattle.cs_base.specs.Answers.{Answer, Answers, AppendsFront}
use Rattle.cs_base.specs.Outside.{Rose}
use Rattle.cs_base.specs.declared.printing.WriteError.{WriteError}
use Rattle.cs_io.specs.Answers.{closing_status}
use Rattle.cs_io.proofs.Closings.{closed}

pub keeps : (written : Option (List ℕ)) → Keeps written written
keeps None = tt
keeps (Some bytes) = refl

-- an answer whose text was printed as far as it went, by the status that came of it
pub answered : (answer : Answer) (r : Result (Unit {0}) WriteError) (written written' : Option (List ℕ)) (status : ℕ) → OnOk r (Appends written written' answer.printed) → OnErr r (AppendsFront written written' answer.printed)
    → status ≡ closing_status r answer.status → Answers answer written written' status
answered answer r written written' status all part is =
    subst (λ (s : ℕ). Answers answer written written' s) (sym is) (closed answer r written written' all part)

-- the same answer, by what is printed with it
pub printed_as : (n : ℕ) (text other : List ℕ) (written written' : Option (List ℕ)) (status : ℕ) → text ≡ other → Answers (record { status = n; printed = text }) written written' status
    → Answers (record { status = n; printed = other }) written written' status
printed_as n text other written written' status is = subst (λ (t : List ℕ). Answers (record { status = n; printed = t }) written written' status) is

-- an answer has its own status, 6 or 8
pub answers_other : (answer : Answer) (written written' : Option (List ℕ)) (status n : ℕ) → Answers answer written written' status → answer.status ≢ n → 6 ≢ n → 8 ≢ n → status ≢ n
answers_other answer written written' status n answers own six eight =
    λ is. own (sym (answers.verdict (λ p. six (sym p ∙ is)) (λ p. eight (sym p ∙ is))).0 ∙ is)

-- a fault in a later part of a call is one in the call
pub rose_later : (a b c : ℕ) → a ≤ b → Rose b c → Rose a c
rose_later a b c first rose = omega arith
