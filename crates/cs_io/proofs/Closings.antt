-- How a command ends.
use Rattle.std.specs.Prelude.{◌≡◌, ◌≢◌, ℕ, List, [], ◌++◌, Option, Result, Ok, Err, OnOk, OnErr}
use Rattle.std.specs.Io.KnownBytes.{Appends}
use Rattle.std.proofs.Common.{refl, sym, append-nil}
use Rattle.cs_base.specs.Answers.{Answer, Answers, AppendsFront}
use Rattle.cs_base.specs.declared.printing.WriteError.{WriteError}
use Rattle.cs_base.specs.declared.printing.WriteError.TheVariants as write
use Rattle.cs_io.specs.Answers.{closing_status}

-- an answer whose text was printed as far as it went
pub closed : (answer : Answer) (r : Result (Unit {0}) WriteError) (written written' : Option (List ℕ)) → OnOk r (Appends written written' answer.printed) → OnErr r (AppendsFront written written' answer.printed)
    → Answers answer written written' (closing_status r answer.status)
closed answer (Ok done) written written' all part = record {
  verdict = λ x y. (refl, all);
  cut_short = λ ended. (answer.printed, [], sym (append-nil answer.printed), all);
}
closed answer (Err write.Failed) written written' all part = record { verdict = λ x y. absurd (x refl); cut_short = λ ended. part }
closed answer (Err write.Memory) written written' all part = record { verdict = λ x y. absurd (y refl); cut_short = λ ended. part }

-- the status of a command's end is its own, 6 or 8
pub closing-other : (r : Result (Unit {0}) WriteError) (status n : ℕ) → status ≢ n → 6 ≢ n → 8 ≢ n → closing_status r status ≢ n
closing-other (Ok done) status n own six eight = own
closing-other (Err write.Failed) status n own six eight = six
closing-other (Err write.Memory) status n own six eight = eight

-- it is 6 where the sink failed alone, unless it is so itself
pub closing-failed : (r : Result (Unit {0}) WriteError) (status : ℕ) → status ≢ 6 → closing_status r status ≡ 6 → r ≡ Err write.Failed
closing-failed (Ok done) status own is = absurd (own is)
closing-failed (Err write.Failed) status own is = refl
closing-failed (Err write.Memory) status own is = absurd (cc)
