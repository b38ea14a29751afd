-- How the command ends.
use Rattle.std.specs.Prelude.{◌≡◌, ◌≢◌, ℕ, ◌+◌, ◌<◌, ◌≤◌, Bool, true, false, List, nat_lt, length, take, Option, Some, None, Result, Ok, Err, OnOk, OnErr}
use Rattle.std.specs.Io.KnownBytes.{Keeps, Appends}
use Rattle.std.proofs.Common.{refl, sym, subst, ap, ◌∙◌, inl, inr}
use Rattle.std.proofs.lemmas.Bool.{lt-ltb, le-ltb}
use Rattle.cs_base.specs.Answers.{Answer, Answers, AppendsFront}
use Rattle.cs_base.specs.declared.limits.TheConstants.{MOST_SCHEDULE}
use Rattle.cs_base.specs.declared.printing.WriteError.{WriteError}
use Rattle.cs_base.specs.declared.printing.WriteError.TheVariants as write
use Rattle.cs_io.specs.Answers.{closing_status}
use Rattle.cs_io.proofs.Closings.{closed, closing-other, closing-failed}
use Rattle.cs_tx_types.specs.declared.transaction.Tx.{Tx}
use Rattle.cs_transact.specs.Command.{said_answer, long_answer, UnlessLong, TransactionAnswer, TransactionTold, TransactionRuns, TransactionWhole}
use Rattle.cs_transact.specs.Says.{TextSays}
use Rattle.cs_transact.specs.declared.refusal.Refusal.{Refusal}

pub kept : (written : Option (List ℕ)) → Keeps written written
kept None = tt
kept (Some bytes) = refl

-- ---- which statuses answers have

-- none of these
abbrev pub Apart : ℕ → Type 0
Apart n = (0 ≢ n) × (3 ≢ n) × (13 ≢ n)

said-other : (number : Option ℕ) (said : Result Tx Refusal) (n : ℕ) → Apart n → (said_answer number said).status ≢ n
said-other number (Ok tx) n apart = apart.0
said-other number (Err refusal) n apart = apart.1

module _ (number : Option ℕ) (text : List ℕ) (answer : Answer) (n : ℕ) (apart : Apart n) where
  unless-other : (long : Bool) → UnlessLong long number text answer → answer.status ≢ n
  unless-other true is = λ same. apart.2 (sym (ap (λ (x : Answer). x.status) is) ∙ same)
  unless-other false told = λ same. said-other number told.0 n apart (sym (ap (λ (x : Answer). x.status) told.2) ∙ same)

  pub answer-other : TransactionAnswer number text answer → answer.status ≢ n
  answer-other is = unless-other (nat_lt MOST_SCHEDULE (length text)) is

-- ---- what is answered to a text

module _ (number : Option ℕ) (text : List ℕ) (answer : Answer) where
  pub told-long : MOST_SCHEDULE < length text → answer ≡ long_answer → TransactionAnswer number text answer
  told-long long is = subst (λ (b : Bool). UnlessLong b number text answer) (sym (lt-ltb MOST_SCHEDULE (length text) long)) is

  pub told-said : (said : Result Tx Refusal) → length text ≤ MOST_SCHEDULE → TextSays text said → answer ≡ said_answer number said → TransactionAnswer number text answer
  told-said said short says is = subst (λ (b : Bool). UnlessLong b number text answer) (sym (le-ltb MOST_SCHEDULE (length text) short)) (said, says, is)

-- ---- what is printed last

module _ (answer : Answer) (r : Result (Unit {0}) WriteError) (status : ℕ) (ends : status ≡ closing_status r answer.status) where
  pub printed-answers : (shown : List ℕ) (written written' : Option (List ℕ)) → shown ≡ answer.printed → OnOk r (Appends written written' shown) → OnErr r (AppendsFront written written' shown)
      → Answers answer written written' status
  printed-answers shown written written' same all part =
      subst (λ (s : ℕ). Answers answer written written' s) (sym ends)
      (closed answer r written written' (subst (λ (printed : List ℕ). OnOk r (Appends written written' printed)) same all)
      (subst (λ (printed : List ℕ). OnErr r (AppendsFront written written' printed)) same part))

  pub printed-other : (n : ℕ) → answer.status ≢ n → 6 ≢ n → 8 ≢ n → status ≢ n
  printed-other n own six eight = λ is. closing-other r answer.status n own six eight (sym ends ∙ is)

  pub printed-failed : answer.status ≢ 6 → status ≡ 6 → r ≡ Err write.Failed
  printed-failed own six = closing-failed r answer.status own (sym ends ∙ six)

-- ---- where no fault came about

module _ (number : Option ℕ) (written written' : Option (List ℕ)) (status : ℕ) (writes : status ≢ 6) (room : status ≢ 8) where
  told-whole : (text bytes : List ℕ) → text ≡ take (MOST_SCHEDULE + 1) bytes → TransactionTold number text written written' status
      → (answer : Answer) × TransactionAnswer number (take (MOST_SCHEDULE + 1) bytes) answer × (status ≡ answer.status) × Appends written written' answer.printed
  told-whole text bytes is (inl (answer, told, answers)) =
      let all = answers.verdict writes room in
      (answer, subst (λ (t : List ℕ). TransactionAnswer number t answer) is told, all.0, all.1)
  told-whole text bytes is (inr (short, keeps)) = absurd (room short)

pub runs-whole : (number : Option ℕ) (left left' written written' : Option (List ℕ)) (Failed : Type 0) (status : ℕ)
    → TransactionRuns number Failed left left' written written' status → (Failed → ⊥) → status ≢ 6 → TransactionWhole number left written written' status
runs-whole number left left' written written' Failed status (inl (failed, answers)) reads writes = absurd (reads failed)
runs-whole number None left' written written' Failed status (inr read) reads writes = λ room. tt
runs-whole number (Some bytes) left' written written' Failed status (inr read) reads writes = λ room.
    told-whole number written written' status writes room read.text bytes read.is_text read.told
