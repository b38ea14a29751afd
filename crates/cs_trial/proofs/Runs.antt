-- What the command comes to, where no fault came about.
use Rattle.std.specs.Prelude.{◌≡◌, ◌≢◌, ◌+◌, ℕ, List, take, Option, Some, None, Ok, Err}
use Rattle.std.specs.Io.KnownBytes.{Appends}
use Rattle.std.proofs.Common.{inl, inr, refl, sym, subst}
use Rattle.cs_base.specs.Answers.{Answer, Answers}
use Rattle.cs_base.specs.declared.limits.TheConstants.{MOST_SCHEDULE}
use Rattle.cs_io.specs.Store.{Files}
use Rattle.cs_deploy.specs.declared.cause.Cause.{Cause}
use Rattle.cs_deploy.specs.declared.cause.Cause.TheVariants as cause
use Rattle.cs_deploy.specs.declared.cause.Untaken.{Untaken}
use Rattle.cs_deploy.specs.declared.cause.Untaken.TheVariants as untaken
use Rattle.cs_deploy.specs.Taking.{Taken, IsStoreFault, TakesFiles, FilesCome, bytes_taken}
use Rattle.cs_deploy.specs.Untaken.{TellsUntaken, untaken_answer}
use Rattle.cs_types.specs.Accepted.{Accepted}
use Rattle.cs_types.specs.Accepting.{accepted_of}
use Rattle.cs_trial.specs.Trials.{CasesAnswer}
use Rattle.cs_trial.specs.Command.{FaultAnswer, TextsAnswer, TryAnswer, Tells, TriesSource, TriesText, TryRuns, TryWhole}

-- the answer is given and all of it printed
abbrev Ends : (Answer → Type 0) → Option (List ℕ) → Option (List ℕ) → ℕ → Type 0
Ends Answered written written' status =
    (answer : Answer) × Answered answer × (status ≡ answer.status) × Appends written written' answer.printed

module _ (written written' : Option (List ℕ)) (status : ℕ) (writes : status ≢ 6) (room : status ≢ 8) where
  ended : (P : Answer → Type 0) (answer : Answer) → P answer → Answers answer written written' status → Ends P written written' status
  ended P answer is answers = let all = answers.verdict writes room in (answer, is, all.0, all.1)

  -- ---- the file isn't taken

  by-cause : (taken : Taken (List ℕ)) (cases name : List ℕ) (c : Cause) → taken ≡ Err (name, c) → Answers (untaken_answer name c) written written' status → Ends (TryAnswer taken cases) written written' status
  by-cause taken cases name c is answers =
      subst (λ (t : Taken (List ℕ)). Ends (TryAnswer t cases) written written' status) (sym is)
      (ended (λ answer. answer ≡ untaken_answer name c) (untaken_answer name c) refl answers)

  by-why : (file cases : List ℕ) (fs : Files) (why : Untaken) (Failed : Type 0) → TakesFiles (FilesCome (bytes_taken file)) (Some fs) (Err why) → (IsStoreFault why → Failed) → (Failed → ⊥) → TellsUntaken why written written' status
      → Ends (TryAnswer (bytes_taken file fs) cases) written written' status
  by-why file cases fs (untaken.Refused name cause.Fault) Failed is failed never told = absurd (never (failed tt))
  by-why file cases fs (untaken.Refused name cause.Absent) Failed is failed never told = by-cause (bytes_taken file fs) cases name cause.Absent is told
  by-why file cases fs (untaken.Refused name cause.TooLong) Failed is failed never told = by-cause (bytes_taken file fs) cases name cause.TooLong is told
  by-why file cases fs (untaken.Refused name cause.Toml) Failed is failed never told = by-cause (bytes_taken file fs) cases name cause.Toml is told
  by-why file cases fs (untaken.Refused name (cause.Field f)) Failed is failed never told = by-cause (bytes_taken file fs) cases name (cause.Field f) is told
  by-why file cases fs (untaken.Refused name (cause.Limit f)) Failed is failed never told = by-cause (bytes_taken file fs) cases name (cause.Limit f) is told
  by-why file cases fs (untaken.Refused name cause.Contract) Failed is failed never told = by-cause (bytes_taken file fs) cases name cause.Contract is told
  by-why file cases fs (untaken.Refused name cause.Key) Failed is failed never told = by-cause (bytes_taken file fs) cases name cause.Key is told
  by-why file cases fs (untaken.Refused name cause.Journal) Failed is failed never told = by-cause (bytes_taken file fs) cases name cause.Journal is told
  by-why file cases fs untaken.Memory Failed is failed never told = absurd (room told.0)

  -- ---- it is

  by-tells : (P Q : Answer → Type 0) → ((answer : Answer) → P answer → Q answer) → Tells P written written' status → Ends Q written written' status
  by-tells P Q so (inl (answer, is, answers)) = ended Q answer (so answer is) answers
  by-tells P Q so (inr silent) = absurd (room silent.0)

  by-source : (a : Accepted) (text bytes : List ℕ) (left' : Option (List ℕ)) (Failed : Type 0) → (Failed → ⊥) → accepted_of text ≡ Some a → TriesSource a text Failed (Some bytes) left' written written' status
      → Ends (TextsAnswer text (take (MOST_SCHEDULE + 1) bytes)) written written' status
  by-source a text bytes left' Failed never is (inl (failed, answers)) = absurd (never failed)
  by-source a text bytes left' Failed never is (inr read) =
      by-tells (CasesAnswer a text read.cases) (TextsAnswer text (take (MOST_SCHEDULE + 1) bytes))
      (λ answer told. inr (a, is, subst (λ (t : List ℕ). CasesAnswer a text t answer) read.is_text told)) read.told

  by-text : (text bytes : List ℕ) (left' : Option (List ℕ)) (Failed : Type 0) → (Failed → ⊥) → TriesText text Failed (Some bytes) left' written written' status
      → Ends (TextsAnswer text (take (MOST_SCHEDULE + 1) bytes)) written written' status
  by-text text bytes left' Failed never (inl (kept, tells)) =
      by-tells (FaultAnswer text) (TextsAnswer text (take (MOST_SCHEDULE + 1) bytes)) (λ answer told. inl told) tells
  by-text text bytes left' Failed never (inr (a, is, source)) = by-source a text bytes left' Failed never is source

  taken-ends : (taken : Taken (List ℕ)) (text cases : List ℕ) → taken ≡ Ok text → Ends (TextsAnswer text cases) written written' status → Ends (TryAnswer taken cases) written written' status
  taken-ends taken text cases is = subst (λ (t : Taken (List ℕ)). Ends (TryAnswer t cases) written written' status) (sym is)

  by-runs : (file : List ℕ) (fs : Files) (bytes : List ℕ) (left' : Option (List ℕ)) (StoreFailed ReadFailed : Type 0) → (StoreFailed → ⊥) → (ReadFailed → ⊥) → TryRuns file StoreFailed ReadFailed (Some fs) (Some bytes) left' written written' status
      → Ends (TryAnswer (bytes_taken file fs) (take (MOST_SCHEDULE + 1) bytes)) written written' status
  by-runs file fs bytes left' StoreFailed ReadFailed stores reads (inl (kept, un)) =
      by-why file (take (MOST_SCHEDULE + 1) bytes) fs un.why StoreFailed un.is_so un.failed stores un.told
  by-runs file fs bytes left' StoreFailed ReadFailed stores reads (inr (text, taken, tries)) =
      taken-ends (bytes_taken file fs) text (take (MOST_SCHEDULE + 1) bytes) taken (by-text text bytes left' ReadFailed reads tries)

pub runs-whole : (file : List ℕ) (files : Option Files) (left left' written written' : Option (List ℕ)) (status : ℕ) (StoreFailed ReadFailed : Type 0)
    → TryRuns file StoreFailed ReadFailed files left left' written written' status → (StoreFailed → ⊥) → (ReadFailed → ⊥) → status ≢ 6
    → TryWhole file files left written written' status
runs-whole file None left left' written written' status StoreFailed ReadFailed runs stores reads writes = λ room. tt
runs-whole file (Some fs) None left' written written' status StoreFailed ReadFailed runs stores reads writes = λ room. tt
runs-whole file (Some fs) (Some bytes) left' written written' status StoreFailed ReadFailed runs stores reads writes = λ room.
    by-runs written written' status writes room file fs bytes left' StoreFailed ReadFailed stores reads runs
