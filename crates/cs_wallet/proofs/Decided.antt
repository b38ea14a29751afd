-- Without faults the file alone decides, and each status comes of a definition.
use Rattle.std.specs.Prelude.{◌≡◌, ◌≢◌, ℕ, List, Option, Some, None, Result, Ok, Err}
use Rattle.std.proofs.Common.{inl, inr, refl, sym, ap, ◌∙◌}
use Rattle.cs_base.specs.Answers.{Answer, Answers}
use Rattle.cs_io.specs.Store.{Files}
use Rattle.cs_io.specs.declared.store.Saved.{Saved}
use Rattle.cs_io.specs.declared.store.Saved.TheVariants as save
use Rattle.cs_onetime.specs.declared.wallet.Wallet.{Wallet}
use Rattle.cs_onetime.specs.declared.wallet.WalletError.{WalletError}
use Rattle.cs_onetime.specs.declared.wallet.WalletError.TheVariants as refused
use Rattle.cs_wallet.specs.Refusals.{refusal_answer, wallet_taken, IsRefusal, IsStoreFault, TellsUntaken}
use Rattle.cs_wallet.specs.Commands.{key_answer, parts_answer, nothing_answer, signing, signed_status, status_by, TellsSaved, SignsFirst, NewRuns, KeyRuns, SignRuns, WalletDecided}
use Rattle.cs_wallet.specs.declared.calls.WalletCall.{WalletCall}
use Rattle.cs_wallet.specs.declared.calls.WalletCall.TheVariants.{New, Key, Sign}
use Rattle.cs_wallet.specs.declared.cause.Cause.{Cause}
use Rattle.cs_wallet.specs.declared.cause.Cause.TheVariants as cause
use Rattle.cs_wallet.specs.declared.cause.Untaken.{Untaken}
use Rattle.cs_wallet.specs.declared.cause.Untaken.TheVariants as untaken

-- a status that is neither 6 nor 8 is the answer's
own_status : (answer : Answer) (written written' : Option (List ℕ)) (status : ℕ) → Answers answer written written' status → status ≢ 6 → status ≢ 8 → status ≡ answer.status
own_status answer written written' status answers six eight = (answers.verdict six eight).0

refused-by : (call : WalletCall) (name : List ℕ) (told : Files) (why : Cause) (status : ℕ) → wallet_taken name told ≡ Err why → status ≡ 12 → status ≡ status_by call (wallet_taken name told)
refused-by call name told why status is twelve = twelve ∙ ap (status_by call) (sym is)

-- a file that isn't taken
untaken-decided : (call : WalletCall) (name : List ℕ) (Failed : Type 0) (told : Files) (written written' : Option (List ℕ)) (status : ℕ) → (why : Untaken) → IsRefusal name (Some told) why → (IsStoreFault why → Failed) → TellsUntaken name why written written' status
    → (Failed → ⊥) → status ≢ 6 → status ≢ 8 → status ≡ status_by call (wallet_taken name told)
untaken-decided call name Failed told written written' status (untaken.Refused cause.Fault) is failed tells none six eight = absurd (none (failed tt))
untaken-decided call name Failed told written written' status (untaken.Refused cause.Absent) is failed tells none six eight = refused-by call name told cause.Absent status is (own_status (refusal_answer name cause.Absent) written written' status tells six eight)
untaken-decided call name Failed told written written' status (untaken.Refused cause.TooLong) is failed tells none six eight = refused-by call name told cause.TooLong status is (own_status (refusal_answer name cause.TooLong) written written' status tells six eight)
untaken-decided call name Failed told written written' status (untaken.Refused cause.Toml) is failed tells none six eight = refused-by call name told cause.Toml status is (own_status (refusal_answer name cause.Toml) written written' status tells six eight)
untaken-decided call name Failed told written written' status (untaken.Refused cause.Seed) is failed tells none six eight = refused-by call name told cause.Seed status is (own_status (refusal_answer name cause.Seed) written written' status tells six eight)
untaken-decided call name Failed told written written' status (untaken.Refused cause.Used) is failed tells none six eight = refused-by call name told cause.Used status is (own_status (refusal_answer name cause.Used) written written' status tells six eight)
untaken-decided call name Failed told written written' status (untaken.Refused cause.LimitUsed) is failed tells none six eight = refused-by call name told cause.LimitUsed status is (own_status (refusal_answer name cause.LimitUsed) written written' status tells six eight)
untaken-decided call name Failed told written written' status untaken.Memory is failed tells none six eight = absurd (eight tells.0)

-- a wallet that is saved first
saves-decided : (name : List ℕ) (answer : Answer) (Failed : Type 0) (saved : Saved) (written written' : Option (List ℕ)) (status : ℕ) → (saved ≡ save.Failed → Failed) → TellsSaved name answer saved written written' status
    → (Failed → ⊥) → status ≢ 6 → status ≢ 8 → status ≡ answer.status
saves-decided name answer Failed save.Done written written' status failed tells none six eight = own_status answer written written' status tells six eight
saves-decided name answer Failed save.Failed written written' status failed tells none six eight = absurd (none (failed refl))
saves-decided name answer Failed save.Memory written written' status failed tells none six eight = absurd (eight tells.0)

pub new-decided : (name seed : List ℕ) (Failed : Type 0) (files files' : Option Files) (written written' : Option (List ℕ)) (status : ℕ) → NewRuns name seed Failed files files' written written' status
    → (Failed → ⊥) → status ≢ 6 → WalletDecided (New seed) name files status
new-decided name seed Failed files files' written written' status runs none six =
    λ eight. saves-decided name nothing_answer Failed runs.saved written written' status runs.failed runs.told none six eight

pub key-decided : (name : List ℕ) (number : ℕ) (Failed : Type 0) (files : Option Files) (written written' : Option (List ℕ)) (status : ℕ) → KeyRuns name number Failed files written written' status
    → (Failed → ⊥) → status ≢ 6 → WalletDecided (Key number) name files status
key-decided name number Failed None written written' status runs none six = λ eight. tt
key-decided name number Failed (Some told) written written' status (inl is) none six = λ eight.
    untaken-decided (Key number) name Failed told written written' status is.why is.is_so is.failed is.told none six eight
key-decided name number Failed (Some told) written written' status (inr (wallet, takes, answers)) none six = λ eight.
    own_status (key_answer number wallet) written written' status answers six eight ∙ ap (status_by (Key number)) (sym takes)

signs-status : (name : List ℕ) (after : Result Wallet WalletError) (answer : Answer) (Failed : Type 0) (files files' : Option Files) (written written' : Option (List ℕ)) (status : ℕ) → answer.status ≡ 0 → SignsFirst name after answer Failed files files' written written' status
    → (Failed → ⊥) → status ≢ 6 → status ≢ 8 → status ≡ signed_status after
signs-status name (Ok wallet) answer Failed files files' written written' status own is none six eight =
    saves-decided name answer Failed is.saved written written' status is.failed is.told none six eight ∙ own
signs-status name (Err refused.Used) answer Failed files files' written written' status own is none six eight = (is.1.verdict six eight).0
signs-status name (Err refused.Full) answer Failed files files' written written' status own is none six eight = (is.1.verdict six eight).0
signs-status name (Err refused.Memory) answer Failed files files' written written' status own is none six eight = absurd is

pub sign-decided : (name : List ℕ) (number : ℕ) (message : List ℕ) (Failed : Type 0) (files files' : Option Files) (written written' : Option (List ℕ)) (status : ℕ) → SignRuns name number message Failed files files' written written' status
    → (Failed → ⊥) → status ≢ 6 → WalletDecided (Sign number message) name files status
sign-decided name number message Failed None files' written written' status runs none six = λ eight. tt
sign-decided name number message Failed (Some told) files' written written' status (inl is) none six = λ eight.
    untaken-decided (Sign number message) name Failed told written written' status is.1.why is.1.is_so is.1.failed is.1.told none six eight
sign-decided name number message Failed (Some told) files' written written' status (inr (wallet, takes, signs)) none six = λ eight.
    signs-status name (signing wallet number message) (parts_answer wallet number message) Failed (Some told) files' written written' status refl signs none six eight
    ∙ ap (status_by (Sign number message)) (sym takes)
