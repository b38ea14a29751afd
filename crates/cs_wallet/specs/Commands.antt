-- The commands of a wallet, by the files before and after, what was printed, and the status.
use Rattle.std.specs.Prelude.{◌≡◌, ◌≢◌, ◌⊎◌, ℕ, nat_le, List, [], ◌∷◌, ◌++◌, codes, Option, IfSome, IsSomeAnd, Result, Ok, Err, if◌then◌else◌}
use Rattle.std.specs.Fmt.{decimal}
use Rattle.hex.specs.Hex.{encode_lower}
use Rattle.cs_base.specs.Answers.{Answer, Answers}
use Rattle.cs_io.specs.Told.{Changes, Stays}
use Rattle.cs_io.specs.Store.{Files, OthersStay}
use Rattle.cs_io.specs.declared.store.Saved.{Saved}
use Rattle.cs_io.specs.declared.store.Saved.TheVariants as save
use Rattle.cs_onetime.specs.Halves.{public_key}
use Rattle.cs_onetime.specs.Signature.{signature}
use Rattle.cs_onetime.specs.Wallet.{after_signing}
use Rattle.cs_onetime.specs.declared.wallet.Wallet.{Wallet}
use Rattle.cs_onetime.specs.declared.wallet.TheConstants.{LAST_NUMBER}
use Rattle.cs_onetime.specs.declared.wallet.WalletError.{WalletError}
use Rattle.cs_onetime.specs.declared.wallet.WalletError.TheVariants as refused
use Rattle.cs_wallet.specs.File.{wallet_of}
use Rattle.cs_wallet.specs.Refusals.{refusal_answer, wallet_taken, Takes, IsUntaken, IsSilent}
use Rattle.cs_wallet.specs.declared.calls.WalletCall.{WalletCall}
use Rattle.cs_wallet.specs.declared.calls.WalletCall.TheVariants.{New, Key, Sign}
use Rattle.cs_wallet.specs.declared.cause.Cause.{Cause}
use Rattle.cs_wallet.specs.declared.cause.Cause.TheVariants as cause

-- ---- what is printed

-- `key N DIGEST`
abbrev pub key_answer : ℕ → Wallet → Answer
key_answer number wallet = record {
  status = 0;
  printed = codes "key " ++ (decimal number ++ (codes " " ++ (encode_lower (public_key wallet.seed number) ++ codes "\n")));
}

-- a line `part HEX` for each text
abbrev pub part_lines : List (List ℕ) → List ℕ
part_lines [] = []
part_lines (text ∷ texts) = codes "part " ++ (encode_lower text ++ (codes "\n" ++ part_lines texts))

abbrev pub parts_answer : Wallet → ℕ → List ℕ → Answer
parts_answer wallet number message = record { status = 0; printed = part_lines (signature wallet.seed number message) }

abbrev pub nothing_answer : Answer
nothing_answer = record { status = 0; printed = [] }

-- the number has signed another message; or a new number is one too many
abbrev pub used_answer : Answer
used_answer = record { status = 3; printed = codes "refused call used\n" }

abbrev pub full_answer : Answer
full_answer = record { status = 13; printed = codes "limit wallet\n" }

-- ---- saving a wallet

-- the file of this name holds the wallet, by what is read of it
abbrev pub HoldsWallet : List ℕ → Wallet → Files → Type 0
HoldsWallet name wallet files = IsSomeAnd (files name) (λ bytes. wallet_of bytes ≡ Ok wallet)

-- it does; or else it does or is as it was
abbrev pub SavesWallet : List ℕ → Wallet → Saved → Files → Files → Type 0
SavesWallet name wallet save.Done before now = HoldsWallet name wallet now × OthersStay name before now
SavesWallet name wallet save.Failed before now =
    (HoldsWallet name wallet now ⊎ (now name ≡ before name)) × OthersStay name before now
SavesWallet name wallet save.Memory before now =
    (HoldsWallet name wallet now ⊎ (now name ≡ before name)) × OthersStay name before now

-- The answer is given only where the wallet is saved. Where the store failed just that is told, and where memory ran
-- out nothing.
abbrev pub TellsSaved : List ℕ → Answer → Saved → Option (List ℕ) → Option (List ℕ) → ℕ → Type 0
TellsSaved name answer save.Done written written' status = Answers answer written written' status
TellsSaved name answer save.Failed written written' status =
    Answers (refusal_answer name cause.Fault) written written' status
TellsSaved name answer save.Memory written written' status = IsSilent written written' status

-- the wallet is saved first, and then the answer is given
pub record SavesFirst (name : List ℕ) (wallet : Wallet) (answer : Answer) (StoreFailed : Type 0)
    (files files' : Option Files) (written written' : Option (List ℕ)) (status : ℕ) : Type 0 where
  pub saved : Saved
  pub made : Changes (SavesWallet name wallet saved) files files'
  pub failed : saved ≡ save.Failed → StoreFailed
  pub told : TellsSaved name answer saved written written' status

-- ---- the commands

-- `wallet new`: a wallet of the seed is saved
abbrev pub NewRuns : List ℕ → List ℕ → Type 0 → Option Files → Option Files → Option (List ℕ) → Option (List ℕ) → ℕ
    → Type 0
NewRuns name seed = SavesFirst name (record { seed = seed; used = [] }) nothing_answer

-- `wallet key`: the public key of the number is printed
abbrev pub KeyRuns : List ℕ → ℕ → Type 0 → Option Files → Option (List ℕ) → Option (List ℕ) → ℕ → Type 0
KeyRuns name number StoreFailed files written written' status =
    IsUntaken name StoreFailed files written written' status
    ⊎ ((wallet : Wallet) × Takes name files (Ok wallet) × Answers (key_answer number wallet) written written' status)

-- a wallet signs, and is saved with the number used; or it refuses, and the files stay
abbrev pub SignsFirst : List ℕ → Result Wallet WalletError → Answer → Type 0 → Option Files → Option Files
    → Option (List ℕ) → Option (List ℕ) → ℕ → Type 0
SignsFirst name (Ok wallet) answer StoreFailed files files' written written' status =
    SavesFirst name wallet answer StoreFailed files files' written written' status
SignsFirst name (Err refused.Used) answer StoreFailed files files' written written' status =
    Stays files files' × Answers used_answer written written' status
SignsFirst name (Err refused.Full) answer StoreFailed files files' written written' status =
    Stays files files' × Answers full_answer written written' status
SignsFirst name (Err refused.Memory) answer StoreFailed files files' written written' status = ⊥

-- the wallet once the number has signed the message, or why it can't; a number that TOML hasn't is past the limit
abbrev pub signing : Wallet → ℕ → List ℕ → Result Wallet WalletError
signing wallet number message =
    if nat_le number LAST_NUMBER then after_signing wallet number message else Err refused.Full

-- `wallet sign`: the wallet of the file signs
abbrev pub SignRuns : List ℕ → ℕ → List ℕ → Type 0 → Option Files → Option Files → Option (List ℕ) → Option (List ℕ)
    → ℕ → Type 0
SignRuns name number message StoreFailed files files' written written' status =
    (Stays files files' × IsUntaken name StoreFailed files written written' status)
    ⊎ ((wallet : Wallet) × Takes name files (Ok wallet)
    × SignsFirst name (signing wallet number message) (parts_answer wallet number message)
    StoreFailed files files' written written' status)

-- what a command of a wallet comes to
abbrev pub WalletRuns : WalletCall → List ℕ → Type 0 → Option Files → Option Files → Option (List ℕ) → Option (List ℕ)
    → ℕ → Type 0
WalletRuns (New seed) name StoreFailed files files' written written' status =
    NewRuns name seed StoreFailed files files' written written' status
WalletRuns (Key number) name StoreFailed files files' written written' status =
    Stays files files' × KeyRuns name number StoreFailed files written written' status
WalletRuns (Sign number message) name StoreFailed files files' written written' status =
    SignRuns name number message StoreFailed files files' written written' status

-- ---- without faults

abbrev pub signed_status : Result Wallet WalletError → ℕ
signed_status (Ok wallet) = 0
signed_status (Err refused.Used) = 3
signed_status (Err refused.Full) = 13
signed_status (Err refused.Memory) = 8

-- the status of a command over a wallet that is taken
abbrev pub status_over : WalletCall → Wallet → ℕ
status_over (New seed) wallet = 0
status_over (Key number) wallet = 0
status_over (Sign number message) wallet = signed_status (signing wallet number message)

abbrev pub status_by : WalletCall → Result Wallet Cause → ℕ
status_by call (Ok wallet) = status_over call wallet
status_by call (Err cause) = 12

-- where no fault came about the file decides, unless memory ran out; a new wallet takes none
abbrev pub WalletDecided : WalletCall → List ℕ → Option Files → ℕ → Type 0
WalletDecided (New seed) name files status = status ≢ 8 → status ≡ 0
WalletDecided (Key number) name files status =
    status ≢ 8 → IfSome files (λ told. status ≡ status_by (Key number) (wallet_taken name told))
WalletDecided (Sign number message) name files status =
    status ≢ 8 → IfSome files (λ told. status ≡ status_by (Sign number message) (wallet_taken name told))
