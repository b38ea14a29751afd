-- A wallet: the seed of its keys, and the message that each used number has signed.
use Rattle.std.specs.Prelude.{◌≡◌, ℕ, nat_lt, Bool, true, false, ◌==◌, List, [], ◌∷◌, ◌++◌, length, Option, Some, None, Result, Ok, Err, if◌then◌else◌, IsTrue, ◌⊎◌}
use Rattle.std.specs.Str.{bytes_eq}
use Rattle.cs_onetime.specs.declared.wallet.Wallet.{Wallet}
use Rattle.cs_onetime.specs.declared.wallet.WalletError.{WalletError}
use Rattle.cs_onetime.specs.declared.wallet.WalletError.TheVariants.{Used, Full, Memory}
use Rattle.cs_onetime.specs.declared.wallet.TheConstants.{MOST_USED}

-- the message that a number has signed
abbrev pub message_of : ℕ → List (ℕ × List ℕ) → Option (List ℕ)
message_of number [] = None
message_of number (signed ∷ used) = if signed.0 == number then Some signed.1 else message_of number used

-- the wallet once the number has signed the message, or why it can't, by what the number signed earlier
abbrev pub signed_after : Option (List ℕ) → Wallet → ℕ → List ℕ → Result Wallet WalletError
signed_after (Some earlier) wallet number message = if bytes_eq earlier message then Ok wallet else Err Used
signed_after None wallet number message =
    if nat_lt (length wallet.used) MOST_USED
    then Ok (record { seed = wallet.seed; used = wallet.used ++ (number, message) ∷ [] })
    else Err Full

abbrev pub after_signing : Wallet → ℕ → List ℕ → Result Wallet WalletError
after_signing wallet number message = signed_after (message_of number wallet.used) wallet number message

-- a signature was given and the wallet is that, or it was refused so, unless memory ran out
abbrev pub SignsBy : {A : Type 0} → Result Wallet WalletError → Wallet → Result A WalletError → Type 0
SignsBy after new (Ok texts) = after ≡ Ok new
SignsBy after new (Err Used) = after ≡ Err Used
SignsBy after new (Err Full) = after ≡ Err Full
SignsBy after new (Err Memory) = Unit {0}

-- ---- lists of calls

-- a call of `sign`, and whether it gave a signature
pub record Call : Type 0 where
  pub number : ℕ
  pub message : List ℕ
  pub signs : Bool

-- the wallet after a call; one that gives none leaves it
abbrev pub Goes : Bool → Wallet → Call → Wallet → Type 0
Goes true old call new = after_signing old call.number call.message ≡ Ok new
Goes false old call new = new ≡ old

abbrev pub CallGoes : Wallet → Call → Wallet → Type 0
CallGoes old call new = Goes call.signs old call new

-- one after the other
abbrev pub CallsGo : Wallet → List Call → Wallet → Type 0
CallsGo old [] new = new ≡ old
CallsGo old (call ∷ calls) new = (next : Wallet) × CallGoes old call next × CallsGo next calls new

-- one of the calls signed this message under this number
abbrev pub IsSigned : ℕ → List ℕ → List Call → Type 0
IsSigned number message [] = ⊥
IsSigned number message (call ∷ calls) =
    (IsTrue call.signs × (call.number ≡ number) × (call.message ≡ message)) ⊎ IsSigned number message calls
