-- Wallets that a file can hold.
use Rattle.std.specs.Prelude.{◌≡◌, ℕ, ◌≤◌, Bool, true, not, ◌&&◌, ◌==◌, List, [], ◌∷◌, length}
use Rattle.std.specs.List.{list_any}
use Rattle.cs_config.specs.Printed.{IsDigest}
use Rattle.cs_onetime.specs.declared.wallet.Wallet.{Wallet}
use Rattle.cs_onetime.specs.declared.wallet.TheConstants.{LAST_NUMBER, MOST_USED}

-- a number that TOML has, and a message of 32 bytes
pub record SignedFits (signed : ℕ × List ℕ) : Type 0 where
  pub number : signed.0 ≤ LAST_NUMBER
  pub message : IsDigest signed.1

abbrev pub AllSignedFit : List (ℕ × List ℕ) → Type 0
AllSignedFit [] = Unit {0}
AllSignedFit (signed ∷ used) = SignedFits signed × AllSignedFit used

-- one of the numbers is this one
abbrev pub is_used : ℕ → List (ℕ × List ℕ) → Bool
is_used number used = list_any (λ signed. signed.0 == number) used

-- no number stands twice
abbrev pub are_once : List (ℕ × List ℕ) → Bool
are_once [] = true
are_once (signed ∷ used) = not (is_used signed.0 used) && are_once used

pub record UsedFits (used : List (ℕ × List ℕ)) : Type 0 where
  pub few : length used ≤ MOST_USED
  pub fit : AllSignedFit used
  pub once : are_once used ≡ true

pub record WalletFits (wallet : Wallet) : Type 0 where
  pub seed : IsDigest wallet.seed
  pub used : UsedFits wallet.used
