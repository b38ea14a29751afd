-- What a save leaves of a wallet.
use Rattle.std.proofs.Common.{◌≡◌, ℕ, List, Option, Some, None, Ok, inl, inr, refl, subst, sym}
use Rattle.std.specs.Prelude.{IsSomeAnd, ◌⊎◌}
use Rattle.cs_io.specs.Told.{Changes}
use Rattle.cs_io.specs.Store.{Files, Saves}
use Rattle.cs_io.specs.declared.store.Saved.{Saved}
use Rattle.cs_io.specs.declared.store.Saved.TheVariants.{Done, Failed, Memory}
use Rattle.cs_onetime.specs.declared.wallet.Wallet.{Wallet}
use Rattle.cs_wallet.specs.File.{wallet_of}
use Rattle.cs_wallet.specs.Commands.{HoldsWallet, SavesWallet}

holds : (name bytes : List ℕ) (wallet : Wallet) (files : Files) → wallet_of bytes ≡ Ok wallet → files name ≡ Some bytes → HoldsWallet name wallet files
holds name bytes wallet files is at = subst (λ (o : Option (List ℕ)). IsSomeAnd o (λ b. wallet_of b ≡ Ok wallet)) (sym at) is

may : (name bytes : List ℕ) (wallet : Wallet) (before now : Files) → wallet_of bytes ≡ Ok wallet → (now name ≡ Some bytes) ⊎ (now name ≡ before name) → HoldsWallet name wallet now ⊎ (now name ≡ before name)
may name bytes wallet before now is (inl at) = inl (holds name bytes wallet now is at)
may name bytes wallet before now is (inr same) = inr same

-- its bytes were saved, or not
pub saves-wallet : (name bytes : List ℕ) (wallet : Wallet) (old new : Option Files) (saved : Saved) → wallet_of bytes ≡ Ok wallet → Saves old new name bytes saved → Changes (SavesWallet name wallet saved) old new
saves-wallet name bytes wallet None new saved is saves = tt
saves-wallet name bytes wallet (Some before) None Done is saves = saves
saves-wallet name bytes wallet (Some before) None Failed is saves = saves
saves-wallet name bytes wallet (Some before) None Memory is saves = saves
saves-wallet name bytes wallet (Some before) (Some now) Done is saves = (holds name bytes wallet now is saves.0, saves.1)
saves-wallet name bytes wallet (Some before) (Some now) Failed is saves = (may name bytes wallet before now is saves.0, saves.1)
saves-wallet name bytes wallet (Some before) (Some now) Memory is saves = (may name bytes wallet before now is saves.0, saves.1)

-- nothing was saved, for want of memory
pub nothing-saved : (name : List ℕ) (wallet : Wallet) (files : Option Files) → Changes (SavesWallet name wallet Memory) files files
nothing-saved name wallet None = tt
nothing-saved name wallet (Some files) = (inr refl, λ other apart. refl)
