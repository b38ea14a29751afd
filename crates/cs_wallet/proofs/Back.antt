-- What is printed of a wallet is read again.
use Rattle.std.proofs.Common.{◌≡◌, ℕ, ◌≤◌, true, List, [], ◌∷◌, Some, Ok, refl, arith}
use Rattle.std.specs.Str.{IsUtf8}
use Rattle.std.proofs.lemmas.Str.{is_utf8-from_IsUtf8}
use Rattle.std.proofs.lemmas.Bool.{le-leb}
use Rattle.hex.specs.Hex.{encode_lower}
use Rattle.hex.proofs.HexLemmas.{decode_of-encode_lower}
use Rattle.toml.specs.Data.{string, table, items_depth, members_depth, items_have_valid_dates, members_have_valid_dates}
use Rattle.toml.specs.Parse.{parse_document}
use Rattle.cs_config.specs.Reading.{each_item}
use Rattle.cs_config.specs.Items.{hex_digest}
use Rattle.cs_config.specs.Printed.{IsDigest}
use Rattle.cs_onetime.specs.declared.wallet.Wallet.{Wallet}
use Rattle.cs_wallet.specs.File.{entry_in, members_of, seed_in, entries_in, used_of, wallet_of}
use Rattle.cs_wallet.specs.Fitting.{SignedFits, AllSignedFit, UsedFits, WalletFits}
use Rattle.cs_wallet.specs.Printed.{signed_data, used_data, wallet_data}
use Rattle.cs_wallet.proofs.Numbered.{entry_of, entries_of, length-entries_of, numbered-entries_of, apart-entries_of}

digest_back : (digest : List ℕ) → IsDigest digest → hex_digest (string (encode_lower digest)) ≡ Some digest
digest_back digest fits = rw (decode_of-encode_lower digest fits.bytes, fits.size) refl

entry_back : (signed : ℕ × List ℕ) → SignedFits signed → entry_in (table (signed_data signed)) ≡ Some (entry_of signed)
entry_back signed fits = rw (digest_back signed.1 fits.message) refl

each_back : (used : List (ℕ × List ℕ)) → AllSignedFit used → each_item entry_in (used_data used) ≡ Some (entries_of used)
each_back [] fits = refl
each_back (signed ∷ used) fits = rw (entry_back signed fits.0, each_back used fits.1) refl

seed_back : (wallet : Wallet) → IsDigest wallet.seed → seed_in (wallet_data wallet) ≡ Ok wallet.seed
seed_back wallet fits = rw (digest_back wallet.seed fits) refl

entries_back : (wallet : Wallet) → UsedFits wallet.used → entries_in (wallet_data wallet) ≡ Ok (entries_of wallet.used)
entries_back wallet fits = rw (each_back wallet.used fits.fit, apart-entries_of wallet.used, fits.once) refl

used_back : (used : List (ℕ × List ℕ)) → UsedFits used → used_of (entries_of used) ≡ Ok used
used_back used fits = rw (length-entries_of used, le-leb _ _ fits.few) (numbered-entries_of used)

-- ---- what the printer asks

flat_used : (used : List (ℕ × List ℕ)) → items_depth (used_data used) ≤ 1
flat_used [] = omega arith
flat_used (signed ∷ used) = let rest = flat_used used in omega arith

pub flat : (wallet : Wallet) → members_depth (wallet_data wallet) ≤ 3
flat wallet = let used = flat_used wallet.used in omega arith

undated_used : (used : List (ℕ × List ℕ)) → items_have_valid_dates (used_data used) ≡ true
undated_used [] = refl
undated_used (signed ∷ used) = undated_used used

pub undated : (wallet : Wallet) → members_have_valid_dates (wallet_data wallet) ≡ true
undated wallet = rw (undated_used wallet.used) refl

-- ---- the file

members_back : (text : List ℕ) (wallet : Wallet) → IsUtf8 text → parse_document text ≡ Some (wallet_data wallet) → members_of text ≡ Ok (wallet_data wallet)
members_back text wallet utf8 parsed = rw (is_utf8-from_IsUtf8 text utf8, parsed) refl

pub file_back : (text : List ℕ) (wallet : Wallet) → WalletFits wallet → IsUtf8 text → parse_document text ≡ Some (wallet_data wallet) → wallet_of text ≡ Ok wallet
file_back text wallet fits utf8 parsed =
    rw (members_back text wallet utf8 parsed, seed_back wallet fits.seed, entries_back wallet fits.used, used_back wallet.used fits.used) refl
