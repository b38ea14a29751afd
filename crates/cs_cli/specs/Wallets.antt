-- The words of the commands of a wallet.
use Rattle.std.specs.Prelude.{ℕ, List, [], ◌∷◌, codes, Option, None, option_map, option_and_then, if◌then◌else◌}
use Rattle.std.specs.Str.{bytes_eq}
use Rattle.cs_io.specs.Numbers.{short_number}
use Rattle.cs_deploy.specs.Master.{master_in}
use Rattle.cs_wallet.specs.declared.calls.WalletCall.{WalletCall}
use Rattle.cs_wallet.specs.declared.calls.WalletCall.TheVariants.{New, Key, Sign}
use Rattle.cs_cli.specs.Deployed.{is_file}

-- the values behind the file: a seed; a number; a number and a message. Seeds and messages have 64 hex digits
abbrev pub new_called : List (List ℕ) → Option WalletCall
new_called (seed ∷ []) = option_map New (master_in seed)
new_called _ = None

abbrev pub key_called : List (List ℕ) → Option WalletCall
key_called (number ∷ []) = option_map Key (short_number number)
key_called _ = None

abbrev pub sign_called : List (List ℕ) → Option WalletCall
sign_called (number ∷ message ∷ []) = option_and_then (λ n. option_map (Sign n) (master_in message)) (short_number number)
sign_called _ = None

abbrev pub call_called : List ℕ → List (List ℕ) → Option WalletCall
call_called word values =
    if bytes_eq word (codes "new") then new_called values
    else if bytes_eq word (codes "key") then key_called values
    else if bytes_eq word (codes "sign") then sign_called values
    else None

-- `new`, `key` or `sign`, the file, and the values
abbrev pub wallet_called : List (List ℕ) → Option WalletCall
wallet_called (word ∷ file ∷ values) = if is_file file then call_called word values else None
wallet_called _ = None
