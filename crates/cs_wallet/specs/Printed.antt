-- What is printed of a wallet.
use Rattle.std.specs.Prelude.{ℕ, pos, List, [], ◌∷◌, codes}
use Rattle.hex.specs.Hex.{encode_lower}
use Rattle.toml.specs.Data.{Items, no_items, item, Members, no_members, member, string, integer, array, table}
use Rattle.cs_onetime.specs.declared.wallet.Wallet.{Wallet}

-- the table of a number and its message, by its keys in their order
abbrev pub signed_data : ℕ × List ℕ → Members
signed_data signed =
    member (codes "message") (string (encode_lower signed.1))
    (member (codes "number") (integer (pos signed.0)) no_members)

abbrev pub used_data : List (ℕ × List ℕ) → Items
used_data [] = no_items
used_data (signed ∷ used) = item (table (signed_data signed)) (used_data used)

-- the file's table
abbrev pub wallet_data : Wallet → Members
wallet_data wallet =
    member (codes "seed") (string (encode_lower wallet.seed))
    (member (codes "used") (array (used_data wallet.used)) no_members)
