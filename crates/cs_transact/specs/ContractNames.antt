-- The contract of a trace, by its id or by a name.
use Rattle.std.specs.Prelude.{ℕ, List, codes, Option, Some, option_and_then, if◌then◌else◌}
use Rattle.std.specs.Str.{bytes_eq}
use Rattle.toml.specs.Data.{Data, as_str}
use Rattle.cs_tx.specs.Token.{token_id}
use Rattle.cs_config.specs.Items.{hex_digest}
use Rattle.cs_native.specs.Hashlock.{hashlock_id}
use Rattle.cs_native.specs.Sum.{sum_id}
use Rattle.cs_native.specs.Signed.{signed_id}

-- `token` or a rule by its name, else an id in hex
abbrev pub contract_of_text : Data → List ℕ → Option (List ℕ)
contract_of_text held text =
    if bytes_eq text (codes "token") then Some token_id
    else if bytes_eq text (codes "hashlock") then Some hashlock_id
    else if bytes_eq text (codes "sum") then Some sum_id
    else if bytes_eq text (codes "signed") then Some signed_id
    else hex_digest held

abbrev pub contract_named : Data → Option (List ℕ)
contract_named held = option_and_then (contract_of_text held) (as_str held)
