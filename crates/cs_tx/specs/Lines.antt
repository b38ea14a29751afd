-- The line of a transaction in a history.
use Rattle.std.specs.Prelude.{ℕ, List, ◌++◌, codes}
use Rattle.cs_base.specs.Codes.{bytes_text}

abbrev pub tx_line : List ℕ → List ℕ
tx_line digest = codes "tx " ++ (bytes_text digest ++ codes "\n")
