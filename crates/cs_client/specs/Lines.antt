-- The line of what a client knows.
use Rattle.std.specs.Prelude.{ℕ, codes, List, ◌++◌}
use Rattle.cs_base.specs.Codes.{bytes_text}
use Rattle.cs_client.specs.declared.known.Known.{Known}
use Rattle.cs_client.specs.declared.known.Known.TheVariants as known

abbrev pub known_line : Known → List ℕ
known_line known.Open = codes "open\n"
known_line (known.Accepted digest) = codes "accepted " ++ (bytes_text digest ++ codes "\n")
known_line (known.Aborted digest) = codes "aborted " ++ (bytes_text digest ++ codes "\n")
