-- The line of a state.
use Rattle.std.specs.Prelude.{ℕ, codes, List, ◌++◌, length}
use Rattle.std.specs.Fmt.{decimal}
use Rattle.cs_base.specs.Codes.{bytes_text}
use Rattle.cs_tx_value.specs.Object.{object_encoding}
use Rattle.cs_tx_types.specs.declared.state.State.{State}
use Rattle.cs_tx_types.specs.declared.state.State.TheVariants as state

-- of an object that is active its encoding, of one that is locked or used up the session, of one that sessions read how
-- many there are
abbrev pub state_line : State → List ℕ
state_line state.Unknown = codes "unknown\n"
state_line (state.Active object) = codes "active " ++ (bytes_text (object_encoding object) ++ codes "\n")
state_line (state.Locked object session) = codes "locked " ++ (bytes_text session ++ codes "\n")
state_line (state.Inactive session) = codes "inactive " ++ (bytes_text session ++ codes "\n")
state_line (state.Shared object readers) = codes "shared " ++ (decimal (length readers) ++ codes "\n")
