-- What is in a pool is within all limits, so it has an encoding.
use Rattle.std.specs.Prelude.{List, [], ◌∷◌, Option, Some, None}
use Rattle.cs_base.specs.declared.version.Version.{Version}
use Rattle.cs_tx_types.specs.declared.session.Session.{Session}
use Rattle.cs_tx_types.specs.declared.entry.Entry.{Entry}
use Rattle.cs_tx_types.specs.Session.{SessionFits}
use Rattle.cs_tx_types.specs.Entry.{EntryFits}
use Rattle.cs_node_state.specs.Pool.{Pool}

abbrev pub PoolFits : Pool → Type 0
PoolFits [] = Unit {0}
PoolFits (e ∷ pool) = SessionFits e.1.session × PoolFits pool

-- the sessions of a list are
abbrev pub SessionsFit : List Session → Type 0
SessionsFit [] = Unit {0}
SessionsFit (x ∷ xs) = SessionFits x × SessionsFit xs

-- an entry that is due is
abbrev pub DueFits : Version → Option Entry → Type 0
DueFits version None = Unit {0}
DueFits version (Some entry) = EntryFits version entry
