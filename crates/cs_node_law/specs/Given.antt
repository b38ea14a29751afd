-- What nodes are given in a world is made of bytes.
use Rattle.std.specs.Prelude.{List, [], ◌∷◌}
use Rattle.cs_base.specs.Fields.{IsBytes}
use Rattle.cs_node_rules.specs.Site.{Input, Datagram, Tick}
use Rattle.cs_node_rules.specs.World.{Happening}

abbrev pub InputIsBytes : Input → Type 0
InputIsBytes (Datagram bytes) = IsBytes bytes
InputIsBytes Tick = Unit {0}

-- what is given is made of bytes
abbrev pub AreBytes : {M : Type 0} → List (Happening M) → Type 0
AreBytes {M} [] = Unit {0}
AreBytes {M} (h ∷ past) = InputIsBytes h.input × AreBytes past
