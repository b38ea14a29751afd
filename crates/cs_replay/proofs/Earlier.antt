-- The world after each event is a world.
use Rattle.std.proofs.Common.{List, [], ◌∷◌, ◌++◌}
use Rattle.cs_node_rules.specs.Site.{Site}
use Rattle.cs_node_rules.specs.World.{Happening}
use Rattle.cs_world_law.specs.Worlds.{IsWorld}

pub earlier_world : {M : Type 0} (site : Site M) (later earlier : List (Happening M)) → IsWorld site (later ++ earlier) → IsWorld site earlier
earlier_world {M} site [] earlier w = w
earlier_world {M} site (h ∷ later) earlier w =
    earlier_world site later earlier (record { serves = w.serves; few = w.few; honest = w.honest.1; life = w.life.1; bytes = w.bytes.1; genuine = w.genuine.1 })
