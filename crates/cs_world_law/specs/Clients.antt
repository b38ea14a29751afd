-- What honest nodes tell clients of the sessions that were decided.
use Rattle.std.specs.Prelude.{◌≡◌, true, false, List}
use Rattle.cs_base.specs.Lists.{IsIn}
use Rattle.cs_base.specs.declared.node_id.NodeId.{NodeId}
use Rattle.cs_tx_types.specs.declared.session.Session.{Session}
use Rattle.cs_wire_message.specs.declared.message.Message.TheVariants as message
use Rattle.cs_ledger.specs.Ledger.{Bytes}
use Rattle.cs_node_state.specs.Setup.{digest_of}
use Rattle.cs_node_rules.specs.Signs.{Sent}
use Rattle.cs_node_rules.specs.Site.{Site}
use Rattle.cs_node_rules.specs.World.{Happening, recorded_history, accepts_in}
use Rattle.cs_node_rules.specs.Collisions.{known_sessions}
use Rattle.cs_world_law.specs.Worlds.{is_honest, signs_at}

-- A client is told that a session was accepted only where that is a known session whose transaction is in the history.
abbrev pub TellsClientsAccepted : {M : Type 0} → Site M → List (Happening M) → Type 0
TellsClientsAccepted {M} site world =
    (i to : NodeId) (d : Bytes) → is_honest site i ≡ true →
    IsIn (Sent to (message.Decided d true)) (signs_at i world) →
    (x : Session) × (d ≡ digest_of site.setup x) × IsIn x (known_sessions site world)
    × IsIn (site.setup.session_of x).transaction (recorded_history site world)

-- A client is told that a session was aborted only where no honest node accepts it, before or after.
abbrev pub TellsClientsAborted : {M : Type 0} → Site M → List (Happening M) → Type 0
TellsClientsAborted {M} site world =
    (i j to : NodeId) (d : Bytes) → is_honest site i ≡ true → is_honest site j ≡ true →
    IsIn (Sent to (message.Decided d false)) (signs_at i world) →
    accepts_in site.setup d (signs_at j world) ≡ true → ⊥
