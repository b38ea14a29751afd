-- The sessions of a world on which an abort was decided.
use Rattle.std.specs.Prelude.{if◌then◌else◌, List, [], ◌∷◌, ◌++◌, bytes_eq}
use Rattle.std.specs.List.{list_any}
use Rattle.cs_tx_types.specs.declared.action.Action.{Action}
use Rattle.cs_ledger.specs.Ledger.{Bytes}
use Rattle.cs_ledger.specs.Table.{Effect}
use Rattle.cs_node_state.specs.Setup.{Setup, digest_of}
use Rattle.cs_tx_types.specs.Session.{session_in}
use Rattle.cs_node_rules.specs.Signs.{Sign, Did}
use Rattle.cs_node_rules.specs.Site.{signs_of}
use Rattle.cs_node_rules.specs.World.{Happening, aborts_by}

-- with this digest, unless it stands there
abbrev pub with_aborted_digest : Bytes → List Bytes → List Bytes
with_aborted_digest d digests = if list_any (bytes_eq d) digests then digests else digests ++ d ∷ []

-- with the digest of the session of an execution that decides abort on it
abbrev pub aborted_after : Setup → Action → Effect → List Bytes → List Bytes
aborted_after setup entry effect earlier =
    if aborts_by setup (digest_of setup (session_in entry)) entry effect
    then with_aborted_digest (digest_of setup (session_in entry)) earlier
    else earlier

abbrev pub aborted_by : Setup → List Sign → List Bytes → List Bytes
aborted_by setup [] earlier = earlier
aborted_by setup (Did slot place entry effect ∷ past) earlier =
    aborted_after setup entry effect (aborted_by setup past earlier)
aborted_by setup (sign ∷ past) earlier = aborted_by setup past earlier

-- The digests of the sessions on which a node decided abort, each once, in the order in which one first did. A vote
-- abort counts as a decision.
abbrev pub aborted : {M : Type 0} → Setup → List (Happening M) → List Bytes
aborted {M} setup [] = []
aborted {M} setup (h ∷ past) = aborted_by setup (signs_of h.marks) (aborted setup past)
