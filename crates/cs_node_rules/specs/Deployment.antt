-- The site of a deployment: its setup, its net, the order of its shards, and how entries are written.
use Rattle.std.specs.Prelude.{[], ◌∷◌, codes, if◌then◌else◌, replicate, Option, Some, None}
use Rattle.cs_base.specs.Fields.{whole_at}
use Rattle.cs_base.specs.declared.version.Version.{Version}
use Rattle.cs_tx_types.specs.declared.trace.Trace.{Trace}
use Rattle.cs_tx_types.specs.declared.session.Session.{Session}
use Rattle.cs_tx_types.specs.declared.action.Action.TheVariants.{Prepare}
use Rattle.cs_tx_types.specs.declared.entry.Entry.{Entry}
use Rattle.cs_tx_types.specs.Entry.{entry_encoding, entry_alone, entry_at}
use Rattle.cs_tx.specs.Digest.{digest_of_entry}
use Rattle.cs_order.specs.declared.proposed.Proposed.{Proposed}
use Rattle.cs_order.specs.Deeds.{Machine}
use Rattle.cs_order.specs.Digests.{are_bytes}
use Rattle.cs_node_state.specs.Setup.{Setup}
use Rattle.cs_node_rules.specs.Net.{Net}
use Rattle.cs_node_rules.specs.Site.{Carriers, Site}

-- an entry is proposed by its encoding in a version, under its digest
abbrev pub proposed_of : Version → Entry → Proposed
proposed_of version entry = record { digest = digest_of_entry version entry; bytes = entry_encoding version entry }

-- the entry of which the bytes are the encoding
abbrev pub entry_read : Version → Proposed → Option Entry
entry_read version proposed =
    if are_bytes proposed.bytes then whole_at (entry_at version) proposed.bytes else None

-- a session without an input, which is not well formed; it has an encoding
abbrev pub bare_trace : Trace
bare_trace = record {
  contract = replicate 32 0;
  method = codes "void";
  inputs = [];
  references = [];
  parameters = [];
  outputs = [];
  returns = [];
  deps = [];
}

abbrev pub no_session : Session
no_session = record { tx = record { traces = bare_trace ∷ [] }; number = 0; dummies = [] }

abbrev pub entry_or_void : Option Entry → Entry
entry_or_void (Some entry) = entry
entry_or_void None = entry_alone (Prepare no_session)

-- of bytes that are no entry a fixed one, which is Void
abbrev pub entry_in : Version → Proposed → Entry
entry_in version proposed = entry_or_void (entry_read version proposed)

abbrev pub site_of : {M : Type 0} → Setup → Net → Machine M → Carriers M → Site M
site_of {M} setup net machine carriers = record {
  setup = setup;
  net = net;
  machine = machine;
  carrier = carriers setup.version;
  proposed_of = proposed_of setup.version;
  entry_in = entry_in setup.version;
}
