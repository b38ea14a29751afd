-- Keys that reach all nodes speak in the net of any names of which their holder is one.
use Rattle.std.proofs.Common.{◌≡◌, ℕ, true, false, List, Option, Some, IsSome, refl, sym, ap, ◌∙◌}
use Rattle.cs_base.specs.NodeId.{is_node, same_name}
use Rattle.cs_base.specs.Version.{version_of}
use Rattle.cs_base.specs.declared.config.Config.{Config}
use Rattle.cs_base.specs.declared.node_id.NodeId.{NodeId}
use Rattle.cs_base.specs.declared.version.Version.TheVariants.{One}
use Rattle.cs_wire.specs.declared.keys.Row.{Row}
use Rattle.cs_wire.specs.declared.keys.Keys.{Keys}
use Rattle.cs_wire.specs.Keys.{row_of}
use Rattle.cs_wire.specs.Opened.{opened}
use Rattle.cs_wire.specs.Datagram.{datagram_with}
use Rattle.cs_node_rules.specs.Net.{in_version}
use Rattle.cs_node.specs.Speaking.{Speaks}
use Rattle.cs_world_law.specs.Worlds.{key_held, net_of_keys}

pub family_speaks : (config : Config) (keys : NodeId → Keys) (liars : List NodeId) (i : NodeId) → (keys i).me ≡ i → (keys i).version ≡ One → version_of config.version ≡ One → ((to : NodeId) → is_node config to ≡ true → same_name to (keys i).me ≡ false → IsSome (row_of to (keys i))) → Speaks config (net_of_keys config keys liars) (keys i)
family_speaks config keys liars i mine first edition reaches = record {
  first = edition;
  opens = λ bytes.
      ap (λ version. opened (record (keys i) { version = version }) bytes) (first ∙ sym edition)
      ∙ ap (λ (name : NodeId). opened (in_version (version_of config.version) (keys name)) bytes) (sym mine);
  seals = λ to row is kind body.
      let held : row_of to (keys (keys i).me) ≡ Some row = ap (λ (name : NodeId). row_of to (keys name)) mine ∙ is in
      ap (λ version. datagram_with version row.to (keys i).me to kind body) (first ∙ sym edition)
      ∙ sym (ap (λ (r : Option Row). datagram_with (version_of config.version) (key_held r) (keys i).me to kind body) held);
  reaches = reaches;
}
