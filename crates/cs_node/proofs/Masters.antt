-- Keys that a master key gave speak in its net.
use Rattle.std.proofs.Common.{◌≡◌, ℕ, ◌≤◌, true, false, List, Some, IsSome, refl, ap, sym, subst, ◌∙◌}
use Rattle.std.specs.Prelude.{◌&&◌, ◌||◌, not}
use Rattle.cs_base.specs.declared.config.Config.{Config}
use Rattle.cs_base.specs.declared.node_id.NodeId.{NodeId}
use Rattle.cs_base.specs.NodeId.{is_node, is_client, is_named, same_name}
use Rattle.cs_base.proofs.Forms.{some_is, when_some}
use Rattle.cs_wire.specs.declared.keys.Row.{Row}
use Rattle.cs_wire.specs.declared.keys.Keys.{Keys}
use Rattle.cs_wire.specs.Keys.{row_of, key_between, row_between, IsOfMaster}
use Rattle.cs_wire.specs.Opened.{opened, keys_of_master}
use Rattle.cs_wire.specs.Datagram.{datagram_with}
use Rattle.cs_wire.proofs.Masters.{opened_alike}
use Rattle.cs_base.specs.Version.{version_of}
use Rattle.cs_node_rules.specs.Net.{net_of}
use Rattle.cs_node.specs.Speaking.{Speaks}

module _ (config : Config) (master : List ℕ) (liars : List NodeId) (me : NodeId) (keys : Keys) (few : config.shards ≤ 16) (first : config.version ≡ 1) (node : is_node config me ≡ true) (of : IsOfMaster config master me keys) where
  row_is : (to : NodeId) (row : Row) → row_of to keys ≡ Some row → row_between master me to ≡ row
  row_is to row held =
      let found = when_some (is_named config to && not (same_name to me)) (Some (row_between master me to)) row (sym (of.rows to) ∙ held) in
      some_is _ _ found.1

  reached : (to : NodeId) → is_named config to ≡ true → same_name to me ≡ false → row_of to keys ≡ Some (row_between master me to)
  reached to named other = of.rows to ∙ rw (named, other) refl

  pub of_master : Speaks config (net_of config master liars) keys
  of_master = record {
    first = ap version_of first;
    opens = λ bytes. opened_alike config master me keys bytes of ∙ ap (λ (n : NodeId). opened (keys_of_master config master n) bytes) (sym of.me);
    seals = λ to row held kind body.
        ap (λ version. datagram_with version row.to keys.me to kind body) of.version
        ∙ ap (λ (r : Row). datagram_with (version_of config.version) r.to keys.me to kind body) (sym (row_is to row held))
        ∙ ap (λ (n : NodeId). datagram_with (version_of config.version) (key_between master n to) keys.me to kind body) (sym of.me);
    reaches = λ to is_one other. subst IsSome (sym (reached to (ap (λ b. b || is_client to) is_one) (ap (same_name to) (sym of.me) ∙ other))) refl;
  }
