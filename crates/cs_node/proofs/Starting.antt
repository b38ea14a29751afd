-- The view for which a node stands before its first input.
use Rattle.std.proofs.Common.{◌≡◌, ℕ, Bool, true, List, [], refl, subst}
use Rattle.cs_base.specs.declared.config.Config.{Config}
use Rattle.cs_base.specs.declared.version.Version.TheVariants.{One}
use Rattle.cs_base.specs.Version.{version_of}
use Rattle.cs_base.specs.declared.node_id.NodeId.{NodeId}
use Rattle.cs_base.specs.NodeId.{is_node}
use Rattle.cs_base.specs.declared.key.Key.{Key}
use Rattle.cs_tx_value.specs.declared.object.Object.{Object}
use Rattle.cs_tx_types.specs.declared.transaction.Tx.{Tx}
use Rattle.cs_order.specs.Deeds.{Member, Machine}
use Rattle.cs_ledger.specs.Table.{start}
use Rattle.cs_node_rules.specs.Net.{Net}
use Rattle.cs_node_rules.specs.Site.{Carriers, start_view}
use Rattle.cs_node_rules.specs.Deployment.{site_of}
use Rattle.cs_table.specs.Seen.{Stored, seen}
use Rattle.cs_table.specs.Genesis.{genesis_rules}
use Rattle.cs_check_rules.specs.Chain.{empty_log, kept_of}
use Rattle.cs_check_rules.specs.Keys.{AreKnown}
use Rattle.cs_check.specs.Root.{keys_in}
use Rattle.cs_node_pool.specs.Deployed.{deployed_setup}
use Rattle.cs_check.specs.Leaves.{Hashed}
use Rattle.cs_sbac.specs.Held.{Held}
use Rattle.cs_sbac.specs.Genesis.{keyed_from}
use Rattle.cs_sbac.proofs.Begun.{begun}
use Rattle.cs_node.specs.Cores.{KeepsView}

-- what a node of this name holds then
abbrev pub begun_with : Config → Stored → Hashed → NodeId → Held
begun_with config table hashed me = record {
  config = config;
  me = me;
  table = table;
  pool = [];
  archived = record { kept = kept_of (empty_log me.shard); hashed = hashed; heads = [] };
}

pub started : {O J M : Type 0} (stands : O → Member M → Type 0) (approves : J → Tx → Bool) (rules : Machine M) (carried : Carriers M) (net : Net) (config : Config) (me : NodeId) (objects : List Object) (given : List (Key × Object)) (order : O) (judge : J) (table : Stored) (hashed : Hashed) (f index : ℕ)
    → stands order (record { f = f; me = index; deeds = [] }) → f ≡ config.f → index ≡ me.index → is_node config me ≡ true → version_of config.version ≡ One → given ≡ keyed_from 0 objects → seen table ≡ start (genesis_rules config given) me.shard
    → AreKnown (keys_in table.rows) (seen table)
    → KeepsView stands approves (deployed_setup config objects (approves judge)) (record { order = order; judge = judge; sbac = begun_with config table hashed me })
    (start_view (site_of (deployed_setup config objects (approves judge)) net rules carried) me)
started {O} {J} {M} stands approves rules carried net config me objects given order judge table hashed f index is same-f same-me node first named shows known =
    let F : ℕ → Type 0 = λ n. stands order (record { f = n; me = index; deeds = [] }) in
    let I : ℕ → Type 0 = λ n. stands order (record { f = config.f; me = n; deeds = [] }) in
    let begins = begun config objects given me.shard table named shows known in
    let h : Member M = record { f = config.f; me = me.index; deeds = [] } in
    record {
      seated = record { stood = subst I same-me (subst F same-f is); kept_is = refl; f_is = refl; index_is = refl; node = node; first = first };
      view_is = λ i. record {
        me = me;
        bench = record { table = begins.shows i; keys = begins.keys i; pool = []; log = empty_log me.shard; heads = [] };
        member = h;
      };
      genesis = objects;
      setup_is = refl;
    }
