-- Where a node stands at a site, the site is of version 1, so each of its entries has one action.
use Rattle.std.proofs.Common.{◌≡◌, Bool, ℕ, zero, suc, ◌<◌, List, [], ◌∷◌, length, slice_get, Some, refl, sym, ap, subst, ◌∙◌, arith}
use Rattle.cs_base.specs.declared.node_id.NodeId.{NodeId}
use Rattle.cs_base.specs.declared.version.Version.{Version}
use Rattle.cs_base.specs.declared.version.Version.TheVariants.{One}
use Rattle.cs_tx_types.specs.declared.transaction.Tx.{Tx}
use Rattle.cs_tx_types.specs.Entry.{EntryFits}
use Rattle.cs_order.specs.Deeds.{Machine, Member}
use Rattle.cs_node_state.specs.Setup.{Setup}
use Rattle.cs_node_rules.specs.Net.{Net}
use Rattle.cs_node_rules.specs.Site.{Carriers, View}
use Rattle.cs_node_rules.specs.World.{Happening}
use Rattle.cs_node_rules.specs.Deployment.{entry_in, site_of}
use Rattle.cs_node_rules.proofs.Entries.{in-fits, only-action}
use Rattle.cs_node.specs.declared.node_core.Core.{Core}
use Rattle.cs_node.specs.Cores.{CoreStandsFor}
use Rattle.cs_replay_play.specs.Standing.{AllStand}
use Rattle.cs_replay_play.proofs.Leaves.{EntriesAreAlone}

got : {A : Type 0} (xs : List A) (k : ℕ) → k < length xs → (x : A) × (slice_get xs k ≡ Some x)
got {A} [] k less = absurd (omega (arith, less))
got {A} (x ∷ xs) zero less = (x, refl)
got {A} (x ∷ xs) (suc k) less = got xs k (omega (arith, less))

module _ {O J M : Type 0} (stands : O → Member M → Type 0) (approves : J → Tx → Bool) (setup : Setup) (net : Net) (machine : Machine M) (carriers : Carriers M) where
  core-alone : (core : Core O J M) (v : View M) → CoreStandsFor stands approves (site_of setup net machine carriers) core v → EntriesAreAlone (site_of setup net machine carriers)
  core-alone core v is = λ p.
      let edition : setup.version ≡ One = ap (λ (s : Setup). s.version) (sym is.keeps.setup_is) ∙ is.keeps.seated.first in
      let fits : EntryFits One (entry_in setup.version p) = subst (λ (e : Version). EntryFits e (entry_in setup.version p)) edition (in-fits setup.version p) in
      only-action (entry_in setup.version p).actions fits.0

  pub entries-alone : (names : ℕ → NodeId) (cores : List (Core O J M)) (world : List (Happening M)) (place : ℕ) → place < length cores
      → AllStand stands approves (site_of setup net machine carriers) names cores world → EntriesAreAlone (site_of setup net machine carriers)
  entries-alone names cores world place less all =
      let found = got cores place less in
      core-alone found.0 _ (all.each place found.0 found.1)
