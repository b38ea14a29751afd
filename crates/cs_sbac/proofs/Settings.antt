-- Whether a session is well formed and concerns the shard, as the calls on it and as the setup have it.
use Rattle.std.proofs.Common.{◌≡◌, ◌↔◌, ℕ, suc, Bool, true, false, ◌&&◌, List, [], ◌∷◌, ◌++◌, Option, Some, None, is_none, is_some, IsNone, IfSome, subst, refl, ap, sym, ◌∙◌}
use Rattle.std.specs.Prelude.{if◌then◌else◌}
use Rattle.std.proofs.lemmas.Bool.{and_parts}
use Rattle.cs_base.specs.declared.config.Config.{Config}
use Rattle.cs_base.specs.declared.key.Key.{Key}
use Rattle.cs_tx_value.specs.declared.object.Object.{Object}
use Rattle.cs_tx_types.specs.declared.transaction.Tx.{Tx}
use Rattle.cs_tx_types.specs.declared.session.Session.{Session}
use Rattle.cs_tx.specs.Uses as Uses
use Rattle.cs_tx.specs.WellFormed.{IsWellFormed, fault_of}
use Rattle.cs_tx.proofs.TestsSeen.{well_formed-session_of}
use Rattle.cs_ledger.specs.Session as Seen
use Rattle.cs_node_state.specs.Setup as Setup
use Rattle.cs_node_state.specs.Deployed.{rules_of}
use Rattle.cs_node_state.specs.declared.pooled.Pooled.{Pooled}
use Rattle.cs_node_state.specs.Pool.{entering}
use Rattle.cs_tx.specs.Digest.{digest_of_session}
use Rattle.cs_ledger.specs.Ledger.{Bytes}
use Rattle.cs_node_pool.specs.Deployed.{deployed_setup, AtEverySetup}
use Rattle.cs_node_pool.specs.Seats.{IsKnownSession}
use Rattle.cs_node_pool.proofs.Concerned.{concerns-session}
use Rattle.cs_node_pool.proofs.Right as Right
use Rattle.cs_sbac.specs.Held.{Held, IsFit}

pub some_anchor : (o : Option Key) (c : Bool) → IsNone o ↔ (c ≡ false) → is_some o ≡ c
some_anchor (Some k) true h = refl
some_anchor (Some k) false h = let q : true ≡ false = h.1 refl in cc
some_anchor None c h = sym (h.0 refl)

module _ (config : Config) (genesis : List Object) (approves : Tx → Bool) (x : Session) (shard : ℕ) where
  pub fit : (w : Bool) → w ≡ is_none (fault_of config x) → (w && Uses.concerns config x shard) ≡ Setup.is_fit (deployed_setup config genesis approves) shard x
  fit w h =
      let setup : Setup.Setup = deployed_setup config genesis approves in
      ap (λ b. b && Uses.concerns config x shard) (h ∙ sym (well_formed-session_of (rules_of config genesis) config (λ name. refl) approves x))
      ∙ ap (λ b. Seen.well_formed setup.rules (setup.session_of x) && b) (sym (concerns-session config genesis approves x shard))

-- ---- a session that is well formed

none_from : {A : Type 0} (o : Option A) → is_none o ≡ true → o ≡ None
none_from None h = refl
none_from (Some a) h = let q : false ≡ true = h in cc

pub formed : (config : Config) (shard : ℕ) (x : Session) → AtEverySetup config (λ setup. Setup.is_fit setup shard x ≡ true) → IsWellFormed config x
formed config shard x fits =
    let setup : Setup.Setup = deployed_setup config [] (λ tx. false) in
    let both = and_parts (Seen.well_formed setup.rules (setup.session_of x)) (Setup.is_concerned_shard setup x shard) (fits [] (λ tx. false)) in
    none_from (fault_of config x) (sym (well_formed-session_of (rules_of config []) config (λ name. refl) (λ tx. false) x) ∙ both.0)

-- so it is by what a node holds, and as it enters the pool, by the configuration of that
module _ (inside held : Held) (same : inside ≡ held) (x : Session) (fits : IsFit held x) where
  pub formed-held : IsWellFormed inside.config x
  formed-held = formed inside.config inside.me.shard x (subst (λ (h : Held). IsFit h x) (sym same) fits)

  pub formed-entering : (config : Config) (entered : Pooled) → config ≡ inside.config → entered ≡ entering x false → IsWellFormed config entered.session
  formed-entering config entered its is = subst (λ (p : Pooled). IsWellFormed config p.session) (sym is) (subst (λ c. IsWellFormed c x) (sym its) formed-held)

-- whether it has an anchor in the next of the shards says whether that one is concerned
pub one-more : (config : Config) (x : Session) (shard : ℕ) (found : Option Key) (has : Bool) (shards more : List ℕ) → IsNone found ↔ (Uses.concerns config x shard ≡ false) → is_some found ≡ has
    → shards ≡ Uses.concerned_below config x shard → more ≡ shards ++ (if has then shard ∷ [] else []) → more ≡ Uses.concerned_below config x (suc shard)
one-more config x shard found has shards more anchored is so_far grown =
    let same : has ≡ Uses.concerns config x shard = sym is ∙ some_anchor found (Uses.concerns config x shard) anchored in
    grown ∙ (λ i. so_far i ++ (if same i then shard ∷ [] else []))

-- ---- a session that the pool knows, by its configuration, which is that of the node

module _ (config other : Config) (x : Session) (known : Option Bytes) (same : other ≡ config) (is : IfSome known (IsKnownSession other x)) where
  pub known-formed : is_some known ≡ true → IsWellFormed config x
  known-formed there = subst (λ c. IsWellFormed c x) same (Right.known-formed other x known is there)

  pub known-named : IfSome known (λ d. d ≡ digest_of_session x)
  known-named = Right.known-named other x known is
