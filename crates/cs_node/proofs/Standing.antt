-- What a call says at the view for which a core stands.
use Rattle.std.specs.Prelude.{◌&&◌}
use Rattle.std.proofs.Common.{◌≡◌, ℕ, ◌*◌, nat_lt, nat_le, ◌<◌, Bool, true, false, List, ◌∷◌, ◌++◌, [], refl, ap, sym, subst, ◌∙◌}
use Rattle.cs_base.specs.declared.config.Config.{Config}
use Rattle.cs_base.specs.Version.{version_of}
use Rattle.cs_base.specs.declared.node_id.NodeId.{NodeId}
use Rattle.cs_base.specs.NodeId.{is_node}
use Rattle.cs_tx_value.specs.declared.object.Object.{Object}
use Rattle.cs_tx_types.specs.declared.transaction.Tx.{Tx}
use Rattle.cs_check_rules.specs.Chain.{Log, kept_of}
use Rattle.cs_order.specs.Deeds.{Member, Machine}
use Rattle.cs_wire.specs.declared.keys.Keys.{Keys}
use Rattle.cs_node_state.specs.Setup.{Setup}
use Rattle.cs_node_rules.specs.Net.{Net}
use Rattle.cs_node_rules.specs.Site.{Carriers, Input, Mark, In, Site, View, view_after, signs_of}
use Rattle.cs_node_rules.specs.Trail.{turn_marks, input_marks, event_marks}
use Rattle.cs_node_rules.specs.Deployment.{site_of}
use Rattle.cs_node_pool.specs.Deployed.{deployed_setup}
use Rattle.cs_sbac.specs.Held.{Held, bench_of}
use Rattle.cs_node.specs.declared.engine.Engine.{Engine}
use Rattle.cs_node.specs.declared.node_core.Core.{Core}
use Rattle.cs_node.specs.declared.outs.Made.{Made}
use Rattle.cs_node.specs.Drafts.{Draft}
use Rattle.cs_node.specs.Notes.{nothing_said, spoken, outs_of, outs_for, AllReached}
use Rattle.cs_node.specs.Speaking.{Speaks}
use Rattle.cs_node.specs.Steps.{node_view, MakesMarks, TurnDone, Settles, Settling, Drafts, Event}
use Rattle.cs_node.specs.Cores.{IsSeated, KeepsView, CoreStandsFor, core_view}
use Rattle.cs_node.proofs.Sealing.{outs-same}
use Rattle.cs_node.proofs.Names.{me-after}
use Rattle.cs_node.proofs.Reached.{event-reached}
use Rattle.cs_node.proofs.Settling.{turn-goes, turn-ends, with-input, event-made}

module _ {O J M : Type 0} (stands : O → Member M → Type 0) (approves : J → Tx → Bool) where
  -- An engine whose order stands for the member after more deeds of it, and whose table and pool are those of the same node.
  pub keeps-on : (genesis : List Object) (core : Engine O J M) (log : Log) (h : Member M) (order : O) (held : Held) (log' : Log) (h' : Member M) → IsSeated stands core log h → stands order h' → h'.f ≡ h.f → h'.me ≡ h.me → held.config ≡ core.sbac.config → held.me ≡ core.sbac.me → held.archived.kept ≡ kept_of log'
      → KeepsView stands approves (deployed_setup core.sbac.config genesis (approves core.judge)) (record { order = order; judge = core.judge; sbac = held }) (node_view core.sbac.me (bench_of log' held) h')
  keeps-on genesis core log h order held log' h' seated is same-f same-index same-config same-me kept_is =
      let N : Config × NodeId → Type 0 = λ p. is_node p.0 p.1 ≡ true in
      record {
        seated = record {
          stood = is;
          kept_is = kept_is;
          f_is = same-f ∙ seated.f_is ∙ sym (ap (λ (c : Config). c.f) same-config);
          index_is = same-index ∙ seated.index_is ∙ sym (ap (λ (n : NodeId). n.index) same-me);
          node = subst N (λ i. (sym same-config i, sym same-me i)) seated.node;
          first = ap (λ (c : Config). version_of c.version) same-config ∙ seated.first;
        };
        view_is = ap (λ (name : NodeId). node_view name (bench_of log' held) h') same-me;
        genesis = genesis;
        setup_is = ap (λ (c : Config). deployed_setup c genesis (approves core.judge)) same-config;
      }

  -- where nothing was done
  pub keeps-still : (genesis : List Object) (core : Engine O J M) (log : Log) (h : Member M) → IsSeated stands core log h → KeepsView stands approves (deployed_setup core.sbac.config genesis (approves core.judge)) core (core_view log core.sbac h)
  keeps-still genesis core log h seated = keeps-on genesis core log h core.order core.sbac log h seated seated.stood refl refl refl refl seated.kept_is

  -- what a clause says at every genesis, log and member, it says at the setup and the view
  pub at-standing : (F : Setup → View M → Type 0) (setup : Setup) (core : Engine O J M) (w : View M) → KeepsView stands approves setup core w
      → ((genesis : List Object) (log : Log) (h : Member M) → IsSeated stands core log h → F (deployed_setup core.sbac.config genesis (approves core.judge)) (core_view log core.sbac h)) → F setup w
  at-standing F setup core w s all =
      let P : View M → Type 0 = λ u. F setup u in
      let Q : Setup → Type 0 = λ t. F t (core_view w.bench.log core.sbac w.member) in
      subst P s.view_is (subst Q s.setup_is (all s.genesis w.bench.log w.member s.seated))

  module _ (rules : Machine M) (carried : Carriers M) (net : Net) (core core' : Engine O J M) (now next : Draft) where
    abbrev Turned : Bool → Setup → View M → Type 0
    Turned went setup u = TurnDone (site_of setup net rules carried) (turn_marks (site_of setup net rules carried) u) u went now next (KeepsView stands approves setup core')

    module _ (setup : Setup) (v : View M) (old : Draft) (went : Bool) (before : ℕ) (s : Settling (site_of setup net rules carried) v old now (KeepsView stands approves setup core) before)
        (done : (genesis : List Object) (log : Log) (h : Member M) → IsSeated stands core log h → Turned went (deployed_setup core.sbac.config genesis (approves core.judge)) (core_view log core.sbac h)) where
      abbrev site : Site M
      site = site_of setup net rules carried

      abbrev w : View M
      w = view_after site s.done v

      abbrev After : View M → Type 0
      After = KeepsView stands approves setup core

      abbrev Later : View M → Type 0
      Later = KeepsView stands approves setup core'

      turned : Turned went setup w
      turned = at-standing (Turned went) setup core w s.marks.after done

      pub loop-goes : (rest : ℕ) → went ≡ true → (went ≡ true → rest < before) → Settling site v old next Later rest
      loop-goes rest e less =
          let B : Bool → Type 0 = λ b. Turned b setup w in
          turn-goes site v old now next After Later before rest (turn_marks site w) s refl (subst B e turned) (less e)

      pub loop-ends : went ≡ false → Settles site v old next Later
      loop-ends e =
          let B : Bool → Type 0 = λ b. Turned b setup w in
          turn-ends site v old now next After Later before (turn_marks site w) s refl (subst B e turned)

  -- an input, and then the rules until none applies
  pub event-done : (rules : Machine M) (carried : Carriers M) (net : Net) (core core' core'' : Engine O J M) (setup : Setup) (v : View M) (input : Input) (start mid made : Draft) → KeepsView stands approves setup core v → start ≡ nothing_said
      → ((genesis : List Object) (log : Log) (h : Member M) → IsSeated stands core log h → (let t : Setup = deployed_setup core.sbac.config genesis (approves core.judge) in MakesMarks (site_of t net rules carried) (input_marks (site_of t net rules carried) (core_view log core.sbac h) input) (core_view log core.sbac h) start mid (KeepsView stands approves t core')))
      → ((genesis : List Object) (log : Log) (h : Member M) → IsSeated stands core' log h → (let t : Setup = deployed_setup core'.sbac.config genesis (approves core'.judge) in Settles (site_of t net rules carried) (core_view log core'.sbac h) mid made (KeepsView stands approves t core'')))
      → Drafts (site_of setup net rules carried) v input made (KeepsView stands approves setup core'')
  event-done rules carried net core core' core'' setup v input start mid made s e took settled =
      let site : Site M = site_of setup net rules carried in
      let After : View M → Type 0 = KeepsView stands approves setup core' in
      let F : Setup → View M → Type 0 = λ t u. MakesMarks (site_of t net rules carried) (input_marks (site_of t net rules carried) u input) u start mid (KeepsView stands approves t core') in
      let G : Setup → View M → Type 0 = λ t u. Settles (site_of t net rules carried) u mid made (KeepsView stands approves t core'') in
      let P : Draft → Type 0 = λ m. MakesMarks site (input_marks site v input) v m mid After in
      let first : MakesMarks site (input_marks site v input ++ In input ∷ []) v nothing_said mid After = with-input site (input_marks site v input) input v nothing_said mid After (subst P e (at-standing F setup core v s took)) in
      let w : View M = view_after site (input_marks site v input ++ In input ∷ []) v in
      event-made site v input mid made After (KeepsView stands approves setup core'') first (at-standing G setup core' w first.after settled)

-- keys speak in a net as far as it has nodes
speaks-on : (config config' : Config) (net : Net) (keys : Keys) → config.shards ≡ config'.shards → config.f ≡ config'.f → Speaks config net keys → Speaks config' net keys
speaks-on config config' net keys same-shards same-f speaks = record {
  first = speaks.first;
  opens = speaks.opens;
  seals = speaks.seals;
  reaches = λ to node other.
      speaks.reaches to ((λ i. nat_lt to.shard (same-shards i) && nat_le to.index (3 * same-f i)) ∙ node) other;
}

module _ {O J M : Type 0} (stands : O → Member M → Type 0) (approves : J → Tx → Bool) where
  -- the holder of the keys is the node of the engine
  pub same-me : (site : Site M) (core : Core O J M) (v : View M) → CoreStandsFor stands approves site core v → core.own.keys.me ≡ core.engine.sbac.me
  same-me _ core v is = is.me_is ∙ sym (ap (λ (u : View M). u.me) is.keeps.view_is)

  -- what was drafted is sealed
  pub event-sealed : (site : Site M) (core : Core O J M) (engine : Engine O J M) (v : View M) (input : Input) (draft : Draft) (made : Made) → CoreStandsFor stands approves site core v
      → Drafts site v input draft (KeepsView stands approves site.setup engine) → made.notes ≡ draft.notes
      → (AllReached core.own.keys (spoken draft.said) → made.outs ≡ outs_for site.net core.own.keys.me (spoken draft.said))
      → Event site v input made (CoreStandsFor stands approves site (record { own = core.own; engine = engine }))
  event-sealed site core engine v input draft made is drafts notes outs =
      let net : Net = site.net in
      let marks : List (Mark M) = event_marks site v input in
      let reached : AllReached core.own.keys (spoken draft.said) = subst (AllReached core.own.keys) (sym drafts.marks.tells.said) (event-reached stands approves site core v input is) in
      record {
        notes = notes ∙ drafts.marks.tells.notes;
        outs = outs reached ∙ ap (outs_for net core.own.keys.me) drafts.marks.tells.said ∙ outs-same net core.own.keys.me (signs_of marks) ∙ ap (λ (n : NodeId). outs_of net n (signs_of marks)) is.me_is;
        after = record {
          keeps = drafts.marks.after;
          me_is = is.me_is ∙ sym (me-after site marks v);
          speaks = speaks-on core.engine.sbac.config engine.sbac.config net core.own.keys
              (ap (λ (s : Setup). s.shards) (is.keeps.setup_is ∙ sym drafts.marks.after.setup_is)) (ap (λ (s : Setup). s.f) (is.keeps.setup_is ∙ sym drafts.marks.after.setup_is)) is.speaks;
          quiet = drafts.quiet;
        };
        quiet = drafts.quiet;
      }
