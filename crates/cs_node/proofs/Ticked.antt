-- What a core did at a tick, at the view for which it stood.
use Rattle.std.proofs.Common.{◌≡◌, ℕ, Bool, true, false, cond, List, [], ◌∷◌, ◌++◌, length, get_or, zero, suc, ◌<◌, Option, Some, None, arith, refl, ap, sym, subst, ◌∙◌, append-nil, append_assoc}
use Rattle.std.specs.Prelude.{is_some}
use Rattle.cs_tx_types.specs.Session.{SessionFits}
use Rattle.cs_node_pool.specs.Fits.{SessionsFit}
use Rattle.cs_base.specs.declared.node_id.NodeId.{NodeId}
use Rattle.cs_tx_value.specs.declared.object.Object.{Object}
use Rattle.cs_tx_types.specs.declared.transaction.Tx.{Tx}
use Rattle.cs_tx_types.specs.declared.session.Session.{Session}
use Rattle.cs_tx_types.specs.declared.vote.Vote.{Vote}
use Rattle.cs_tx_types.specs.declared.vote.Vote.TheVariants.{Commit}
use Rattle.cs_wire_message.specs.declared.message.Message.TheVariants as message
use Rattle.cs_check_rules.specs.Chain.{Log}
use Rattle.cs_order.specs.declared.answers.Outgoing.{Outgoing}
use Rattle.cs_order.specs.Deeds.{Deed, Resent, Ticked, Member, Machine, did, chosen_in}
use Rattle.cs_order.specs.Calls.{Resends, Ticks}
use Rattle.cs_node_state.specs.Setup.{Setup, concerned}
use Rattle.cs_node_state.specs.Bench.{Bench}
use Rattle.cs_node_state.specs.Pool.{Pool}
use Rattle.cs_node_state.specs.Admission.{due}
use Rattle.cs_node_rules.specs.Members.{others}
use Rattle.cs_node_rules.specs.Net.{Net}
use Rattle.cs_node_rules.specs.Signs.{Sign, bench_after, sends, vote_signs, asked_again}
use Rattle.cs_node_rules.specs.Site.{Carriers, Mark, Ordered, Site, View, view_after}
use Rattle.cs_node_rules.specs.Trail.{handed, with_deed, entered_view, again_marks, waiting_marks, tick_marks}
use Rattle.cs_node_rules.specs.Deployment.{site_of}
use Rattle.cs_node_pool.specs.Deployed.{deployed_setup}
use Rattle.cs_sbac.specs.Held.{bench_of}
use Rattle.cs_node_pool.specs.Calls.{locked_in}
use Rattle.cs_node.specs.declared.engine.Engine.{Engine}
use Rattle.cs_node.specs.Drafts.{Draft}
use Rattle.cs_node.specs.Notes.{TellsSigns}
use Rattle.cs_node.specs.Steps.{MakesMarks}
use Rattle.cs_node.specs.Cores.{IsSeated, KeepsView, core_view}
use Rattle.cs_node.proofs.Sums.{tells-more, bench-append, bench-sends, with_bench, view-plain, marks-more, marks-plain}
use Rattle.cs_node.proofs.Turns.{bench-handed, deed-done, moving-done, with_member}
use Rattle.cs_node.proofs.Doing.{from-nothing}
use Rattle.cs_node.proofs.Standing.{at-standing, keeps-on}

pub bench-voted : (setup : Setup) (shard : ℕ) (me : NodeId) (x : Session) (told : Option (Vote × Bool)) (b : Bench) → bench_after setup shard (vote_signs setup me x told) b ≡ b
bench-voted setup shard me x None b = refl
bench-voted setup shard me x (Some told) b = bench-sends setup shard (others setup.f me (concerned setup x)) (message.Voted told.0 told.1 x) b

bench-asked : (setup : Setup) (shard : ℕ) (me : NodeId) (pool : Pool) (b : Bench) → bench_after setup shard (asked_again setup me pool) b ≡ b
bench-asked setup shard me [] b = refl
bench-asked setup shard me (e ∷ pool) b =
    bench-append setup shard (asked_again setup me pool) (if_locked e.1.locked) b
    ∙ ap (bench_after setup shard (asked_again setup me pool)) (by_locked e.1.locked)
    ∙ bench-asked setup shard me pool b
  where
    if_locked : Bool → List Sign
    if_locked locked = cond locked (vote_signs setup me e.1.session (Some (Commit, true))) []

    by_locked : (locked : Bool) → bench_after setup shard (if_locked locked) b ≡ b
    by_locked true = bench-voted setup shard me e.1.session (Some (Commit, true)) b
    by_locked false = refl

-- ---- one after the other

-- what is asked of these sessions, the first of them first
abbrev pub asked_of : Setup → NodeId → List Session → List Sign
asked_of setup me [] = []
asked_of setup me (x ∷ xs) = asked_of setup me xs ++ vote_signs setup me x (Some (Commit, true))

pub asked-locked : (setup : Setup) (me : NodeId) (pool : Pool) → asked_of setup me (locked_in pool) ≡ asked_again setup me pool
asked-locked setup me [] = refl
asked-locked setup me (e ∷ pool) = by_locked (asked-locked setup me pool) e.1.locked
  where
    by_locked : asked_of setup me (locked_in pool) ≡ asked_again setup me pool → (locked : Bool) → asked_of setup me (cond locked (e.1.session ∷ locked_in pool) (locked_in pool)) ≡ asked_again setup me pool ++ cond locked (vote_signs setup me e.1.session (Some (Commit, true))) []
    by_locked later true = ap (λ xs. xs ++ vote_signs setup me e.1.session (Some (Commit, true))) later
    by_locked later false = later ∙ sym (append-nil (asked_again setup me pool))

pub asked-push : (setup : Setup) (me : NodeId) (xs : List Session) (x : Session) → asked_of setup me (xs ++ x ∷ []) ≡ vote_signs setup me x (Some (Commit, true)) ++ asked_of setup me xs
asked-push setup me [] x = sym (append-nil (vote_signs setup me x (Some (Commit, true))))
asked-push setup me (y ∷ xs) x =
    ap (λ signs. signs ++ vote_signs setup me y (Some (Commit, true))) (asked-push setup me xs x)
    ∙ append_assoc (vote_signs setup me x (Some (Commit, true))) (asked_of setup me xs) (vote_signs setup me y (Some (Commit, true)))

-- each of sessions that fit does
some-fits : (all : List Session) (k : ℕ) (x : Session) → k < length all → SessionsFit all → SessionFits (get_or all k x)
some-fits [] k x less fits = absurd (omega (arith, less))
some-fits (y ∷ all) zero x less fits = fits.0
some-fits (y ∷ all) (suc k) x less fits = some-fits all k x (omega (arith, less)) fits.1

pub fits-at : (all : List Session) (k : ℕ) (x : Session) → k < length all → x ≡ get_or all k x → SessionsFit all → SessionFits x
fits-at all k x less is fits = subst SessionFits (sym is) (some-fits all k x less fits)

module _ {O J M : Type 0} (stands : O → Member M → Type 0) (approves : J → Tx → Bool) (rules : Machine M) (carried : Carriers M) (net : Net) (core : Engine O J M) (genesis : List Object) (log : Log) (h : Member M) (made : Draft) (seated : IsSeated stands core log h) where
  abbrev setup : Setup
  setup = deployed_setup core.sbac.config genesis (approves core.judge)

  abbrev site : Site M
  site = site_of setup net rules carried

  abbrev v : View M
  v = core_view log core.sbac h

  abbrev After : Engine O J M → View M → Type 0
  After next = KeepsView stands approves setup next

  abbrev wants : ℕ → List Sign
  wants slot = sends (others core.sbac.config.f core.sbac.me (core.sbac.me.shard ∷ [])) (message.Want slot)

  abbrev asks : List Sign
  asks = asked_again setup core.sbac.me core.sbac.pool

  pub again-here : (mid late made' : Draft) (empty outs : List (Outgoing M)) (slot : ℕ) → empty ≡ [] → slot ≡ length (chosen_in h.deeds) → Resends rules h empty outs (stands core.order)
      → TellsSigns (handed site core.sbac.me outs) made mid → TellsSigns asks mid late → TellsSigns (wants slot) late made' → MakesMarks site (again_marks site v) v made made' (After core)
  again-here mid late made' empty outs slot none at called says asked wanted =
      let deed : Deed M = Resent (rules.resending h) in
      let w : View M = with_member (did deed h) v in
      let Q : View M → Type 0 = λ u. u ≡ w in
      let S : List (Outgoing M) → Type 0 = λ os. TellsSigns (handed site core.sbac.me os) made mid in
      let first : MakesMarks site (with_deed site v deed) v made mid Q = deed-done site v made mid Q deed (subst S (from-nothing empty outs (rules.resending h) none called.0) says) refl in
      let signs : List Sign = wants (length (chosen_in h.deeds)) ++ asks in
      let W : ℕ → Type 0 = λ n. TellsSigns (wants n ++ asks) mid made' in
      let tells : TellsSigns signs mid made' = subst W at (tells-more asks (wants slot) mid late made' asked wanted) in
      let still : bench_after setup core.sbac.me.shard signs (bench_of log core.sbac) ≡ bench_of log core.sbac =
      bench-append setup core.sbac.me.shard (wants (length (chosen_in h.deeds))) asks (bench_of log core.sbac)
      ∙ ap (bench_after setup core.sbac.me.shard (wants (length (chosen_in h.deeds)))) (bench-asked setup core.sbac.me.shard core.sbac.me core.sbac.pool (bench_of log core.sbac))
      ∙ bench-sends setup core.sbac.me.shard (others core.sbac.config.f core.sbac.me (core.sbac.me.shard ∷ [])) (message.Want (length (chosen_in h.deeds))) (bench_of log core.sbac) in
      let at_w : View M → Type 0 = λ u. After core (with_bench (bench_after setup u.me.shard signs u.bench) u) in
      let P : Bench → Type 0 = λ b. After core (with_bench b w) in
      marks-plain site signs (with_deed site v deed) v made mid made' Q (After core) first tells
      (subst at_w (sym first.after) (subst P (sym still) (keeps-on stands approves genesis core log h core.order core.sbac log (did deed h) seated called.1 refl refl refl refl seated.kept_is)))

  pub waited-here : (made' : Draft) (order : O) (empty outs : List (Outgoing M)) (slot before : ℕ) (on : Bool) → empty ≡ [] → slot ≡ length (chosen_in h.deeds) → before ≡ rules.view h → on ≡ is_some (due setup core.sbac.pool) → Ticks rules h on empty outs (stands order)
      → ((h' : Member M) → stands order h' → TellsSigns (handed site core.sbac.me outs ++ entered_view slot before (rules.view h')) made made')
      → MakesMarks site (waiting_marks site v (is_some (due setup core.sbac.pool))) v made made' (After (record { order = order; judge = core.judge; sbac = core.sbac }))
  waited-here made' order empty outs slot before on none at seen is_due called says =
      let next : Engine O J M = record { order = order; judge = core.judge; sbac = core.sbac } in
      let deed : Deed M = Ticked on (rules.ticking h on) in
      let sent : outs ≡ rules.ticking h on = from-nothing empty outs (rules.ticking h on) none called.0 in
      let D : Bool → Type 0 = λ b. MakesMarks site (waiting_marks site v b) v made made' (After next) in
      subst D is_due
      (moving-done site v made made' (After next) deed
      (subst (λ (signs : List Sign). TellsSigns signs made made') (λ i. handed site core.sbac.me (sent i) ++ entered_view (at i) (seen i) (rules.view (did deed h))) (says (did deed h) called.1))
      (keeps-on stands approves genesis core log h order core.sbac log (did deed h) seated called.1 refl refl refl refl seated.kept_is))

-- what is said again changes neither table nor pool
bench-again : {M : Type 0} (site : Site M) (v : View M) → (view_after site (again_marks site v) v).bench ≡ v.bench
bench-again {M} site v =
    let deed : Deed M = Resent (site.machine.resending v.member) in
    let wants' : List Sign = sends (others site.setup.f v.me (v.me.shard ∷ [])) (message.Want (length (chosen_in v.member.deeds))) in
    let asks' : List Sign = asked_again site.setup v.me v.bench.pool in
    let w : View M = with_member (did deed v.member) v in
    let first : view_after site (with_deed site v deed) v ≡ with_bench v.bench w =
    view-plain site (handed site v.me (site.machine.resending v.member)) (Ordered deed ∷ []) v ∙ ap (λ (b : Bench). with_bench b w) (bench-handed site v.me (site.machine.resending v.member) v.bench) in
    ap (λ (u : View M). u.bench) (view-plain site (wants' ++ asks') (with_deed site v deed) v ∙ ap (λ (u : View M). with_bench (bench_after site.setup u.me.shard (wants' ++ asks') u.bench) u) first)
    ∙ bench-append site.setup v.me.shard wants' asks' v.bench
    ∙ ap (bench_after site.setup v.me.shard wants') (bench-asked site.setup v.me.shard v.me v.bench.pool v.bench)
    ∙ bench-sends site.setup v.me.shard (others site.setup.f v.me (v.me.shard ∷ [])) (message.Want (length (chosen_in v.member.deeds))) v.bench

-- both
pub ticked-here : {O J M : Type 0} (stands : O → Member M → Type 0) (approves : J → Tx → Bool) (rules : Machine M) (carried : Carriers M) (net : Net) (core core' : Engine O J M) (genesis : List Object) (log : Log) (h : Member M) (made mid made' : Draft)
    → (let t : Setup = deployed_setup core.sbac.config genesis (approves core.judge) in MakesMarks (site_of t net rules carried) (again_marks (site_of t net rules carried) (core_view log core.sbac h)) (core_view log core.sbac h) made mid (KeepsView stands approves t core))
    → ((genesis : List Object) (log : Log) (h : Member M) → IsSeated stands core log h → (let t : Setup = deployed_setup core.sbac.config genesis (approves core.judge) in MakesMarks (site_of t net rules carried) (waiting_marks (site_of t net rules carried) (core_view log core.sbac h) (is_some (due t core.sbac.pool))) (core_view log core.sbac h) mid made' (KeepsView stands approves t core')))
    → (let t : Setup = deployed_setup core.sbac.config genesis (approves core.judge) in MakesMarks (site_of t net rules carried) (tick_marks (site_of t net rules carried) (core_view log core.sbac h)) (core_view log core.sbac h) made made' (KeepsView stands approves t core'))
ticked-here {O} {J} {M} stands approves rules carried net core core' genesis log h made mid made' first later =
    let setup : Setup = deployed_setup core.sbac.config genesis (approves core.judge) in
    let site : Site M = site_of setup net rules carried in
    let v : View M = core_view log core.sbac h in
    let again : List (Mark M) = again_marks site v in
    let w : View M = view_after site again v in
    let F : Setup → View M → Type 0 = λ t u. MakesMarks (site_of t net rules carried) (waiting_marks (site_of t net rules carried) u (is_some (due t u.bench.pool))) u mid made' (KeepsView stands approves t core') in
    let waited : MakesMarks site (waiting_marks site w (is_some (due setup w.bench.pool))) w mid made' (KeepsView stands approves setup core') = at-standing stands approves F setup core w first.after later in
    let B : Bench → Type 0 = λ b. MakesMarks site (waiting_marks site w (is_some (due setup b.pool))) w mid made' (KeepsView stands approves setup core') in
    marks-more site again (waiting_marks site w (is_some (due setup v.bench.pool))) v made mid made' (KeepsView stands approves setup core) (KeepsView stands approves setup core') first (subst B (bench-again site v) waited)
